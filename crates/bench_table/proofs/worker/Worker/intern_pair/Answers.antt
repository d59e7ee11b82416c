use Rattle.term_table.proofs.Callers.{still_of}
use Rattle.bench_table.proofs.Leaves.{still_all}
use Rattle.bench_table.proofs.worker.Worker.intern_pair.Goals as goal

pub returns-clause-ready : goal.returns-clause-ready
returns-clause-ready c =
    let r = c.requires.ready in
    record { pass = still_of c.intern.ensures.extends r.pass; count = r.count; terms = r.terms; last = r.last; seen = still_all _ c.intern.ensures.extends r.seen }
