use Rattle.c_typed.specs.Shape.{statements_of}
use Rattle.c_run.specs.Sizes.{sizes}
use Rattle.c_run.proofs.Sizes.{list-waits}
use Rattle.c_run.proofs.pending.Agenda.put_list.Goals as goal

pub returns-clause-more : goal.returns-clause-more
returns-clause-more c = list-waits c.args.self.now.behind.items c.push.new.self.items c.args.self.now.list (sizes (statements_of c.args.list.now))
    c.in_ok-push.ensures.items
