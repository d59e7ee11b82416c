use Rattle.std.proofs.Common.{Some}
use Rattle.std.proofs.lemmas.List.Elements.{All-pop}
use Rattle.sched_phase.specs.Settling.{ServesTerms}
use Rattle.sched_phase.proofs.phase.batch_by_one.Goals as goal

pub one_by_one-requires-clause-pass : goal.one_by_one-requires-clause-pass
one_by_one-requires-clause-pass g c =
    (All-pop (ServesTerms c.in_ok-terms.terms) _ _ (Some c.in-Some.pass) c.in-Some.ensures.items c.in_ok-terms.ensures.serve).1
