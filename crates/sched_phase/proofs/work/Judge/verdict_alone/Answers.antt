use Rattle.std.proofs.Common.{Some}
use Rattle.std.proofs.lemmas.List.Elements.{All-pop}
use Rattle.term_table.specs.Passes.{IsOf}
use Rattle.sched_phase.proofs.work.Judge.verdict_alone.Goals as goal

pub proposal_verdict-requires : goal.proposal_verdict-requires
proposal_verdict-requires g c =
    ((All-pop (IsOf c.in-Ok.table) _ _ (Some c.in-Some.pass) c.in-Some.ensures.items c.in-Ok.ensures.own).1, tt)
