use Rattle.host.proofs.Shown.{shown_told, told_one}
use Rattle.driver.proofs.build_command.tell_warnings.Goals as goal

pub returns-then-not-is_empty : goal.returns-then-not-is_empty
returns-then-not-is_empty g c =
    told_one g.E.Complaints.tells _ _ _ c.bytes-then-not-is_empty-2.ensures (shown_told _ c.bytes-then-not-is_empty.ensures.shown)
