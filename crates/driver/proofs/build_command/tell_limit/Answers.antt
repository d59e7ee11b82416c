use Rattle.std.proofs.Common.{refl, inl, inr}
use Rattle.std.proofs.lemmas.List.Elements.{All-push}
use Rattle.text.specs.Shown.{IsTold}
use Rattle.host.proofs.Shown.{shown_told, told_one, told_too}
use Rattle.driver.proofs.build_command.tell_limit.Goals as goal

pub returns-in-Some : goal.returns-in-Some
returns-in-Some g c = told_too g.E.Complaints.tells _ _ _ _
    (told_one g.E.Complaints.tells _ _ _ c.line.ensures (All-push IsTold _ 10 c.limit_text-about.ensures (inl (inr refl))))
    c.bytes-2.ensures (shown_told _ c.bytes.ensures.shown)

pub returns-else-eq : goal.returns-else-eq
returns-else-eq g c = told_one g.E.Complaints.tells _ _ _ c.line.ensures (All-push IsTold _ 10 c.limit_text-about.ensures (inl (inr refl)))
