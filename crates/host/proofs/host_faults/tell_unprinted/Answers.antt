use Rattle.std.proofs.Common.{codes, inl, inr, refl}
use Rattle.std.proofs.lemmas.List.Elements.{All-push}
use Rattle.text.specs.Shown.{IsTold}
use Rattle.host.specs.Texts.{host_fault_text}
use Rattle.host.proofs.Shown.{literal, told_one}
use Rattle.host.proofs.Told.{line_on}
use Rattle.host.proofs.host_faults.tell_unprinted.Goals as goal

pub returns-in-CannotWrite-clause-told : goal.returns-in-CannotWrite-clause-told
returns-in-CannotWrite-clause-told g c = line_on g.E.Complaints.tells _ _ _ (host_fault_text c.args.fault) c.tell-status.ensures.told
    (told_one g.E.Complaints.tells _ _ _ c.line.ensures
    (All-push IsTold (codes "error: standard output can't be written") 10 (literal (codes "error: standard output can't be written") refl) (inl (inr refl))))
