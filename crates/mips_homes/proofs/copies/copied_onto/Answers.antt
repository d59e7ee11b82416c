use Rattle.std.proofs.Common.{◌≡◌, List, sym, ap, ◌∙◌, ◌++◌, ◌∷◌, [], drop}
use Rattle.std.proofs.lemmas.List.{append-nil, at_drop_all}
use Rattle.std.specs.Prelude.{slice_get}
use Rattle.mips_homes.specs.declared.homed.Home.{Home}
use Rattle.mips_homes.specs.Copies.{with_copy, copied_onto}
use Rattle.mips_homes.proofs.Copying.{copied_step}
use Rattle.mips_homes.proofs.copies.copied_onto.Goals as goal
use Rattle.mips_homes.proofs.copies.copied_onto.Goals.{then-is_slot, else-is_slot}

pub loop-home-preserved : goal.loop-home-preserved
loop-home-preserved c =
    let copy : c.with_copy.result ≡ with_copy c.home-item.result (slice_get c.args.free.now c.loop-home.used) =
    c.with_copy.ensures ∙ ap (with_copy c.home-item.result) c.register_at.ensures in
    let more = ◌∙◌ {A = List Home} c.in_ok-push.ensures.items (ap (λ h. c.loop-home.out.items ++ h ∷ []) copy) in
    let step = copied_step c.args.free.now c.args.homes.now c.loop-home.home-index c.loop-home.used in
    elim c.if-is_slot.branch [
      | then-is_slot w ↦ step _ _ _ _ _ _ c.loop-home-test.true c.home-item.is
          (sym c.is_slot.ensures ∙ w.if-is_slot.true) w.used-is more c.loop-home.invariant
      | else-is_slot w ↦ step _ _ _ _ _ _ c.loop-home-test.true c.home-item.is
          (sym c.is_slot.ensures ∙ w.if-is_slot.false) w.used-is more c.loop-home.invariant
    ]

pub returns : goal.returns
returns c =
    let end = at_drop_all (copied_onto (drop c.loop-home.used c.args.free.now)) c.args.homes.now c.loop-home.home-index c.loop-home-test.false in
    sym (ap (λ l. c.loop-home.out.items ++ l) end ∙ append-nil c.loop-home.out.items) ∙ c.loop-home.invariant.1
