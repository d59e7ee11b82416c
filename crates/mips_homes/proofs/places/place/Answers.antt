use Rattle.mips_homes.specs.Places.{IsPlacedFor}
use Rattle.mips_homes.proofs.Framing.{frames_step, frames_end}
use Rattle.mips_homes.proofs.Located.{places_keep_runs}
use Rattle.mips_homes.specs.declared.homed.Homed.{Homed}
use Rattle.mips_homes.proofs.places.place.Goals as goal

pub loop-func-preserved : goal.loop-func-preserved
loop-func-preserved c =
    frames_step IsPlacedFor _ c.functions-func-items.result.now _ _ c.loop-func.func-index c.func-item.result c.in_ok-frame.frame
    c.functions-func-items.ensures.value c.loop-func-test.true c.func-item.is c.in_ok-push.ensures.items c.in_ok-frame.ensures c.loop-func.invariant

pub returns-clause-places : goal.returns-clause-places
returns-clause-places c =
    let h : Homed = record { rtl = c.args.rtl; frames = c.loop-func.frames } in
    frames_end IsPlacedFor h c.loop-func.func-index c.functions-func-items.result.now c.functions-func-items.ensures.value c.loop-func-test.false
    c.loop-func.auto.func-index-end c.loop-func.invariant

pub returns-clause-runs : goal.returns-clause-runs
returns-clause-runs c = places_keep_runs (record { rtl = c.args.rtl; frames = c.loop-func.frames }) (returns-clause-places c)
