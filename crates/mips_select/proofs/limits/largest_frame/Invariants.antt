use Rattle.std.proofs.Common.{◌≡◌, ◌≤◌, drop, max}
use Rattle.mips_emit.specs.declared.limits.TheConstants.{FRAME_BYTES}
use Rattle.mips_select.specs.Limits.{largest_by_homes}
use Rattle.mips_select.proofs.limits.largest_frame.Given as goal

abbrev pub invariant-loop-frame : goal.invariant-loop-frame
invariant-loop-frame l =
    (l.largest ≤ FRAME_BYTES) × (max l.largest (largest_by_homes (drop l.frame-index l.frames)) ≡ largest_by_homes l.frames)
