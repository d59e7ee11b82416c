use Rattle.std.proofs.Common.{refl, arith}
use Rattle.std.specs.Prelude.{None}
use Rattle.rtl.specs.declared.instruction.RExit.TheVariants as X
use Rattle.rtl_emit.specs.Blocks.{exit_code}
use Rattle.rtl_emit.proofs.Blocks.{coded, insts_push}
use Rattle.rtl_emit.proofs.Sound.{sound_push, sound_exit}
use Rattle.rtl_emit.proofs.block.reserve.Goals as goal

pub returns-clause-insts : goal.returns-clause-insts
returns-clause-insts c =
    omega (arith, insts_push _ _ _ (exit_code (X.Return None)) c.in_ok-put_block.ensures.added (coded c.new.ensures.items))

pub returns-clause-sound : goal.returns-clause-sound
returns-clause-sound c = λ s g.
    sound_push s _ _ _ (exit_code (X.Return None)) c.in_ok-put_block.ensures.added (coded c.new.ensures.items) g (sound_exit (X.Return None) refl tt)
