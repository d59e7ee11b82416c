use Rattle.rtl_emit.proofs.Blocks.{coded, fills_set, insts_set}
use Rattle.rtl_emit.proofs.Sound.{sound_set}
use Rattle.rtl_emit.specs.Blocks.{open_code}
use Rattle.rtl_emit.proofs.block.fill.Goals as goal

pub returns-clause-fills : goal.returns-clause-fills
returns-clause-fills c = fills_set _ _ _ (open_code c.args.code) c.requires (coded c.reverse.ensures.items)

pub returns-clause-insts : goal.returns-clause-insts
returns-clause-insts c = insts_set _ _ _ (open_code c.args.code) (coded c.reverse.ensures.items)

pub returns-clause-sound : goal.returns-clause-sound
returns-clause-sound c = λ s g h. sound_set s _ _ _ (open_code c.args.code) (coded c.reverse.ensures.items) g h
