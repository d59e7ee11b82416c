-- Which exits have a slot: a word after the exit word that runs before the exit takes effect.
use Rattle.std.specs.Prelude.{Bool, true, false}
use Rattle.mblock.specs.declared.exit.Exit.{Exit}
use Rattle.mblock.specs.declared.exit.Exit.TheVariants.{Out, Halt}

abbrev pub is_slotted : Exit → Bool
is_slotted (Out next) = false
is_slotted Halt = false
is_slotted exit = true
