-- An image follows a program: it refines it.
use Rattle.std.specs.Prelude.{◌≡◌, ℕ, List}
use Rattle.c_typed.specs.Trees.{TypedProgram}
use Rattle.c_typed.specs.Meaning.{source_run}
use Rattle.c_types.specs.Typed.{SpellsTyped}
use Rattle.image.specs.Images.{ImageParts, IsImage, image_bytes}
use Rattle.mips_code.specs.Agreement.{Agrees}
use Rattle.mips_machine.specs.ImageRuns.{image_run}
use Rattle.runs.specs.Refines.{Refines, UpTo}

-- for every number of steps after which the source isn't wrong there is a number of words after which the machine agrees. It has the same
-- output, isn't stuck, and has halted with a word exactly where the source is done with it. A word stands for so many steps at most
abbrev pub Follows : ImageParts → TypedProgram → (depth factor : ℕ) → Type 0
Follows image program depth factor = Refines (UpTo factor) Agrees (source_run program depth) (image_run image)

-- the headline: the text spells a program without faults, and the bytes are those of an image that follows it
pub record FollowsText (text : List ℕ) (depth factor : ℕ) (bytes : List ℕ) : Type 0 where
  pub program : TypedProgram
  pub spelled : SpellsTyped text program
  pub image : ImageParts
  pub fits : IsImage image
  pub is : bytes ≡ image_bytes image
  pub follows : Follows image program depth factor
