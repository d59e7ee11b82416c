-- The run of an image's bytes.
use Rattle.std.specs.Prelude.{◌≡◌, ℕ, List}
use Rattle.image.specs.Images.{ImageParts, IsImage, image_bytes}
use Rattle.runs.specs.Portions.{IsCount}
use Rattle.mips_code.specs.Machines.{MachineOutcome}
use Rattle.mips_code.specs.declared.steps.Ending.TheVariants.{More}
use Rattle.mips_machine.specs.ImageRuns.{image_run}

-- what the image that has these bytes comes to
pub record IsImageRun (bytes : List ℕ) (steps : ℕ) (o : MachineOutcome) : Type 0 where
  pub image : ImageParts
  pub fits : IsImage image
  pub written : image_bytes image ≡ bytes
  pub run : o ≡ image_run image steps

-- it executes so many of the words of code that were asked for
abbrev pub IsWordCount : (bytes : List ℕ) → (steps count : ℕ) → Type 0
IsWordCount bytes steps count = (image : ImageParts) × IsImage image × (image_bytes image ≡ bytes) × IsCount (image_run image) More steps count
