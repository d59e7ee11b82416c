-- What a build makes of a scheduled unit.
use Rattle.std.specs.Prelude.{◌≡◌, length}
use Rattle.image.specs.Images.{ImageParts, Second, IsImage, image_bytes}
use Rattle.image.specs.Views.{counts_of}
use Rattle.sched_phase.specs.Schedules.{ScheduledParts, IsScheduled, ArePlain, no_counts}
use Rattle.mips_asm.specs.Assembled.{IsAssembled}
use Rattle.driver.specs.declared.builds.Built.{Built}

-- image, report and number of blocks are those of this scheduled unit
pub record IsBuildOf (scheduled : ScheduledParts) (b : Built) : Type 0 where
  pub image : ImageParts
  pub fits : IsImage image
  pub bytes : b.image.items ≡ image_bytes image
  pub orders : IsScheduled scheduled
  pub assembled : IsAssembled scheduled.unit scheduled.orders image
  pub counted : image.version ≡ Second scheduled.report
  pub report : counts_of b.report ≡ scheduled.report
  pub blocks : b.blocks ≡ length scheduled.unit.blocks

-- they are those of one that is as asked. Bytes are those of one image at most (`one_image`), so this is the image that follows the program
pub record IsScheduledBuild (Suits : ScheduledParts → Type 0) (b : Built) : Type 0 where
  pub scheduled : ScheduledParts
  pub suits : Suits scheduled
  pub build : IsBuildOf scheduled b

-- every block in its plain order, and none counted
pub record IsPlain (s : ScheduledParts) : Type 0 where
  pub orders : ArePlain s
  pub report : s.report ≡ no_counts
