-- A place that isn't the end.
use Rattle.std.proofs.Common.{◌≡◌, refl}
use Rattle.mblock.specs.Parts.{BlockParts, OrderParts}
use Rattle.block_text.specs.declared.stage.Stage.{Stage}
use Rattle.block_text.specs.declared.stage.Stage.TheVariants as stages
use Rattle.block_text.specs.StageParts.{Done}
use Rattle.block_text.specs.Stages.{stage_parts}

pub not_at_end : (p : Stage) (b : BlockParts) (o : OrderParts) → ((x : BlockParts) (y : OrderParts) → p ≡ stages.Done x y → ⊥) → Done b o ≡ stage_parts p → ⊥
not_at_end (stages.Done x y) b o f e = f x y refl
not_at_end _ b o f e = cc
