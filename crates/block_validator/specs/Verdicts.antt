-- The verdict on an order for a block.
use Rattle.std.specs.Prelude.{◌≡◌}
use Rattle.mblock.specs.Parts.{BlockParts, OrderParts}
use Rattle.mblock.specs.declared.unclean.Unclean.{Unclean}
use Rattle.mblock.specs.Clean.{IsClean, BreaksFirst}
use Rattle.sym_exec.specs.Symbolic.{block_trees, order_trees}
use Rattle.block_validator.specs.declared.place.Place.{Place}
use Rattle.block_validator.specs.declared.verdict.Verdict.{Verdict}
use Rattle.block_validator.specs.declared.verdict.Verdict.TheVariants as verdicts
use Rattle.block_validator.specs.Same.{SameTrees, DiffersFirst}

-- what is decided of an order: that it means its block, the least delay rule that it breaks, or the first place that differs
pub data Decision : Type 0 where
  same : Decision
  unclean : Unclean → Decision
  differs : Place → Decision

-- unclean with the least rule that is broken, else the first place that differs, else the same
abbrev pub Decides : BlockParts → OrderParts → Decision → Type 0
Decides b o same = IsClean o × SameTrees (block_trees b) (order_trees o)
Decides b o (unclean rule) = BreaksFirst rule o
Decides b o (differs place) = IsClean o × DiffersFirst (block_trees b) (order_trees o) place

-- a block and an order have at most one decision
abbrev pub OneDecision : Type 0
OneDecision = (b : BlockParts) (o : OrderParts) (d e : Decision) → Decides b o d → Decides b o e → d ≡ e

-- a full table and refused memory are no verdict, and come only on a clean order
abbrev pub IsVerdict : BlockParts → OrderParts → Verdict → Type 0
IsVerdict b o (verdicts.Unclean rule) = Decides b o (unclean rule)
IsVerdict b o (verdicts.Differs place) = Decides b o (differs place)
IsVerdict b o (verdicts.Same checked) = Decides b o same × (checked.block ≡ b) × (checked.order ≡ o)
IsVerdict b o verdicts.Full = IsClean o
IsVerdict b o verdicts.NoMemory = IsClean o
