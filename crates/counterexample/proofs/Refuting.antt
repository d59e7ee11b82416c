-- A refuted order doesn't mean its block.
use Rattle.std.proofs.Common.{◌≡◌, ◌≢◌, ℕ, Option, Some, None, sym, ap, ◌∙◌}
use Rattle.std.specs.Prelude.{IfSome}
use Rattle.mips_isa.specs.States.{State}
use Rattle.mblock.specs.Parts.{BlockParts, OrderParts}
use Rattle.mblock.specs.Orders.{Means}
use Rattle.std.proofs.lemmas.Option.{same_Some, none-some}
use Rattle.mblock.specs.BlockMeaning.{Effect}
use Rattle.counterexample.specs.declared.difference.Difference.{Difference}
use Rattle.counterexample.specs.declared.difference.Difference.TheVariants as differences
use Rattle.counterexample.specs.Refuting.{DiffersIn, Refutes, RefutedOrdersDoNotMeanTheirBlocks, NoRefutingStateAgrees}

apart : {A : Type 0} (part : Effect → A) (x : Effect) (y : Option Effect) → (z : Effect) × (y ≡ Some z) × (part x ≢ part z) → y ≡ Some x → ⊥
apart part x y h e = h.2 (ap part (same_Some x h.0 (sym e ∙ h.1)))

-- what differs isn't the same
pub not_same : (d : Difference) (x : Effect) (y : Option Effect) → DiffersIn d x y → y ≡ Some x → ⊥
not_same differences.Stuck x y h e = none-some x (sym h ∙ e)
not_same (differences.Register r) x y h e = apart (λ z. z.state.regs r) x y h e
not_same differences.Hi x y h e = apart (λ z. z.state.hi) x y h e
not_same differences.Lo x y h e = apart (λ z. z.state.lo) x y h e
not_same (differences.Memory a) x y h e = apart (λ z. z.state.memory a) x y h e
not_same differences.Exit x y h e = apart (λ z. z.goes) x y h e

pub refuted : RefutedOrdersDoNotMeanTheirBlocks
refuted b o s link d h means = not_same d h.left _ h.differs (means s link h.left h.words h.low h.runs)

pub disagrees : NoRefutingStateAgrees
disagrees b o s link d h agrees = not_same d h.left _ h.differs (agrees h.left h.runs)

-- what is found refutes, and so the order doesn't mean its block
pub no_meaning : (b : BlockParts) (o : OrderParts) (s : State) (link : ℕ) (r : Option Difference)
    → IfSome r (λ d. Refutes b o s link d) → IfSome r (λ d. Means b o → ⊥)
no_meaning b o s link (Some d) h = refuted b o s link d h
no_meaning b o s link None h = tt
