use Rattle.std.proofs.Common.{◌+◌, slice_get, refl, sym, ◌∙◌, true≢false, arith}
use Rattle.mblock.specs.CleanTests.{conflict_of}
use Rattle.mblock.proofs.WordPlaces.{apart_is, apart_not, below_next}
use Rattle.mblock.proofs.delays.is_apart.Goals as goal

pub returns-then-is_conflict_at : goal.returns-then-is_conflict_at
returns-then-is_conflict_at c =
    (λ t. absurd (true≢false (sym t)), λ apart. absurd (apart_not c.args.insts.now c.loop-k.k (sym c.is_conflict_at.ensures ∙ c.if-is_conflict_at.true) apart))

pub loop-k-preserved : goal.loop-k-preserved
loop-k-preserved c =
    below_next (λ i. conflict_of (slice_get c.args.insts.now i) (slice_get c.args.insts.now (i + 1))) c.loop-k.k c.loop-k.invariant
    (sym c.is_conflict_at.ensures ∙ c.if-is_conflict_at.false)

pub returns : goal.returns
returns c =
    (λ _. apart_is c.args.insts.now (λ k lt. c.loop-k.invariant k (omega (arith, lt))), λ _. refl)
