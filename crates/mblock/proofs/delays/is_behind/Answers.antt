use Rattle.std.proofs.Common.{refl, sym, ◌∙◌, arith}
use Rattle.mblock.specs.Clean.{kinds_of, slot_words}
use Rattle.mblock.specs.CleanTests.{early_at}
use Rattle.mblock.proofs.WordPlaces.{behind_is, below_next}
use Rattle.mblock.proofs.delays.is_behind.Goals as goal

pub loop-k-preserved : goal.loop-k-preserved
loop-k-preserved c =
    below_next (early_at (kinds_of c.args.insts.now (slot_words c.args.slot.now))) c.loop-k.k c.loop-k.invariant
    (sym c.is_early_at.ensures ∙ c.if-is_early_at.false)

pub returns : goal.returns
returns c =
    (λ _. behind_is c.args.insts.now c.args.slot.now (λ k lt. c.loop-k.invariant k (omega (arith, lt))), λ _. refl)
