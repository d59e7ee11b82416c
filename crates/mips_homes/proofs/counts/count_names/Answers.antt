use Rattle.std.proofs.Common.{refl, ◌∷◌, []}
use Rattle.mips_homes.proofs.Counting.{counts_step, counts_end}
use Rattle.mips_homes.proofs.counts.count_names.Goals as goal

pub loop-x-preserved : goal.loop-x-preserved
loop-x-preserved c =
    counts_step (λ l. l) (λ x. x ∷ [])
    (λ x xs. refl) c.args.xs.now c.loop-x.x-index _ 0 _ _ _ c.loop-x-test.true refl c.in_ok-count_name.ensures c.loop-x.invariant

pub returns : goal.returns
returns c = counts_end (λ l. l) refl c.args.xs.now c.loop-x.x-index _ _ c.loop-x-test.false c.loop-x.invariant
