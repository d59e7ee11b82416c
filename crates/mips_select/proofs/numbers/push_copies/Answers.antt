use Rattle.std.proofs.Common.{[], ◌∷◌, ◌++◌, ap, ◌∙◌, append_assoc}
use Rattle.std.specs.Prelude.{replicate}
use Rattle.std.proofs.lemmas.List.{replicate_more}
use Rattle.mips_select.proofs.numbers.push_copies.Goals as goal

pub loop-preserved : goal.loop-preserved
loop-preserved c =
    let was = c.args.table.now.items in
    let o = c.args.n in
    c.in_ok-push.ensures ∙ ap (λ l. l ++ o ∷ []) c.loop.invariant ∙ append_assoc was (replicate c.loop.counter o) (o ∷ [])
    ∙ ap (λ l. was ++ l) (replicate_more c.loop.counter o)
