-- A place that is pushed is empty, as those before it are.
use Rattle.std.proofs.Common.{All, Bool, None, not, refl, sym, subst, ap, ◌≡◌, ◌+◌, ◌++◌, ◌∷◌, [], ◌∙◌, vec_len}
use Rattle.std.specs.Prelude.{if◌then◌else◌}
use Rattle.std.proofs.lemmas.List.Elements.{All-push}
use Rattle.steal_pool.proofs.answers.nones.Goals as goal

pub loop-preserved : goal.loop-preserved
loop-preserved g c =
    let ok = c.is_err.ensures.negation ∙ ap not c.if-is_err.false in
    let items = c.push.ensures.items ∙ ap (λ (b : Bool). if b then c.loop.all.items ++ None ∷ [] else c.loop.all.items) ok in
    let len = c.push.ensures.len ∙ ap (λ (b : Bool). if b then vec_len c.loop.all + 1 else vec_len c.loop.all) ok in (
      len ∙ ap (λ n. n + 1) c.loop.invariant.0,
      subst (All (λ x. x ≡ None)) (sym items) (All-push (λ x. x ≡ None) c.loop.all.items None c.loop.invariant.1 refl),
    )
