use Rattle.std.proofs.Common.{◌≡◌, ◌<◌, ℕ, suc, List, [], ◌∷◌, ◌++◌, Option, Some, None, map, drop, length, get_or}
use Rattle.std.proofs.Common.{refl, sym, ap, ◌∙◌, append_assoc, append-nil, add-one}
use Rattle.std.specs.Option.{option_map}
use Rattle.std.proofs.Math.Seq.{drop-cons}
use Rattle.std.proofs.lemmas.List.{drop_all}
use Rattle.runs.specs.Kept.{places, arrays}
use Rattle.runs.specs.Stores.{Places, Arrays, chain}
use Rattle.c_typed.specs.declared.tree.TypedExpression.{TypedExpression}
use Rattle.c_typed.specs.Shape.{typed_expression_of, typed_expressions_of}
use Rattle.c_typed.specs.Values.{value_of, values_of}
use Rattle.c_run.proofs.interpreter.arguments.Goals as goal

-- the words found so far, and those of the arguments that are left
abbrev so-far : Places → Arrays → List (Option ℕ) → List TypedExpression → Option (List (Option ℕ))
so-far l g old xs = option_map (λ vs. old ++ map Some vs) (values_of (typed_expressions_of xs) l g)

module _ (l : Places) (g : Arrays) (old : List (Option ℕ)) (xs : List TypedExpression) (i : ℕ) (x : TypedExpression) (lt : i < length xs)
    (there : x ≡ get_or xs i x) where
  first-left : drop i xs ≡ x ∷ drop (suc i) xs
  first-left = drop-cons xs i x lt ∙ ap (λ (y : TypedExpression). y ∷ drop (suc i) xs) (sym there)

  one-more : (v : ℕ) → value_of (typed_expression_of x) l g ≡ Some v → so-far l g (old ++ Some v ∷ []) (drop (suc i) xs) ≡ so-far l g old (drop i xs)
  one-more v is =
      moved (values_of (typed_expressions_of (drop (suc i) xs)) l g)
      ∙ ap (λ o. option_map (λ vs. old ++ map Some vs) (chain o (λ w. chain (values_of (typed_expressions_of (drop (suc i) xs)) l g) (λ vs. Some (w ∷ vs)))))
      (sym is)
      ∙ ap (so-far l g old) (sym first-left)
    where
      moved : (w : Option (List ℕ)) → option_map (λ vs. (old ++ Some v ∷ []) ++ map Some vs) w
          ≡ option_map (λ vs. old ++ map Some vs) (chain w (λ vs. Some (v ∷ vs)))
      moved None = refl
      moved (Some vs) = ap Some (append_assoc old (Some v ∷ []) (map Some vs))

  none-more : value_of (typed_expression_of x) l g ≡ None → so-far l g old (drop i xs) ≡ None
  none-more is =
      ap (so-far l g old) first-left
      ∙ ap (λ o. option_map (λ vs. old ++ map Some vs) (chain o (λ w. chain (values_of (typed_expressions_of (drop (suc i) xs)) l g) (λ vs. Some (w ∷ vs))))) is

pub loop-expression-preserved : goal.loop-expression-preserved
loop-expression-preserved c =
    rw (add-one, c.in_ok-push.ensures.items)
    (one-more (places c.args.locals.now) (arrays c.args.globals.now) c.loop-expression.values.items c.args.expressions.now c.loop-expression.expression-index
    c.expression-item.result c.loop-expression-test.true c.expression-item.is c.in-Some.v (sym c.value.ensures ∙ c.in-Some.is)
    ∙ c.loop-expression.invariant)

pub returns-in_default : goal.returns-in_default
returns-in_default c =
    sym (none-more (places c.args.locals.now) (arrays c.args.globals.now) c.loop-expression.values.items c.args.expressions.now
    c.loop-expression.expression-index c.expression-item.result c.loop-expression-test.true c.expression-item.is (sym c.value.ensures ∙ c.in_default.is))
    ∙ c.loop-expression.invariant

pub returns : goal.returns
returns c =
    ap Some (sym (append-nil c.loop-expression.values.items))
    ∙ ap (so-far (places c.args.locals.now) (arrays c.args.globals.now) c.loop-expression.values.items)
    (sym (drop_all c.loop-expression.expression-index c.args.expressions.now c.loop-expression-test.false))
    ∙ c.loop-expression.invariant
