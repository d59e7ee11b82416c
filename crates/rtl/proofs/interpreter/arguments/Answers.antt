use Rattle.std.proofs.Common.{◌≡◌, ◌<◌, ℕ, suc, List, [], ◌∷◌, ◌++◌, Option, Some, None, map, drop, length, get_or}
use Rattle.std.proofs.Common.{refl, sym, ap, ◌∙◌, append_assoc, append-nil, add-one}
use Rattle.std.specs.Option.{option_map}
use Rattle.std.proofs.Math.Seq.{drop-cons}
use Rattle.std.proofs.lemmas.List.{drop_all}
use Rattle.runs.specs.Kept.{places}
use Rattle.runs.specs.Stores.{Places, chain}
use Rattle.rtl.specs.Meaning.{words_in}
use Rattle.rtl.proofs.interpreter.arguments.Goals as goal

-- the words found so far, and those of the registers that are left
abbrev so-far : Places → List (Option ℕ) → List ℕ → Option (List (Option ℕ))
so-far r old xs = option_map (λ vs. old ++ map Some vs) (words_in r xs)

one-more : (r : Places) (old : List (Option ℕ)) (xs : List ℕ) (i v : ℕ) → i < length xs → r (get_or xs i 0) ≡ Some v
    → so-far r (old ++ Some v ∷ []) (drop (suc i) xs) ≡ so-far r old (drop i xs)
one-more r old xs i v lt is =
    moved (words_in r (drop (suc i) xs))
    ∙ ap (λ o. option_map (λ vs. old ++ map Some vs) (chain o (λ w. chain (words_in r (drop (suc i) xs)) (λ vs. Some (w ∷ vs))))) (sym is)
    ∙ ap (so-far r old) (sym (drop-cons xs i 0 lt))
  where
    moved : (w : Option (List ℕ)) → option_map (λ vs. (old ++ Some v ∷ []) ++ map Some vs) w
        ≡ option_map (λ vs. old ++ map Some vs) (chain w (λ vs. Some (v ∷ vs)))
    moved None = refl
    moved (Some vs) = ap Some (append_assoc old (Some v ∷ []) (map Some vs))

none-more : (r : Places) (old : List (Option ℕ)) (xs : List ℕ) (i : ℕ) → i < length xs → r (get_or xs i 0) ≡ None → so-far r old (drop i xs) ≡ None
none-more r old xs i lt is =
    ap (so-far r old) (drop-cons xs i 0 lt)
    ∙ ap (λ o. option_map (λ vs. old ++ map Some vs) (chain o (λ w. chain (words_in r (drop (suc i) xs)) (λ vs. Some (w ∷ vs))))) is

pub loop-x-preserved : goal.loop-x-preserved
loop-x-preserved c =
    rw (add-one, c.in_ok-push.ensures.items)
    (one-more (places c.args.registers.now) c.loop-x.values.items c.args.all.now c.loop-x.x-index c.in-Some.v c.loop-x-test.true
    (sym c.register.ensures ∙ c.in-Some.is) ∙ c.loop-x.invariant)

pub returns-in_default : goal.returns-in_default
returns-in_default c =
    sym (none-more (places c.args.registers.now) c.loop-x.values.items c.args.all.now c.loop-x.x-index c.loop-x-test.true
    (sym c.register.ensures ∙ c.in_default.is)) ∙ c.loop-x.invariant

pub returns : goal.returns
returns c =
    ap Some (sym (append-nil c.loop-x.values.items))
    ∙ ap (so-far (places c.args.registers.now) c.loop-x.values.items) (sym (drop_all c.loop-x.x-index c.args.all.now c.loop-x-test.false))
    ∙ c.loop-x.invariant
