-- Each step keeps the rule of a deque of tasks.
use Rattle.std.proofs.Common.{◌≡◌, ◌≢◌, ℕ, zero, suc, ◌+◌, true, List, [], ◌∷◌, ◌++◌, set, sym, refl, ap, ◌∙◌, subst, ⊎_elim, append-nil, append_assoc, arith}
use Rattle.std.specs.List.{sum_by}
use Rattle.std.proofs.lemmas.List.Sums.{sum_by-cons, sum_by-append, sum_by_push}
use mathlib.Core.Option.{some, some-ne-none}
use lib.ListN.{get_elem?}
use Rattle.crossbeam_deque.specs.Tasks.{Pushes, Takes, Forks, Finds, FindsFew}
use Rattle.crossbeam_deque.proofs.Lists.{at_set, at_snoc, set_again}
use Rattle.steal_pool.specs.declared.view.View.{View}
use Rattle.steal_pool.specs.Rule.{times, maker, shared, after_putting, after_taking, Dealt, KeptByPutting, KeptByTaking, KeptBySharing, Notes, all_taken}

-- the sum over the passes after a change of one
pub sum_set : (f : View → ℕ) (views : List View) (port : ℕ) (v w : View) → get_elem? views port ≡ some v → sum_by f (set views port w) + f v ≡ sum_by f views + f w
sum_set f [] port v w at = absurd (some-ne-none v (sym at))
sum_set f (u ∷ us) zero v w at =
    let e : u ≡ v = cc at in
    let same : f u ≡ f v = ap f e in
    let a : sum_by f (w ∷ us) ≡ f w + sum_by f us = sum_by-cons f w us in
    let b : sum_by f (u ∷ us) ≡ f u + sum_by f us = sum_by-cons f u us in
    omega arith
sum_set f (u ∷ us) (suc port) v w at =
    let a : sum_by f (u ∷ set us port w) ≡ f u + sum_by f (set us port w) = sum_by-cons f u (set us port w) in
    let b : sum_by f (u ∷ us) ≡ f u + sum_by f us = sum_by-cons f u us in
    let c = sum_set f us port v w at in
    omega arith

-- the one pass that may put knows what was put
abbrev pub Knows : List ℕ → ℕ → View → Type 0
Knows put port v = v.puts ≡ true → (port ≡ 0) × (v.put ≡ put)

-- each pass knows what was put first
abbrev pub Start : List ℕ → List ℕ → Type 0
Start put xs = (rest : List ℕ) × (xs ++ rest ≡ put)

pub begins : Dealt [] (maker ∷ [])
begins = (
  [],
  (λ x. refl),
  λ port v at.
      elim port as (λ p. get_elem? (maker ∷ []) p ≡ some v → Knows [] p v) [
        | zero ↦ (λ is may. let e : maker ≡ v = cc is in (refl, ap (λ (u : View). u.put) (sym e)))
        | suc p ↦ (λ is may. absurd (some-ne-none v (sym is)))
      ] at,
  λ port v at.
      elim port as (λ p. get_elem? (maker ∷ []) p ≡ some v → Start [] v.put) [
        | zero ↦ (λ is. let e : maker ≡ v = cc is in ([], ap (λ (u : View). u.put ++ []) (sym e)))
        | suc p ↦ (λ is. absurd (some-ne-none v (sym is)))
      ] at,
)

-- of each view and its port after a change of one
each_set : (R : ℕ → View → Type 0) (views : List View) (port : ℕ) (w : View) → R port w → ((j : ℕ) (u : View) → j ≢ port → get_elem? views j ≡ some u → R j u)
    → (j : ℕ) (u : View) → get_elem? (set views port w) j ≡ some u → R j u
each_set R views port w mine others j u e =
    ⊎_elim (λ (x : (j ≡ port) × (w ≡ u)). subst (λ (y : ℕ × View). R y.0 y.1) (λ i. (sym x.0 i, x.1 i)) mine)
    (λ (x : (j ≢ port) × (get_elem? views j ≡ some u)). others j u x.0 x.1) (at_set views port j w u e)

longer : (put xs : List ℕ) (more : List ℕ) → Start put xs → Start (put ++ more) xs
longer put xs more (rest, is) = (rest ++ more, sym (append_assoc xs rest more) ∙ ap (λ l. l ++ more) is)

pub dealt_takes : KeptByTaking Dealt
dealt_takes xs items views port v h at =
    let w : View = after_taking v xs in let put = h.0 in (
      put,
      (λ x.
          let f : View → ℕ = λ u. times x u.taken in
          let a : sum_by f (set views port w) + f v ≡ sum_by f views + f w = sum_set f views port v w at in
          let b : times x (v.taken ++ xs) ≡ times x v.taken + times x xs = sum_by-append _ v.taken xs in
          let c : times x (xs ++ items) ≡ times x xs + times x items = sum_by-append _ xs items in
          let d = h.1 x in
          omega arith),
      each_set (Knows put) views port w (h.2 port v at) (λ j u other. h.2 j u),
      each_set (λ j u. Start put u.put) views port w (h.3 port v at) (λ j u other. h.3 j u),
    )

pub dealt_puts : KeptByPutting Dealt
dealt_puts xs items views port v h at may =
    let w : View = after_putting v xs in let put = h.0 ++ xs in
    let mine = h.2 port v at may in (
      put,
      (λ x.
          let f : View → ℕ = λ u. times x u.taken in
          let a : sum_by f (set views port w) + f v ≡ sum_by f views + f w = sum_set f views port v w at in
          let b : times x (h.0 ++ xs) ≡ times x h.0 + times x xs = sum_by-append _ h.0 xs in
          let c : times x (items ++ xs) ≡ times x items + times x xs = sum_by-append _ items xs in
          let d = h.1 x in
          omega arith),
      each_set (Knows put) views port w (λ _. (mine.0, ap (λ l. l ++ xs) mine.1)) (λ j u other e p. absurd (other ((h.2 j u e p).0 ∙ sym mine.0))),
      each_set (λ j u. Start put u.put) views port w ([], append-nil (v.put ++ xs) ∙ ap (λ l. l ++ xs) mine.1) (λ j u other e. longer h.0 u.put xs (h.3 j u e)),
    )

pub dealt_shares : KeptBySharing Dealt
dealt_shares items views port v h at = let guest = shared v in (
  h.0,
  (λ x.
      let f : View → ℕ = λ u. times x u.taken in
      let a : sum_by f (views ++ guest ∷ []) ≡ sum_by f views + f guest = sum_by_push f views guest in
      let d = h.1 x in
      omega arith),
  λ j u e p. ⊎_elim (λ x. h.2 j u x p) (λ (is : guest ≡ u). absurd (cc (p, ap (λ (y : View). y.puts) is))) (at_snoc views guest u j e),
  λ j u e. ⊎_elim (λ x. h.3 j u x) (λ (is : guest ≡ u). subst (λ (y : View). Start h.0 y.put) is (h.3 port v at)) (at_snoc views guest u j e),
)

pub dealt_notes : Notes Dealt all_taken
dealt_notes views port v h at may = (
  views,
  port,
  at,
  λ x.
      let a : times x v.put ≡ times x h.0 = ap (times x) (h.2 port v at may).1 in
      let b = h.1 x in
      omega (arith, a, b),
)

module _ (real : List ℕ → List View → Type 0) where
  abbrev pub Holds : List ℕ → List View → Type 0
  Holds items views = Dealt items views × real items views

  pub takes : KeptByTaking real → (port : ℕ) (v : View) (most : ℕ) → Takes Holds port v most (λ xs w. w ≡ after_taking v xs)
  takes keeps port v most xs items views any few h at = (after_taking v xs, (dealt_takes xs items views port v h.0 at, keeps xs items views port v h.1 at), refl)

  pub puts : KeptByPutting real → (port : ℕ) (v : View) (xs : List ℕ) → v.puts ≡ true → Pushes Holds port v xs (λ w. w ≡ after_putting v xs)
  puts keeps port v xs may items views h at = (after_putting v xs, (dealt_puts xs items views port v h.0 at may, keeps xs items views port v h.1 at may), refl)

  pub forks : KeptBySharing real → (port : ℕ) (v : View) → Forks Holds port v v (shared v)
  forks keeps port v items views h at =
      subst (λ l. Holds items (l ++ shared v ∷ [])) (sym (set_again views port v at)) (dealt_shares items views port v h.0 at, keeps items views port v h.1 at)

  pub finds : (empty : View → Type 0) → Notes real empty → (port : ℕ) (v : View) → Finds Holds port v (empty v)
  finds empty notes port v views h at = notes views port v h.1 at

  pub finds_few : (empty : View → Type 0) → Notes real empty → (port : ℕ) (v : View) (most : ℕ) → most ≡ 0 → FindsFew Holds most port v (empty v)
  finds_few empty notes port v most none [] views few h at = notes views port v h.1 at
  finds_few empty notes port v most none (x ∷ xs) views few h at = absurd (omega arith)
