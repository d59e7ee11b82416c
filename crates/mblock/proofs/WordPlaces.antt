-- The words of an order by their places, and the tests of two delay rules there.
use Rattle.std.proofs.Common.{◌≡◌, ℕ, zero, suc, ◌+◌, ◌-◌, ◌<◌, ◌≤◌, ◌⊎◌, inl, inr, Bool, true, false, ◌&&◌, ◌||◌, ◌==◌, List, [], ◌∷◌}
use Rattle.std.proofs.Common.{length, slice_get, get_or, Option, Some, None, refl, sym, ap, ap₂, ◌∙◌, subst, true≢false, ⊎_elim, not, IsTrue, arith}
use Rattle.std.proofs.lemmas.Bool.{cases_lt, or_parts}
use Rattle.std.proofs.lemmas.Option.{same_Some, none-some, slice_get_within, slice_get_read}
use Rattle.mips_isa.specs.declared.inst.Plain.{Plain}
use Rattle.mips_isa.specs.declared.action.Action.{Action}
use Rattle.mips_isa.specs.Actions.{action_of, is_product, touches, loads}
use Rattle.mblock.specs.declared.exit.Exit.{Exit}
use Rattle.mblock.specs.Clean.{kinds_of, slot_words, IsApart, IsBehind, HasQuietEnd}
use Rattle.mblock.specs.CleanTests.{is_product_word, is_move_word, loads_named, conflict_of, early_at}
use Rattle.mblock.proofs.Conflicts.{conflict_free, conflict_found}

-- an instruction's word
pub kind_in : (insts : List Plain) (tail : List (Option Action)) (k : ℕ) (x : Plain) → slice_get insts k ≡ Some x
    → slice_get (kinds_of insts tail) k ≡ Some (Some (action_of x))
kind_in [] tail k x e = absurd (none-some x e)
kind_in (i ∷ rest) tail zero x e = ap (λ y. Some (Some (action_of y))) (same_Some i x e)
kind_in (i ∷ rest) tail (suc k) x e = kind_in rest tail k x e

-- an instruction that was read
pub word_read : (insts : List Plain) (tail : List (Option Action)) (k : ℕ) (x : Plain) → k < length insts → x ≡ get_or insts k x
    → slice_get (kinds_of insts tail) k ≡ Some (Some (action_of x))
word_read insts tail k x lt is = kind_in insts tail k x (slice_get_read insts (length insts) k x refl lt is)

-- a word behind the instructions
pub kind_past : (insts : List Plain) (tail : List (Option Action)) (k j : ℕ) → k ≡ length insts + j → slice_get (kinds_of insts tail) k ≡ slice_get tail j
kind_past [] tail k j e = let same : k ≡ j = omega (arith, e) in ap (slice_get tail) same
kind_past (i ∷ rest) tail zero j e = absurd (omega (arith, e))
kind_past (i ∷ rest) tail (suc k) j e = kind_past rest tail k j (omega (arith, e))

-- behind the exit stands the slot alone
slot_last : (slot : Option Plain) (j : ℕ) → slice_get (slot_words slot) (suc (suc j)) ≡ None
slot_last None j = refl
slot_last (Some i) j = refl

pub kind_beyond : (insts : List Plain) (slot : Option Plain) (k : ℕ) → length insts + 2 ≤ k → slice_get (kinds_of insts (slot_words slot)) k ≡ None
kind_beyond insts slot k h =
    let at : k ≡ length insts + suc (suc (k - length insts - 2)) = omega (arith, h) in
    kind_past insts (slot_words slot) k (suc (suc (k - length insts - 2))) at ∙ slot_last slot (k - length insts - 2)

-- the first delay rule by its test
pub apart_is : (insts : List Plain) → ((k : ℕ) → k < length insts → conflict_of (slice_get insts k) (slice_get insts (k + 1)) ≡ false) → IsApart insts
apart_is insts h i r a b ea eb l =
    let free = h i (slice_get_within insts i a ea) in
    let same : i + 1 ≡ suc i = omega arith in
    conflict_free (action_of a) (touches (action_of b)) (ap₂ conflict_of (sym ea) (sym (ap (slice_get insts) same ∙ eb)) ∙ free) r l

pub apart_not : (insts : List Plain) (k : ℕ) → conflict_of (slice_get insts k) (slice_get insts (k + 1)) ≡ true → IsApart insts → ⊥
apart_not insts k e apart = go (slice_get insts k) (slice_get insts (k + 1)) refl refl e
  where
    go : (x y : Option Plain) → slice_get insts k ≡ x → slice_get insts (k + 1) ≡ y → conflict_of x y ≡ true → ⊥
    go None y ex ey h = true≢false (sym h)
    go (Some a) None ex ey h = true≢false (sym h)
    go (Some a) (Some b) ex ey h =
        let same : suc k ≡ k + 1 = omega arith in
        conflict_found (action_of a) (touches (action_of b)) h (λ r l. apart k r a b ex (ap (slice_get insts) same ∙ ey) l)

and_false : (a b : Bool) → a ≡ true → (a && b) ≡ false → b ≡ false
and_false true b t e = e
and_false false b t e = absurd (true≢false (sym t))

-- the test of the second delay rule, as far as its parts are known
pub early_first : (words : List (Option Action)) (k : ℕ) (m p : Bool) → m ≡ is_move_word (slice_get words k)
    → p ≡ is_product_word (slice_get words (k + 1)) → m ≡ true → p ≡ true → p ≡ early_at words k
early_first words k m p em ep tm tp =
    tp ∙ sym (ap₂ (λ x y. x && (y || is_product_word (slice_get words (k + 2)))) (sym em ∙ tm) (sym ep ∙ tp))

pub early_second : (words : List (Option Action)) (k : ℕ) (m p q : Bool) → m ≡ is_move_word (slice_get words k)
    → p ≡ is_product_word (slice_get words (k + 1)) → q ≡ is_product_word (slice_get words (k + 2)) → m ≡ true → p ≡ false
    → q ≡ early_at words k
early_second words k m p q em ep eq tm tp =
    eq ∙ sym (ap₂ (λ x y. x && (y || is_product_word (slice_get words (k + 2)))) (sym em ∙ tm) (sym ep ∙ tp))

pub early_never : (words : List (Option Action)) (k : ℕ) (m : Bool) → m ≡ is_move_word (slice_get words k) → m ≡ false → m ≡ early_at words k
early_never words k m em fm =
    fm ∙ sym (ap (λ x. x && (is_product_word (slice_get words (k + 1)) || is_product_word (slice_get words (k + 2)))) (sym em ∙ fm))

pub behind_is : (insts : List Plain) (slot : Option Plain)
    → ((k : ℕ) → k < length insts → early_at (kinds_of insts (slot_words slot)) k ≡ false) → IsBehind (kinds_of insts (slot_words slot))
behind_is insts slot h i a b ea ma eb = place (cases_lt i (length insts))
  where
    words : List (Option Action)
    words = kinds_of insts (slot_words slot)

    one : suc i ≡ i + 1
    one = omega arith

    two : suc (suc i) ≡ i + 2
    two = omega arith

    within : i < length insts → is_product b ≡ false
    within lt = pick eb
      where
        none : (is_product_word (slice_get words (i + 1)) || is_product_word (slice_get words (i + 2))) ≡ false
        none = and_false (is_move_word (slice_get words i)) _ (ap is_move_word ea ∙ ma) (h i lt)

        pick : (slice_get words (suc i) ≡ Some (Some b)) ⊎ (slice_get words (suc (suc i)) ≡ Some (Some b)) → is_product b ≡ false
        pick (inl e) = ap is_product_word (sym e ∙ ap (slice_get words) one) ∙ (or_parts _ _ none).0
        pick (inr e) = ap is_product_word (sym e ∙ ap (slice_get words) two) ∙ (or_parts _ _ none).1

    beyond : (m : ℕ) → length insts + 2 ≤ m → slice_get words m ≡ Some (Some b) → is_product b ≡ false
    beyond m le e = absurd (none-some (Some b) (sym (kind_beyond insts slot m le) ∙ e))

    past : length insts ≤ i → is_product b ≡ false
    past le = at (i - length insts) refl
      where
        at : (j : ℕ) → i - length insts ≡ j → is_product b ≡ false
        at zero ej =
            let here : i ≡ length insts + 0 = omega (arith, le, ej) in
            absurd (no_word (same_Some None (Some a) (sym (kind_past insts (slot_words slot) i 0 here) ∙ ea)))
          where
            no_word : None ≡ Some a → ⊥
            no_word e = none-some a e
        at (suc j) ej = pick eb
          where
            pick : (slice_get words (suc i) ≡ Some (Some b)) ⊎ (slice_get words (suc (suc i)) ≡ Some (Some b)) → is_product b ≡ false
            pick (inl e) = beyond (suc i) (omega (arith, le, ej)) e
            pick (inr e) = beyond (suc (suc i)) (omega (arith, le, ej)) e

    place : (i < length insts) ⊎ (length insts ≤ i) → is_product b ≡ false
    place (inl lt) = within lt
    place (inr le) = past le

-- one place more of a test that no place meets
pub below_next : (test : ℕ → Bool) (k : ℕ) → ((i : ℕ) → i < k → test i ≡ false) → test k ≡ false → (i : ℕ) → i < k + 1 → test i ≡ false
below_next test k h here i lt = ⊎_elim (h i) (λ le. let same : i ≡ k = omega (arith, lt, le) in ap test same ∙ here) (cases_lt i k)

-- the last instruction
pub end_is : (insts : List Plain) (test : ℕ → Bool) (k : ℕ) (x : Plain) → slice_get insts k ≡ Some x → suc k ≡ length insts
    → loads_named (action_of x) test ≡ false → (i r : ℕ) (a : Plain) → slice_get insts i ≡ Some a → suc i ≡ length insts
    → loads (action_of a) r ≡ true → test r ≡ false
end_is insts test k x ex ek free i r a ea ei l =
    let same : i ≡ k = omega (arith, ei, ek) in
    let one : a ≡ x = same_Some a x (sym ea ∙ ap (slice_get insts) same ∙ ex) in
    conflict_free (action_of a) test (ap (λ y. loads_named (action_of y) test) one ∙ free) r l

pub end_not : (insts : List Plain) (test : ℕ → Bool) (k : ℕ) (x : Plain) → slice_get insts k ≡ Some x → suc k ≡ length insts
    → loads_named (action_of x) test ≡ true
    → ((i r : ℕ) (a : Plain) → slice_get insts i ≡ Some a → suc i ≡ length insts → loads (action_of a) r ≡ true → test r ≡ false) → ⊥
end_not insts test k x ex ek found quiet = conflict_found (action_of x) test found (λ r l. quiet k r x ex ek l)

pub end_test : (insts : List Plain) (test : ℕ → Bool) (k : ℕ) (x : Plain) (b : Bool) → slice_get insts k ≡ Some x → suc k ≡ length insts
    → b ≡ loads_named (action_of x) test
    → (IsTrue (not b) → (i r : ℕ) (a : Plain) → slice_get insts i ≡ Some a → suc i ≡ length insts → loads (action_of a) r ≡ true
    → test r ≡ false)
    × (((i r : ℕ) (a : Plain) → slice_get insts i ≡ Some a → suc i ≡ length insts → loads (action_of a) r ≡ true → test r ≡ false) → IsTrue (not b))
end_test insts test k x true ex ek eb = (λ t. absurd (true≢false (sym t)), λ quiet. absurd (end_not insts test k x ex ek (sym eb) quiet))
end_test insts test k x false ex ek eb = (λ _. end_is insts test k x ex ek (sym eb), λ _. refl)

pub some_length : (n : ℕ) → false ≡ (n == 0) → 0 < n
some_length zero e = absurd (true≢false (sym e))
some_length (suc n) e = omega arith

-- the second rule of equal words
pub behind_along : (insts others : List Plain) (slot other : Option Plain) → insts ≡ others → slot ≡ other
    → IsBehind (kinds_of insts (slot_words slot)) → IsBehind (kinds_of others (slot_words other))
behind_along insts others slot other e f h =
    subst (λ x. IsBehind (kinds_of others (slot_words x))) f (subst (λ x. IsBehind (kinds_of x (slot_words slot))) e h)

-- the fourth rule of equal parts
pub quiet_along : (insts others : List Plain) (exit other : Exit) → insts ≡ others → exit ≡ other → HasQuietEnd insts exit → HasQuietEnd others other
quiet_along insts others exit other e f h = subst (HasQuietEnd others) f (subst (λ x. HasQuietEnd x exit) e h)
