-- Blocks that something goes to stay, from the last one on.
use Rattle.std.proofs.Common.{◌≡◌, ℕ, zero, suc, ◌<◌, ◌≤◌, List, [], ◌∷◌, Bool, true, false, take, drop, get_or, length, sym, ap, ap₂, subst, ◌∙◌, arith, refl, ◌||◌, nat_eq, ne_eqb}
use Rattle.std.specs.Prelude.{if◌then◌else◌}
use Rattle.std.proofs.Math.ListN.{set}
use Rattle.std.proofs.lemmas.List.{take-take}
use Rattle.rtl.specs.declared.block.RBlock.{RBlock}
use Rattle.rtl.specs.Meaning.{code_of}
use Rattle.rtl.specs.Names.{some_go_to}
use Rattle.rtl.specs.Tails.{is_reached, empty_code, AreKept}

or_true : (b : Bool) → (b || true) ≡ true
or_true true = refl
or_true false = refl

pub reached_named : (bs : List RBlock) (j : ℕ) → some_go_to bs j ≡ true → is_reached bs j ≡ true
reached_named bs j some = ap (λ b. nat_eq j 0 || b) some ∙ or_true (nat_eq j 0)

kept_more : (keeps : ℕ → Bool) (m j : ℕ) (was now : List RBlock) → keeps m ≡ true → take (suc j) now ≡ take (suc j) was
    → AreKept keeps (suc m) (drop (suc j) was) (drop (suc j) now) → j < length was → j < length now → AreKept keeps m (drop j was) (drop j now)
kept_more keeps m j [] now named same kept lt lt' = absurd (omega (arith, lt))
kept_more keeps m j (b ∷ bs) [] named same kept lt lt' = absurd (omega (arith, lt'))
kept_more keeps m zero (b ∷ bs) (c ∷ cs) named same kept lt lt' =
    (ap (λ l. code_of (get_or l 0 b)) same ∙ sym (ap (λ k. if k then code_of b else empty_code b) named), kept)
kept_more keeps m (suc j) (b ∷ bs) (c ∷ cs) named same kept lt lt' =
    kept_more keeps m j bs cs named (ap (λ l. drop 1 l) same) kept (omega (arith, lt)) (omega (arith, lt'))

pub unreached : (bs : List RBlock) (j : ℕ) → 0 < j → some_go_to bs j ≡ false → is_reached bs j ≡ false
unreached bs j later none = ap (λ b. b || some_go_to bs j) (ne_eqb j 0 (λ e. omega (arith, e, later))) ∙ none

-- one more block that stays, before those that are as they are to be
pub kept_before : (keeps : ℕ → Bool) (n j : ℕ) (was now : List RBlock) → n ≡ suc j → keeps j ≡ true → take n now ≡ take n was
    → AreKept keeps n (drop n was) (drop n now) → j < length was → j < length now
    → (take j now ≡ take j was) × AreKept keeps j (drop j was) (drop j now)
kept_before keeps n j was now next named same kept lt lt' =
    let same = subst (λ m. take m now ≡ take m was) next same in
    let kept = subst (λ m. AreKept keeps m (drop m was) (drop m now)) next kept in (
      sym (take-take j (suc j) now (omega arith)) ∙ ap (take j) same ∙ take-take j (suc j) was (omega arith),
      kept_more keeps j j was now named same kept lt lt',
    )

kept_empty : (keeps : ℕ → Bool) (m j : ℕ) (was now : List RBlock) (e d : RBlock) → keeps m ≡ false → code_of e ≡ empty_code (get_or now j d)
    → take (suc j) now ≡ take (suc j) was → AreKept keeps (suc m) (drop (suc j) was) (drop (suc j) now) → j < length was → j < length now
    → (take j (set now j e) ≡ take j was) × AreKept keeps m (drop j was) (drop j (set now j e))
kept_empty keeps m j [] now e d named is same kept lt lt' = absurd (omega (arith, lt))
kept_empty keeps m j (b ∷ bs) [] e d named is same kept lt lt' = absurd (omega (arith, lt'))
kept_empty keeps m zero (b ∷ bs) (c ∷ cs) e d named is same kept lt lt' =
    (refl, (is ∙ ap (λ l. empty_code (get_or l 0 b)) same ∙ sym (ap (λ k. if k then code_of b else empty_code b) named), kept))
kept_empty keeps m (suc j) (b ∷ bs) (c ∷ cs) e d named is same kept lt lt' =
    let rest = kept_empty keeps m j bs cs e d named is (ap (λ l. drop 1 l) same) kept (omega (arith, lt)) (omega (arith, lt')) in
    (ap₂ (λ x xs. x ∷ xs) (ap (λ l. get_or l 0 b) same) rest.0, rest.1)

-- and one more that is emptied
pub empty_before : (keeps : ℕ → Bool) (n j : ℕ) (was now : List RBlock) (e d : RBlock) → n ≡ suc j → keeps j ≡ false
    → code_of e ≡ empty_code (get_or now j d) → take n now ≡ take n was → AreKept keeps n (drop n was) (drop n now) → j < length was → j < length now
    → (take j (set now j e) ≡ take j was) × AreKept keeps j (drop j was) (drop j (set now j e))
empty_before keeps n j was now e d next named is same kept lt lt' =
    kept_empty keeps j j was now e d named is (subst (λ m. take m now ≡ take m was) next same)
    (subst (λ m. AreKept keeps m (drop m was) (drop m now)) next kept) lt lt'

-- all are as they are to be, once those from the first or the second block on are
pub kept_all : (keeps : ℕ → Bool) (n : ℕ) (was now : List RBlock) → n ≤ 1 → n ≤ length was → length now ≡ length was → keeps 0 ≡ true
    → take n now ≡ take n was → AreKept keeps n (drop n was) (drop n now) → AreKept keeps 0 was now
kept_all keeps zero was now few inside long named same kept = kept
kept_all keeps (suc zero) was now few inside long named same kept =
    (kept_before keeps 1 0 was now refl named same kept (omega (arith, inside)) (omega (arith, inside, long))).1
kept_all keeps (suc (suc n)) was now few inside long named same kept = absurd (omega (arith, few))
