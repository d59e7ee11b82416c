-- Where a text is cut.
use Rattle.std.proofs.Common.{◌≡◌, ℕ, ◌+◌, ◌-◌, ◌<◌, List, [], ◌∷◌, ◌++◌, Bool, true, false, Some, None, length, suc, take, drop, get_or, position}
use Rattle.std.proofs.Common.{◌==◌, sym, refl, eqb-true, arith}
use Rattle.std.specs.List.{position_or_len}
use Rattle.std.proofs.lemmas.List.{take_rest, take-append-drop, drop_more, take_at, drop_at, append_assoc, length-append, take_all}
use Rattle.std.proofs.lemmas.List.Quantifiers.{position-Some}
use Rattle.std.proofs.lemmas.Grind.{common_steps}
use Rattle.block_text.specs.Lines.{lacks, lines_of}

pub cut_here : (c : ℕ) (xs : List ℕ) (i : ℕ) → position (λ b. b == c) xs ≡ Some i
    → xs ≡ take i xs ++ c ∷ take (length xs - (i + 1)) (drop (i + 1) xs)
cut_here c xs i e =
    let at = position-Some (λ b. b == c) xs i 0 e in
    let lt : i < length xs = at.0 in
    let is : get_or xs i 0 ≡ c = eqb-true _ _ at.1 in
    let rest : drop i xs ≡ get_or xs i 0 ∷ drop (i + 1) xs = drop_more xs i 0 lt in
    let after : take (length xs - (i + 1)) (drop (i + 1) xs) ≡ drop (i + 1) xs = take_rest xs (i + 1) in
    let whole : take i xs ++ drop i xs ≡ xs = take-append-drop i xs in
    cc

pub marked_at : (c : ℕ) (a b : List ℕ) → lacks c a ≡ true → position_or_len (λ x. x == c) (a ++ c ∷ b) ≡ length a
marked_at c [] b e = grind (arith, common_steps)
marked_at c (x ∷ a) b e = grind (arith, common_steps, marked_at c a b)

pub mark_at : (c : ℕ) (a b : List ℕ) → lacks c a ≡ true → position (λ x. x == c) (a ++ c ∷ b) ≡ Some (length a)
mark_at c a b e = grind (arith, common_steps, marked_at c a b e, length-append a (c ∷ b))

pub cut_only : (c : ℕ) (xs : List ℕ) (i : ℕ) (a b : List ℕ) → position (λ x. x == c) xs ≡ Some i → lacks c a ≡ true → xs ≡ a ++ c ∷ b
    → (take i xs ≡ a) × (take (length xs - (i + 1)) (drop (i + 1) xs) ≡ b)
cut_only c xs i a b p l e =
    let at : i ≡ length a = cc (mark_at c a b l) in
    let before : take i (a ++ c ∷ b) ≡ a = take_at a (c ∷ b) i (sym at) in
    let more : a ++ c ∷ b ≡ (a ++ c ∷ []) ++ b = sym (append_assoc a (c ∷ []) b) in
    let long : length (a ++ c ∷ []) ≡ i + 1 = omega (arith, length-append a (c ∷ []), at) in
    let after : drop (i + 1) ((a ++ c ∷ []) ++ b) ≡ b = drop_at (a ++ c ∷ []) b (i + 1) long in
    let rest : take (length xs - (i + 1)) (drop (i + 1) xs) ≡ drop (i + 1) xs = take_rest xs (i + 1) in
    (cc, cc)

pub cut_none : (c : ℕ) (xs a b : List ℕ) → position (λ x. x == c) xs ≡ None → lacks c a ≡ true → xs ≡ a ++ c ∷ b → ⊥
cut_none c xs a b p l e = cc (mark_at c a b l)

before_step : (c x : ℕ) (xs : List ℕ) (b : Bool) → (x == c) ≡ b → lacks c (take (position_or_len (λ y. y == c) xs) xs) ≡ true
    → lacks c (take (position_or_len (λ y. y == c) (x ∷ xs)) (x ∷ xs)) ≡ true
before_step c x xs true e h = rw e refl
before_step c x xs false e h =
    let n : ℕ = position_or_len (λ y. y == c) xs in
    let s : 1 + n ≡ suc n = omega arith in
    rw e (rw s (rw e h))

pub before_lacks : (c : ℕ) (xs : List ℕ) → lacks c (take (position_or_len (λ x. x == c) xs) xs) ≡ true
before_lacks c [] = refl
before_lacks c (x ∷ xs) = before_step c x xs (x == c) refl (before_lacks c xs)

pub first_lacks : (c : ℕ) (xs : List ℕ) (i : ℕ) → position (λ x. x == c) xs ≡ Some i → lacks c (take i xs) ≡ true
first_lacks c xs i p = grind (arith, common_steps, before_lacks c xs)

pub none_lacks : (c : ℕ) (xs : List ℕ) → position (λ x. x == c) xs ≡ None → lacks c xs ≡ true
none_lacks c xs p =
    let all = take_all (position_or_len (λ x. x == c) xs) xs (grind (arith, common_steps)) in rw all at (before_lacks c xs)

pub lines_cut : (a b : List ℕ) → lacks 10 a ≡ true → lines_of (a ++ 10 ∷ b) ≡ a ∷ lines_of b
lines_cut [] b e = refl
lines_cut (x ∷ a) b e = grind (arith, common_steps, lines_cut a b)

pub lines_whole : (a : List ℕ) → lacks 10 a ≡ true → 0 < length a → lines_of a ≡ a ∷ []
lines_whole [] e lt = absurd (omega arith)
lines_whole (x ∷ []) e lt = grind (arith, common_steps)
lines_whole (x ∷ y ∷ a) e lt = let more : 0 < length (y ∷ a) = omega arith in grind (arith, common_steps, lines_whole (y ∷ a))
