-- How the front of a text is cut: classes of bytes, the table of operators, and how far runs and comments go.
use Rattle.std.proofs.lemmas.Bool.{and_parts, eqb-true, false_from_ne_true}
use Rattle.std.proofs.lemmas.Bool.Decides.{nat_tests}
use Rattle.std.proofs.Math.Seq.{take-length}
use Rattle.std.proofs.Common.{◌≡◌, ◌<◌, ◌≤◌, ℕ, suc, zero, List, [], ◌∷◌, length, take, Bool, true, false, Option, Some, None, refl, sym, ap}
use Rattle.std.proofs.Common.{◌∙◌, arith, if◌then◌else◌, nat_eq, ◌&&◌, ◌⊎◌, inl, inr, codes}
use Rattle.c_tokens.specs.declared.token.Mark.{Mark}
use Rattle.c_tokens.specs.Lexing.{is_space, is_letter, is_digit, is_word, goes_on, is_exponent, is_front, same_bytes, signs}
use Rattle.c_tokens.specs.Lexing.{entry_in, comment_length, one_more}
use Rattle.c_tokens.specs.Fronts.{word_length, run_length, line_length}
use Rattle.c_tokens.specs.Pieces.{IsWord, word_end, word_more, IsRun, run_end, run_more, IsLine, line_end, line_more, IsOpen, open_end, open_more, IsClosed}
use Rattle.c_tokens.specs.Pieces.{closed_here, closed_later}

pub true-false : {x : Bool} → x ≡ true → x ≡ false → ⊥
true-false e f = cc

-- classes of bytes
pub letter-no-space : (b : ℕ) → is_letter b ≡ true → is_space b ≡ false
letter-no-space b h = grind (arith, nat_tests)

pub digit-no-space : (b : ℕ) → is_digit b ≡ true → is_space b ≡ false
digit-no-space b h = grind (arith, nat_tests)

pub digit-no-letter : (b : ℕ) → is_digit b ≡ true → is_letter b ≡ false
digit-no-letter b h = grind (arith, nat_tests)

pub digit-goes : (b : ℕ) → is_digit b ≡ true → goes_on false b ≡ true
digit-goes b h = grind (arith, nat_tests)

same-is : (xs ys : List ℕ) → same_bytes xs ys ≡ true → xs ≡ ys
same-is [] [] h = refl
same-is [] (y ∷ ys) h = cc
same-is (x ∷ xs) [] h = cc
same-is (x ∷ xs) (y ∷ ys) h = let a = and_parts (same_bytes xs ys) (nat_eq x y) h in rw (eqb-true x y a.1, same-is xs ys a.0)

-- how the spellings of the table begin
abbrev pub begins_well : List ℕ → Bool
begins_well [] = false
begins_well (b ∷ bs) = if is_space b then false else (if is_letter b then false
    else (if is_digit b then false else (if is_front (codes "/*") (b ∷ bs) then false else (if is_front (codes "//") (b ∷ bs) then false else true))))

abbrev pub all_begin : List (List ℕ × Option Mark) → Bool
all_begin [] = true
all_begin (e ∷ es) = begins_well e.0 && all_begin es

spelled-begins : (es : List (List ℕ × Option Mark)) (o : List ℕ) (m : Option Mark) → all_begin es ≡ true → entry_in es o ≡ Some m → begins_well o ≡ true
spelled-begins [] o m h k = cc
spelled-begins (e ∷ es) o m h k =
    let a = and_parts (begins_well e.0) (all_begin es) h in
    go (spelled-begins es o m a.1) (same_bytes e.0 o) refl k
  where
    go : (entry_in es o ≡ Some m → begins_well o ≡ true) → (y : Bool) → same_bytes e.0 o ≡ y → (if y then Some e.1 else entry_in es o) ≡ Some m
        → begins_well o ≡ true
    go f true q k = ap begins_well (sym (same-is e.0 o q)) ∙ (and_parts (begins_well e.0) (all_begin es) h).0
    go f false q k = f k

-- what begins as no white space, word, number or comment does
pub record Plain (b : ℕ) (bs : List ℕ) : Type 0 where
  pub space : is_space b ≡ false
  pub letter : is_letter b ≡ false
  pub digit : is_digit b ≡ false
  pub comment : is_front (codes "/*") (b ∷ bs) ≡ false
  pub line : is_front (codes "//") (b ∷ bs) ≡ false

pub operator-begins : (b : ℕ) (bs : List ℕ) (m : Option Mark) → entry_in signs (b ∷ bs) ≡ Some m → Plain b bs
operator-begins b bs m h =
    let w = all (is_space b) (is_letter b) (is_digit b) (is_front (codes "/*") (b ∷ bs)) (is_front (codes "//") (b ∷ bs))
    (spelled-begins signs (b ∷ bs) m refl h) in
    record { space = w.0; letter = w.1; digit = w.2; comment = w.3; line = w.4 }
  where
    all : (x y z u v : Bool) → (if x then false else (if y then false else (if z then false else (if u then false else (if v then false else true))))) ≡ true
        → (x ≡ false) × (y ≡ false) × (z ≡ false) × (u ≡ false) × (v ≡ false)
    all x y z u v h = grind arith

-- the front of some bytes that is taken, where no longer one has a form
pub record Longest (T P : List ℕ → Type 0) (bs : List ℕ) (n : ℕ) : Type 0 where
  pub within : n ≤ length bs
  pub taken : T (take n bs)
  pub longest : (m : ℕ) → n < m → m ≤ length bs → P (take m bs) → ⊥

module _ {T P : List ℕ → Type 0} where
  pub all-found : {bs : List ℕ} → T bs → Longest T P bs (length bs)
  all-found t = record { within = omega arith; taken = rw take-length t; longest = λ m i j p. omega (arith, i, j) }

  pub none-found : {b : ℕ} {bs : List ℕ} → T [] → ((xs : List ℕ) → P (b ∷ xs) → ⊥) → Longest T P (b ∷ bs) 0
  none-found {b} {bs} t f = record { within = omega arith; taken = t; longest = go }
    where
      go : (m : ℕ) → 0 < m → m ≤ length (b ∷ bs) → P (take m (b ∷ bs)) → ⊥
      go zero i j p = omega (arith, i)
      go (suc m) i j p = f (take m bs) p

  pub one-found : {S Q : List ℕ → Type 0} {b n : ℕ} {bs : List ℕ} → Longest S Q bs n → T (b ∷ take n bs) → ((m : ℕ) → P (b ∷ take m bs) → Q (take m bs))
      → Longest T P (b ∷ bs) (suc n)
  one-found {b = b} {n = n} {bs = bs} l t f = record { within = omega (arith, l.within); taken = t; longest = go }
    where
      go : (m : ℕ) → suc n < m → m ≤ length (b ∷ bs) → P (take m (b ∷ bs)) → ⊥
      go zero i j p = omega (arith, i)
      go (suc m) i j p = l.longest m (omega (arith, i)) (omega (arith, j)) (f m p)

  pub whole : {bs : List ℕ} {n : ℕ} → Longest T P bs n → P bs → n ≡ length bs
  whole {bs} {n} l p =
      let a : n < length bs → ⊥ = λ h. l.longest (length bs) h (omega arith) (rw take-length p) in
      omega (arith, l.within, a)

-- runs of bytes are as long as can be
word-rest : {b : ℕ} {bs : List ℕ} → IsWord (b ∷ bs) → (is_word b ≡ true) × IsWord bs
word-rest (word_more h w) = (h, w)

pub word-found : (bs : List ℕ) → Longest IsWord IsWord bs (word_length bs)
word-found [] = all-found word_end
word-found (b ∷ bs) = go (word-found bs) (is_word b) refl
  where
    go : Longest IsWord IsWord bs (word_length bs) → (x : Bool) → is_word b ≡ x → Longest IsWord IsWord (b ∷ bs) (if x then suc (word_length bs) else 0)
    go l true h = one-found l (word_more h l.taken) (λ m w. (word-rest w).1)
    go l false h = none-found word_end (λ xs w. true-false (word-rest w).0 h)

run-rest : {after : Bool} {b : ℕ} {bs : List ℕ} → IsRun after (b ∷ bs) → (goes_on after b ≡ true) × IsRun (is_exponent b) bs
run-rest (run_more h w) = (h, w)

pub run-found : (after : Bool) (bs : List ℕ) → Longest (IsRun after) (IsRun after) bs (run_length after bs)
run-found after [] = all-found run_end
run-found after (b ∷ bs) = go (run-found (is_exponent b) bs) (goes_on after b) refl
  where
    go : Longest (IsRun (is_exponent b)) (IsRun (is_exponent b)) bs (run_length (is_exponent b) bs) → (x : Bool) → goes_on after b ≡ x
        → Longest (IsRun after) (IsRun after) (b ∷ bs) (if x then suc (run_length (is_exponent b) bs) else 0)
    go l true h = one-found l (run_more h l.taken) (λ m w. (run-rest w).1)
    go l false h = none-found run_end (λ xs w. true-false (run-rest w).0 h)

line-rest : {b : ℕ} {bs : List ℕ} → IsLine (b ∷ bs) → (nat_eq b 10 ≡ false) × IsLine bs
line-rest (line_more h w) = (h, w)

pub line-found : (bs : List ℕ) → Longest IsLine IsLine bs (line_length bs)
line-found [] = all-found line_end
line-found (b ∷ bs) = go (line-found bs) (nat_eq b 10) refl
  where
    go : Longest IsLine IsLine bs (line_length bs) → (x : Bool) → nat_eq b 10 ≡ x → Longest IsLine IsLine (b ∷ bs) (if x then 0 else suc (line_length bs))
    go l true h = none-found line_end (λ xs w. true-false h (line-rest w).0)
    go l false h = one-found l (line_more h l.taken) (λ m w. (line-rest w).1)

-- comments
pub front-pair : (P : List ℕ → Type 0) (u v : ℕ) (bs : List ℕ) → is_front (u ∷ v ∷ []) bs ≡ true → ((cs : List ℕ) → P (u ∷ v ∷ cs)) → P bs
front-pair P u v [] h f = cc
front-pair P u v (b ∷ []) h f = let a = and_parts (nat_eq u b) false h in cc
front-pair P u v (b ∷ c ∷ cs) h f =
    let a = and_parts (nat_eq u b) (nat_eq v c && true) h in
    rw (← eqb-true u b a.0, ← eqb-true v c (and_parts (nat_eq v c) true a.1).0) (f cs)

front-taken : (p bs : List ℕ) (n : ℕ) → is_front p (take n bs) ≡ true → is_front p bs ≡ true
front-taken [] bs n h = refl
front-taken (a ∷ p) bs zero h = cc
front-taken (a ∷ p) [] (suc n) h = cc
front-taken (a ∷ p) (b ∷ bs) (suc n) h = let q = and_parts (nat_eq a b) (is_front p (take n bs)) h in rw (q.0, front-taken p bs n q.1)

pub front-not-taken : (p bs : List ℕ) (n : ℕ) → is_front p bs ≡ false → is_front p (take n bs) ≡ false
front-not-taken p bs n h = false_from_ne_true _ (λ e. true-false (front-taken p bs n e) h)

-- closed or open
abbrev pub Commented : List ℕ → Type 0
Commented xs = IsClosed xs ⊎ IsOpen xs

-- where a comment closes, if it does
abbrev pub Closes : List ℕ → Option ℕ → Type 0
Closes bs None = IsOpen bs
Closes bs (Some n) = Longest IsClosed Commented bs n

longer-pair : (cs : List ℕ) (m : ℕ) → 2 < m → m ≤ length (42 ∷ 47 ∷ cs) → Commented (take m (42 ∷ 47 ∷ cs)) → ⊥
longer-pair cs (suc (suc zero)) h l p = omega (arith, h)
longer-pair [] (suc (suc (suc m))) h l p = omega (arith, l)
longer-pair (d ∷ ds) (suc (suc (suc m))) h l (inl (closed_later k w)) = cc
longer-pair (d ∷ ds) (suc (suc (suc m))) h l (inr (open_more k w)) = cc
longer-pair cs _ h l p = omega (arith, h)

closed-tail : (b : ℕ) (xs : List ℕ) → is_front (codes "*/") (b ∷ xs) ≡ false → Commented (b ∷ xs) → Commented xs
closed-tail b xs h (inl closed_here) = cc
closed-tail b xs h (inl (closed_later k w)) = inl w
closed-tail b xs h (inr (open_more k w)) = inr w

pub closes : (bs : List ℕ) → Closes bs (comment_length bs)
closes [] = open_end
closes (b ∷ bs) = go (is_front (codes "*/") (b ∷ bs)) refl (comment_length bs) (closes bs)
  where
    go : (x : Bool) → is_front (codes "*/") (b ∷ bs) ≡ x → (r : Option ℕ) → Closes bs r → Closes (b ∷ bs) (if x then Some 2 else one_more r)
    go true e r c = front-pair (λ x. Closes x (Some 2)) 42 47 (b ∷ bs) e
        (λ cs. record { within = omega arith; taken = closed_here; longest = longer-pair cs })
    go false e None c = open_more e c
    go false e (Some k) c = one-found c (closed_later (front-not-taken (codes "*/") (b ∷ bs) (suc k) e) c.taken)
        (λ m p. closed-tail b (take m bs) (front-not-taken (codes "*/") (b ∷ bs) (suc m) e) p)

pub closed-length : {bs : List ℕ} → IsClosed bs → comment_length bs ≡ Some (length bs)
closed-length closed_here = refl
closed-length (closed_later h w) = rw (h, closed-length w)

pub open-length : {bs : List ℕ} → IsOpen bs → comment_length bs ≡ None
open-length open_end = refl
open-length (open_more h w) = rw (h, open-length w)
