-- A word is looked up among the keywords that begin with its first byte.
use Rattle.std.specs.Cmp.Lexicographic.{pointwise}
use Rattle.std.specs.Borrow.{Bor}
use Rattle.std.proofs.Math.Bool.{and_comm, and-false}
use Rattle.std.proofs.lemmas.List.{drop_more}
use Rattle.std.proofs.Common.{arith, ◌≡◌, ◌+◌, ◌<◌, ◌≤◌, ℕ, List, [], ◌∷◌, Bool, true, false, Option, Some, None, refl, if◌then◌else◌, nat_eq}
use Rattle.std.proofs.Common.{◌&&◌, length, drop, map, get_or}
use Rattle.c_tokens.specs.declared.keywords.Reserved.{Reserved}
use Rattle.c_tokens.specs.declared.keywords.Reserved.TheVariants.{Unused}
use Rattle.c_tokens.specs.Texts.{Fits}
use Rattle.c_tokens.specs.Lexing.{same_bytes, entry_in, word_lexeme, keywords}
use Rattle.c_tokens.specs.Fronts.{kept_if, beginning}
use Rattle.c_tokens.specs.Keywords.{keyword_of}

same-pointwise : (xs ys : List ℕ) → same_bytes xs ys ≡ pointwise nat_eq xs ys
same-pointwise [] [] = refl
same-pointwise [] (y ∷ ys) = refl
same-pointwise (x ∷ xs) [] = refl
same-pointwise (x ∷ xs) (y ∷ ys) = rw (same-pointwise xs ys) (and_comm (pointwise nat_eq xs ys) (nat_eq x y))

pub look_further : (ks : List (Bor (List ℕ) × Reserved)) (i : ℕ) (d : Bor (List ℕ) × Reserved) (word : List ℕ) (b : Bool) → i < length ks
    → b ≡ pointwise nat_eq (get_or ks i d).0.now word
    → entry_in (map keyword_of (drop i ks)) word ≡ (if b then Some (get_or ks i d).1 else entry_in (map keyword_of (drop (i + 1) ks)) word)
look_further ks i d word b h e = rw (drop_more ks i d h, e, ← same-pointwise (get_or ks i d).0.now word)

begun : {A : Type 0} (es : List (List ℕ × A)) (b : ℕ) (bs : List ℕ) → entry_in (beginning b es) (b ∷ bs) ≡ entry_in es (b ∷ bs)
begun [] b bs = refl
begun (([], w) ∷ es) b bs = begun es b bs
begun ((a ∷ more, w) ∷ es) b bs = pick (begun es b bs) (nat_eq a b) refl
  where
    pick : entry_in (beginning b es) (b ∷ bs) ≡ entry_in es (b ∷ bs) → (x : Bool) → nat_eq a b ≡ x
        → entry_in (kept_if x (a ∷ more, w) (beginning b es)) (b ∷ bs) ≡ (if same_bytes more bs && nat_eq a b then Some w else entry_in es (b ∷ bs))
    pick h true e = rw h
    pick h false e = rw (e, and-false) h

pub looked-up : (word : List ℕ) → entry_in (beginning (get_or word 0 0) keywords) word ≡ entry_in keywords word
looked-up [] = refl
looked-up (b ∷ bs) = begun keywords b bs

pub no-keyword : (word : List ℕ) → length word ≡ 1 → None ≡ entry_in keywords word
no-keyword [] h = refl
no-keyword (b ∷ []) h = refl
no-keyword (b ∷ c ∷ bs) h = absurd (omega (arith, h))

pub word-fits : (x : Option Reserved) (n m : ℕ) → 0 < n → n ≤ m → Fits (word_lexeme x n) m
word-fits (Some Unused) n m h k = omega arith
word-fits _ n m h k = (h, k)
