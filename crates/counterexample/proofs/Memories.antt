-- A byte of memory is found by going through the stores, the first one first.
use Rattle.std.proofs.Common.{◌≡◌, ℕ, zero, suc, ◌<◌, ◌≤◌, ◌+◌, List, [], ◌∷◌, ◌++◌, length, drop, get_or, refl, sym, ap, ◌∙◌, subst, arith}
use Rattle.std.proofs.Math.ListN.{drop_of_length-le}
use Rattle.words.specs.declared.width.Width.{Width}
use Rattle.words.specs.declared.width.Width.TheVariants.{Word, Byte}
use Rattle.mips_isa.specs.States.{store_word, store_byte, store_at}
use Rattle.counterexample.specs.declared.memory.Stored.{Stored}
use Rattle.counterexample.specs.Memories.{everywhere, stored, byte_behind, byte_behind_all}

-- the byte before is all of memory that a byte behind a store depends on
pub one_behind : (w : Width) (m : ℕ → ℕ) (x v a : ℕ) → store_at w everywhere (λ b. m a) x v a ≡ store_at w everywhere m x v a
unfolding store_word store_byte
one_behind Word m x v a = refl
one_behind Byte m x v a = refl

pub all_behind : (xs : List Stored) (m : ℕ → ℕ) (a : ℕ) → byte_behind_all xs a (m a) ≡ stored m xs a
all_behind [] m a = refl
all_behind (s ∷ rest) m a =
    ap (byte_behind_all rest a) (one_behind s.width m s.address s.word a) ∙ all_behind rest (store_at s.width everywhere m s.address s.word) a

pub stored_more : (xs : List Stored) (m : ℕ → ℕ) (s : Stored) → stored m (xs ++ s ∷ []) ≡ store_at s.width everywhere (stored m xs) s.address s.word
stored_more [] m s = refl
stored_more (x ∷ xs) m s = stored_more xs (store_at x.width everywhere m x.address x.word) s

-- one store more
rest : (xs : List Stored) (k : ℕ) (d : Stored) (a b : ℕ) → k < length xs
    → byte_behind_all (drop (suc k) xs) a (byte_behind (get_or xs k d) a b) ≡ byte_behind_all (drop k xs) a b
rest [] k d a b lt = absurd (omega (arith, lt))
rest (x ∷ xs) zero d a b lt = refl
rest (x ∷ xs) (suc k) d a b lt = rest xs k d a b (omega (arith, lt))

pub next_behind : (xs : List Stored) (k : ℕ) (d : Stored) (a b c : ℕ) → k < length xs → c ≡ byte_behind (get_or xs k d) a b
    → byte_behind_all (drop (k + 1) xs) a c ≡ byte_behind_all (drop k xs) a b
next_behind xs k d a b c lt e =
    let next : suc k ≡ k + 1 = omega arith in
    ap (λ j. byte_behind_all (drop j xs) a c) (sym next) ∙ ap (byte_behind_all (drop (suc k) xs) a) e ∙ rest xs k d a b lt

pub all_done : (xs : List Stored) (k a b : ℕ) → length xs ≤ k → b ≡ byte_behind_all (drop k xs) a b
all_done xs k a b le = sym (ap (λ ys. byte_behind_all ys a b) (drop_of_length-le xs le))

-- the same where the stores are named otherwise
pub next_behind_of : (ys xs : List Stored) (k : ℕ) (d : Stored) (a b c : ℕ) → ys ≡ xs → k < length ys → c ≡ byte_behind (get_or ys k d) a b
    → byte_behind_all (drop (k + 1) xs) a c ≡ byte_behind_all (drop k xs) a b
next_behind_of ys xs k d a b c same lt e =
    next_behind xs k d a b c (subst (λ zs. k < length zs) same lt) (subst (λ zs. c ≡ byte_behind (get_or zs k d) a b) same e)
