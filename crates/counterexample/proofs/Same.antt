-- Two memories that are filled alike are the same if no store of either left another byte.
use Rattle.std.proofs.Common.{◌≡◌, ℕ, suc, ◌-◌, ◌%◌, ◌⊎◌, inl, inr, Bool, true, false, cond, List, [], ◌∷◌}
use Rattle.std.proofs.Common.{refl, sym, ap, ◌∙◌, subst, arith, Contains}
use Rattle.std.proofs.Common.{Option, Some, None}
use Rattle.std.specs.Prelude.{IfNone}
use mathlib.Core.Path.{fun_ext}
use Rattle.words.specs.declared.width.Width.{Width}
use Rattle.words.specs.declared.width.Width.TheVariants.{Word, Byte}
use Rattle.mips_isa.specs.States.{byte_of, store_word, store_byte, store_at}
use Rattle.counterexample.specs.declared.memory.Stored.{Stored}
use Rattle.counterexample.specs.declared.memory.Memory.{Memory}
use Rattle.counterexample.specs.Fillings.{filled_byte}
use Rattle.counterexample.specs.Memories.{everywhere, stored, bytes_of, reaches_at, reaches, SameReached}

-- a store leaves what it doesn't reach
unreached : (w : Width) (m : ℕ → ℕ) (a v x : ℕ) → reaches_at w a x ≡ false → store_at w everywhere m a v x ≡ m x
unfolding store_word store_byte
unreached Word m a v x e = ap (λ b. cond b (byte_of v (x - a)) (m x)) e
unreached Byte m a v x e = ap (λ b. cond b (v % 256) (m x)) e

abbrev Reached : List Stored → ℕ → Type 0
Reached xs x = (s : Stored) × Contains xs s × (reaches s x ≡ true)

-- some store reaches an address, or it is as it was
reached : (xs : List Stored) (m : ℕ → ℕ) (x : ℕ) → Reached xs x ⊎ (stored m xs x ≡ m x)
reached [] m x = inr refl
reached (s ∷ rest) m x = go (reaches s x) refl (reached rest (store_at s.width everywhere m s.address s.word) x)
  where
    go : (b : Bool) → reaches s x ≡ b
        → Reached rest x ⊎ (stored (store_at s.width everywhere m s.address s.word) rest x ≡ store_at s.width everywhere m s.address s.word x)
        → Reached (s ∷ rest) x ⊎ (stored m (s ∷ rest) x ≡ m x)
    go true e h = inl (s, (0, omega arith, refl), e)
    go false e (inl h) = inl (h.0, (suc h.1.0, (let lt = h.1.1 in omega arith), h.1.2), h.2)
    go false e (inr h) = inr (h ∙ unreached s.width m s.address s.word x e)

pub same_bytes : (m n : Memory) → m.filling ≡ n.filling → ((s : Stored) → Contains m.stores.items s → SameReached m n s)
    → ((s : Stored) → Contains n.stores.items s → SameReached m n s) → bytes_of m ≡ bytes_of n
same_bytes m n same hm hn =
    fun_ext (λ x. go x (reached m.stores.items (filled_byte m.filling) x) (reached n.stores.items (filled_byte n.filling) x))
  where
    go : (x : ℕ) → Reached m.stores.items x ⊎ (bytes_of m x ≡ filled_byte m.filling x)
        → Reached n.stores.items x ⊎ (bytes_of n x ≡ filled_byte n.filling x) → bytes_of m x ≡ bytes_of n x
    go x (inl h) k = hm h.0 h.1 x h.2
    go x (inr e) (inl h) = hn h.0 h.1 x h.2
    go x (inr e) (inr k) = e ∙ ap (λ f. filled_byte f x) same ∙ sym k

-- where nothing is found in the stores of either
pub no_byte : (m n : Memory) (xs ys : List Stored) (r : Option ℕ) → xs ≡ m.stores.items → ys ≡ n.stores.items → m.filling ≡ n.filling
    → ((s : Stored) → Contains xs s → SameReached m n s) → IfNone r ((s : Stored) → Contains ys s → SameReached m n s)
    → IfNone r (bytes_of m ≡ bytes_of n)
no_byte m n xs ys None ex ey same hx hy =
    same_bytes m n same (subst (λ zs. (s : Stored) → Contains zs s → SameReached m n s) ex hx)
    (subst (λ zs. (s : Stored) → Contains zs s → SameReached m n s) ey hy)
no_byte m n xs ys (Some x) ex ey same hx hy = tt
