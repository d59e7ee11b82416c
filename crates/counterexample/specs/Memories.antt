-- The bytes of memory: what fills it, after the stores since. Every address is mapped.
use Rattle.std.specs.Prelude.{◌≡◌, ℕ, Bool, true, ◌&&◌, ◌==◌, List, [], ◌∷◌}
use Rattle.words.specs.declared.width.Width.{Width}
use Rattle.words.specs.declared.width.Width.TheVariants.{Word, Byte}
use Rattle.mips_isa.specs.States.{is_open, is_inside, store_at}
use Rattle.counterexample.specs.declared.memory.Stored.{Stored}
use Rattle.counterexample.specs.declared.memory.Memory.{Memory}
use Rattle.counterexample.specs.Fillings.{filled_byte}

abbrev pub everywhere : ℕ → Bool
everywhere a = true

-- memory after stores, the first one first
abbrev pub stored : (ℕ → ℕ) → List Stored → ℕ → ℕ
stored memory [] = memory
stored memory (s ∷ rest) = stored (store_at s.width everywhere memory s.address s.word) rest

abbrev pub bytes_of : Memory → ℕ → ℕ
bytes_of m = stored (filled_byte m.filling) m.stores.items

-- the byte at an address after a store, by the one that was there
abbrev pub byte_behind : Stored → ℕ → ℕ → ℕ
byte_behind s a before = store_at s.width everywhere (λ b. before) s.address s.word a

abbrev pub byte_behind_all : List Stored → ℕ → ℕ → ℕ
byte_behind_all [] a before = before
byte_behind_all (s ∷ rest) a before = byte_behind_all rest a (byte_behind s a before)

-- a store of this width at this address reaches a byte
abbrev pub reaches_at : Width → ℕ → ℕ → Bool
reaches_at Word a x = is_open Word everywhere a && is_inside a x
reaches_at Byte a x = is_open Byte everywhere a && (x == a)

abbrev pub reaches : Stored → ℕ → Bool
reaches s x = reaches_at s.width s.address x

-- two memories have the same bytes where a store reaches
abbrev pub SameReached : Memory → Memory → Stored → Type 0
SameReached m n s = (x : ℕ) → reaches s x ≡ true → bytes_of m x ≡ bytes_of n x
