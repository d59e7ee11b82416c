-- Copies of slots, in registers that a function without calls has to spare: no pseudo-register lives there, and no function keeps them.
use Rattle.std.specs.Prelude.{ℕ, Bool, true, false, List, [], ◌∷◌, Option, Some, drop, nat_eq, not, if◌then◌else◌, slice_get}
use Rattle.std.specs.List.{list_any, list_all, filter}
use Rattle.rtl.specs.declared.instruction.RExit.{RExit}
use Rattle.rtl.specs.declared.instruction.RExit.TheVariants.{Call}
use Rattle.rtl.specs.declared.block.RBlock.{RBlock}
use Rattle.mips_homes.specs.declared.homed.Home.{Home}
use Rattle.mips_homes.specs.declared.homed.Home.TheVariants.{Reg, Slot, Copied}
use Rattle.mips_homes.specs.Convention.{temporaries}

abbrev pub is_register : Home → ℕ → Bool
is_register (Reg q) r = nat_eq q r
is_register _ r = false

abbrev pub is_slot : Home → Bool
is_slot (Reg q) = false
is_slot _ = true

-- whether one lives in a register
abbrev pub lives_in : List Home → ℕ → Bool
lives_in hs r = list_any (λ h. is_register h r) hs

-- a function without calls
abbrev pub calls_none : RExit → Bool
calls_none (Call g xs d next) = false
calls_none _ = true

abbrev pub is_leaf : List RBlock → Bool
is_leaf bs = list_all (λ (b : RBlock). calls_none b.exit) bs

-- those of some registers in which no pseudo-register lives
abbrev pub unused : List Home → List ℕ → List ℕ
unused hs rs = filter (λ r. not (lives_in hs r)) rs

-- a slot gets a copy where there is a register for it
abbrev pub with_copy : Home → (register : Option ℕ) → Home
with_copy (Slot k) (Some r) = Copied r k
with_copy h o = h

-- homes whose slots have copies, as far as there are registers
abbrev pub copied_onto : (free : List ℕ) → List Home → List Home
copied_onto free [] = []
copied_onto free (h ∷ hs) = with_copy h (slice_get free 0) ∷ copied_onto (if is_slot h then drop 1 free else free) hs

-- the slots of a function without calls have copies
abbrev pub copied : List RBlock → List Home → List Home
copied bs hs = if is_leaf bs then copied_onto (unused hs temporaries) hs else hs
