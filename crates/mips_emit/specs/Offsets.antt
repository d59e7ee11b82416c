-- Indices that are the sum of a register and a known word.
use Rattle.std.specs.Prelude.{ℕ, ◌-◌, ◌^◌, Bool, false, ◌||◌, nat_eq, if◌then◌else◌, Option, Some, None}
use Rattle.std.specs.Option.{option_map}
use Rattle.words.specs.Words.{wrap}
use Rattle.rtl.specs.declared.operator.Op.{Op}
use Rattle.rtl.specs.declared.operator.Op.TheVariants.{Add, Sub}
use Rattle.mips_homes.specs.declared.homed.Home.{Home}
use Rattle.mips_homes.specs.declared.homed.Home.TheVariants.{Reg, Copied}
use Rattle.mips_emit.specs.declared.location.Source.{Source}
use Rattle.mips_emit.specs.declared.location.Source.TheVariants.{InRegister}
use Rattle.mips_emit.specs.declared.offset.Offset.{Offset}

-- a register alone
abbrev pub no_offset : ℕ → Offset
no_offset t = record { register = t; base = t; word = 0 }

-- the word that an operator with a known word on the right adds
abbrev pub addend : Op → ℕ → Option ℕ
addend Add c = Some c
addend Sub c = Some (wrap (2 ^ 32 - c))
addend _ c = None

-- register t is another one and a word
abbrev pub offset_from : (t r : ℕ) → (added : Option ℕ) → Option Offset
offset_from t r None = None
offset_from t r (Some c) = if nat_eq r t then None else Some (record { register = t; base = r; word = c })

-- what an operator on operand x and what is known of the right one leaves in a home
abbrev pub sum_offset : Option Home → Op → (right : Option ℕ) → Source → Option Offset
sum_offset (Some (Reg t)) op (Some c) (InRegister r) = offset_from t r (addend op c)
sum_offset _ op right x = None

-- whether a write of a home changes a register that it has to do with
abbrev pub touches : Offset → Option Home → Bool
touches o (Some (Reg r)) = nat_eq o.register r || nat_eq o.base r
touches o (Some (Copied r k)) = nat_eq o.register r || nat_eq o.base r
touches o _ = false

-- what is known by an offset is so while no write changes it
abbrev pub past : {A : Type 0} → (A → Offset) → Option Home → Option A → Option A
past offset l None = None
past offset l (Some a) = if touches (offset a) l then None else Some a

abbrev pub offset_past : Option Home → Option Offset → Option Offset
offset_past l o = past (λ a. a) l o

-- what is known of a register
abbrev pub offset_in : Option Offset → ℕ → Offset
offset_in None t = no_offset t
offset_in (Some o) t = if nat_eq o.register t then o else no_offset t

abbrev pub index_with : Option Offset → (register : Option ℕ) → Option Offset
index_with o register = option_map (offset_in o) register
