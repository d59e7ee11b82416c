-- Elements of globals in data memory: where they are, and how instructions reach them.
use Rattle.std.specs.Prelude.{◌≡◌, ℕ, ℤ, pos, negsuc, ◌+◌, ◌-◌, ◌*◌, ◌/◌, ◌%◌, ◌≤◌, Bool, ◌&&◌, Option, Some, None, List, [], ◌∷◌, nat_lt}
use Rattle.std.specs.Prelude.{nat_eq, slice_get, if◌then◌else◌}
use Rattle.std.specs.Option.{option_map_or}
use Rattle.words.specs.declared.width.Width.{Width}
use Rattle.words.specs.declared.width.Width.TheVariants.{Word, Byte}
use Rattle.mips_isa.specs.declared.inst.ShiftOp.TheVariants.{Sll}
use Rattle.mips_isa.specs.declared.inst.AluOp.TheVariants.{Addu}
use Rattle.mips_isa.specs.declared.inst.Plain.{Plain}
use Rattle.mips_isa.specs.declared.inst.Plain.TheVariants.{Shift, Alu, LoadUpper}
use Rattle.mips_isa.specs.Starting.{data_base}
use Rattle.mblock.specs.declared.limits.TheConstants.{UNIT_BYTES}
use Rattle.rtl.specs.declared.block.RGlobal.{RGlobal}
use Rattle.mips_homes.specs.declared.convention.TheConstants.{SCRATCH_1, SCRATCH_2, GLOBAL_POINTER}
use Rattle.mips_emit.specs.declared.element.TheConstants.{KEPT_BASE}
use Rattle.mips_emit.specs.declared.element.Reach.{Reach}
use Rattle.mips_emit.specs.declared.element.Reach.TheVariants.{ByPointer, ByScratch, ByKept, ByNew}
use Rattle.mips_emit.specs.declared.offset.Offset.{Offset}
use Rattle.words.specs.Words.{wrap}

-- ---- places in data

abbrev pub width_bytes : Width → ℕ
width_bytes Word = 4
width_bytes Byte = 1

-- the width of a global's elements
abbrev pub width_of : List RGlobal → ℕ → Width
width_of globals a = option_map_or (λ (global : RGlobal). global.width) (slice_get globals a) Word

-- the first byte of an element among the bytes of data, from that of its global
abbrev pub element_place : Width → (start i : ℕ) → ℕ
element_place w start i = start + width_bytes w * i

-- the same of a program with these globals, whose first bytes are at these starts
abbrev pub place_in : List RGlobal → (starts : ℕ → ℕ) → (a i : ℕ) → ℕ
place_in globals starts a i = element_place (width_of globals a) (starts a) i

-- first bytes of globals, none of them beyond the data
abbrev pub AreStarts : List ℕ → Type 0
AreStarts starts = (a start : ℕ) → slice_get starts a ≡ Some start → start ≤ UNIT_BYTES

-- and after the element
abbrev pub place_behind : List RGlobal → (starts : ℕ → ℕ) → (a i : ℕ) → ℕ
place_behind globals starts a i = place_in globals starts a i + width_bytes (width_of globals a)

-- in memory
abbrev pub address_of_place : ℕ → ℕ
address_of_place p = data_base + p

-- ---- how they are reached

-- what the global pointer always holds: the middle of the first 65,536 bytes of data
abbrev pub data_middle : ℕ
data_middle = data_base + 32768

-- the place of an element whose index is known, where the global pointer reaches it
abbrev pub direct : Width → (start : ℕ) → Option ℕ → Option ℕ
direct w start None = None
direct w start (Some i) = if nat_lt i 65536 then (if nat_lt (element_place w start i) 65536 then Some (element_place w start i) else None)
    else None

-- from the global pointer to a place
abbrev pub near : ℕ → ℤ
near p = if nat_lt p 32768 then negsuc (32767 - p) else pos (p - 32768)

-- an address in two parts: an upper half, and a signed offset from it
abbrev pub page : ℕ → ℕ
page at = (at + 32768) / 65536

abbrev pub low : ℕ → ℤ
low at = if nat_lt (at % 65536) 32768 then pos (at % 65536) else negsuc (65535 - at % 65536)

-- from an index in register q, times the width, to a base for the element, in register t, and the offset from it
abbrev pub base_sum : (t start q : ℕ) → List Plain
base_sum t start q =
    if nat_lt start 65536 then Alu Addu t q GLOBAL_POINTER ∷ []
    else LoadUpper SCRATCH_2 (page (address_of_place start)) ∷ Alu Addu t q SCRATCH_2 ∷ []

abbrev pub base_code : Width → (t start q : ℕ) → List Plain
base_code Word t start q = Shift Sll t q 2 ∷ base_sum t start t
base_code Byte t start q = base_sum t start q

abbrev pub base_offset : ℕ → ℤ
base_offset start = if nat_lt start 65536 then near start else low (address_of_place start)

-- what a base is more than the index times the width
abbrev pub base_word : ℕ → ℕ
base_word start = if nat_lt start 65536 then data_middle else page (address_of_place start) * 65536

-- whether elements of one global have the same bases as those of another
abbrev pub shares_base : List RGlobal → (starts : ℕ → ℕ) → (a b : ℕ) → Bool
shares_base globals starts a b =
    nat_eq (width_bytes (width_of globals a)) (width_bytes (width_of globals b)) && nat_eq (base_word (starts a)) (base_word (starts b))

-- the place of an element, some more of them after another one's
abbrev pub shifted_place : Width → (start c : ℕ) → ℕ
shifted_place w start c = wrap (start + width_bytes w * c)

-- whether the global pointer's offset to it is one of an instruction
abbrev pub fits_offset : Width → (start c : ℕ) → Bool
fits_offset w start c = nat_lt start 65536 && nat_lt (shifted_place w start c) 65536

-- the register from which a base is made for an index, and the offset from that base
abbrev pub base_index : Width → (start : ℕ) → Offset → ℕ
base_index w start o = if fits_offset w start o.word then o.base else o.register

abbrev pub shifted_offset : Width → (start c : ℕ) → ℤ
shifted_offset w start c = if fits_offset w start c then near (shifted_place w start c) else base_offset start

-- how an element is reached: by its place if the global pointer reaches that. If its index is in a register, the base is kept, and made
-- if it isn't there
abbrev pub reach_by : Width → (start : ℕ) → (place : Option ℕ) → (index : Option Offset) → (is_kept : Bool) → Reach
reach_by w start (Some p) index b = ByPointer p
reach_by w start None None b = ByScratch
reach_by w start None (Some o) b = if b then ByKept o.word else ByNew (base_index w start o) o.word

-- the base of an element and the offset from it
abbrev pub element_base : Reach → ℕ
element_base (ByPointer p) = GLOBAL_POINTER
element_base ByScratch = SCRATCH_1
element_base (ByKept c) = KEPT_BASE
element_base (ByNew q c) = KEPT_BASE

abbrev pub element_offset : Width → (start : ℕ) → Reach → ℤ
element_offset w start (ByPointer p) = near p
element_offset w start ByScratch = base_offset start
element_offset w start (ByKept c) = shifted_offset w start c
element_offset w start (ByNew q c) = shifted_offset w start c
