-- Where pseudo-registers are, and which words they are known to hold.
use Rattle.std.specs.Prelude.{ℕ, ◌+◌, ◌-◌, ◌*◌, ◌%◌, ◌≤◌, Option, Some, None, List, [], ◌∷◌, take, reverse, nat_eq, if◌then◌else◌}
use Rattle.std.specs.Prelude.{slice_get}
use Rattle.std.specs.Option.{option_flatten, option_map_or, option_or}
use Rattle.words.specs.Words.{wrap}
use Rattle.runs.specs.Stores.{Places, places_with}
use Rattle.rtl.specs.declared.instruction.RInst.{RInst}
use Rattle.rtl.specs.declared.instruction.RInst.TheVariants.{Const, Move, Bin, Load, Store}
use Rattle.mips_homes.specs.declared.convention.TheConstants.{SCRATCH_1, SCRATCH_3}
use Rattle.mips_homes.specs.Convention.{is_callee_saved}
use Rattle.mips_homes.specs.declared.homed.Home.{Home}
use Rattle.mips_homes.specs.declared.homed.Home.TheVariants.{Reg, Slot, Copied}
use Rattle.mips_homes.specs.declared.homed.Frame.{Frame}
use Rattle.mips_emit.specs.declared.limits.TheConstants.{FRAME_BYTES, KEPT_FACTS}
use Rattle.mips_emit.specs.declared.location.Source.{Source}
use Rattle.mips_emit.specs.declared.location.Source.TheVariants.{Zero, Word, InRegister, InSlot}
use Rattle.mips_emit.specs.declared.facts.Fact.{Fact}
use Rattle.mips_emit.specs.declared.facts.Kept.{Kept}
use Rattle.mips_emit.specs.declared.offset.Offset.{Offset}
use Rattle.mips_emit.specs.Offsets.{sum_offset, past, offset_past, index_with}
use Rattle.mips_emit.specs.declared.facts.Knowledge.{Knowledge}
use Rattle.mips_emit.specs.declared.facts.Last.{Last}

-- ---- homes

-- where each pseudo-register lives, if it has a home
abbrev pub Locations : Type 0
Locations = ℕ → Option Home

abbrev pub locations : Frame → Locations
locations f = slice_get f.homes.items

-- the inner temporary of a home. The left operand of what goes there is fetched in this register, and what goes to a slot is computed
-- in it. It is the first and the third scratch register in turn, so that code for one home needn't wait for that of the one before. The
-- first one also has the bases of elements, so the first temporary, which is 8, has 3
abbrev pub inner_of : Option Home → ℕ
inner_of None = SCRATCH_1
inner_of (Some (Reg r)) = SCRATCH_3 - 2 * (r % 2)
inner_of (Some (Slot k)) = SCRATCH_1 + 2 * (k % 2)
inner_of (Some (Copied r k)) = SCRATCH_3 - 2 * (r % 2)

-- ---- words that are known

-- facts, the newest first, and the words that caller-saved registers should hold but don't yet. Then the base that register 30 holds, and a
-- register that is the sum of another one and a word
pub record Facts : Type 0 where
  pub known : List Fact
  pub deferred : Places
  pub kept : Option Kept
  pub offset : Option Offset

-- the word that a pseudo-register is known to hold
abbrev pub known_of : List Fact → Places
known_of [] x = None
known_of (f ∷ facts) x = if nat_eq x f.register then f.word else known_of facts x

abbrev pub known_in : Facts → Places
known_in facts = known_of facts.known

-- one more fact, and the oldest ones forgotten
abbrev pub with_fact : ℕ → Option ℕ → List Fact → List Fact
with_fact x word facts = take KEPT_FACTS ((let f : Fact = record { register = x; word = word } in f) ∷ facts)

-- a constant isn't put into a caller-saved register, unless that is a copy; what is put anywhere else is there
abbrev pub deferred_with : Option Home → (constant : Option ℕ) → Places → Places
deferred_with (Some (Reg r)) None deferred = places_with deferred r None
deferred_with (Some (Reg r)) (Some w) deferred = places_with deferred r (if is_callee_saved r then None else Some w)
deferred_with _ constant deferred = deferred

-- ---- operands

-- a word that is known, and one that a register holds besides
abbrev pub known_source : ℕ → Option Home → Source
known_source w (Some (Reg r)) = InRegister r
known_source w (Some (Copied r k)) = InRegister r
known_source w _ = Word w

-- an operand, from the word that it is known to hold and where it is
abbrev pub source : (known : Option ℕ) → Option Home → Source
source None None = Zero
source None (Some (Reg r)) = InRegister r
source None (Some (Slot k)) = InSlot k
source None (Some (Copied r k)) = InRegister r
source (Some w) o = if nat_eq w 0 then Zero else known_source w o

-- a word as an operand
abbrev pub word_source : ℕ → Source
word_source w = source (Some w) None

-- what a home should hold but doesn't yet
abbrev pub deferred_at : Places → Option Home → Option ℕ
deferred_at deferred (Some (Reg r)) = deferred r
deferred_at deferred _ = None

abbrev pub operand : Locations → Facts → ℕ → Source
operand at facts x = option_map_or word_source (deferred_at facts.deferred (at x)) (source (known_in facts x) (at x))

-- ---- what is known after an instruction

-- the register of an index that is no known word
abbrev pub index_register : (known : Option ℕ) → Source → Option ℕ
index_register None (InRegister r) = Some r
index_register _ _ = None

abbrev pub index_of : Locations → Facts → ℕ → Option Offset
index_of at facts i = index_with facts.offset (index_register (known_in facts i) (operand at facts i))

-- the base that is kept once an element is used whose index is in a register
abbrev pub kept_with : (global : ℕ) → (index : Option Offset) → Option Kept → Option Kept
kept_with a None kept = kept
kept_with a (Some o) kept = Some (record { global = a; index = o })

-- it is so while its registers aren't written
abbrev pub kept_past : Option Home → Option Kept → Option Kept
kept_past l kept = past (λ k. k.index) l kept

abbrev pub written : Option Home → ℕ → (word constant : Option ℕ) → Facts → Facts
written l d word constant facts = record {
  known = with_fact d word facts.known;
  deferred = deferred_with l constant facts.deferred;
  kept = kept_past l facts.kept;
  offset = offset_past l facts.offset;
}

abbrev pub learned : Locations → RInst → Facts → Facts
learned at (Const d w) facts = written (at d) d (Some (wrap w)) (Some (wrap w)) facts
learned at (Move d a) facts = written (at d) d (known_in facts a) None facts
learned at (Bin op d a b) facts = record (written (at d) d None None facts) {
  offset = option_or (sum_offset (at d) op (known_in facts b) (operand at facts a)) (offset_past (at d) facts.offset);
}
learned at (Load d a i) facts = written (at d) d None None (record facts { kept = kept_with a (index_of at facts i) facts.kept })
learned at (Store a i b) facts = record facts { kept = kept_with a (index_of at facts i) facts.kept }

-- and after several
abbrev pub known_after : Locations → List RInst → Facts → Facts
known_after at [] facts = facts
known_after at (i ∷ is) facts = known_after at is (learned at i facts)

-- the words of a table, by their places
abbrev pub word_in : List (Option ℕ) → Places
word_in table q = option_flatten (slice_get table q)

-- the last of some facts, the newest first
abbrev pub newest : List Fact → List Fact
newest facts = take KEPT_FACTS (reverse facts)

-- the same as the code has it
abbrev pub facts_of : Knowledge → Facts
facts_of k = record { known = newest k.known.items; deferred = word_in k.deferred; kept = k.kept; offset = k.offset }

-- at the head of a block
abbrev pub no_facts : Facts
no_facts = record { known = []; deferred = λ q. None; kept = None; offset = None }

-- ---- what an exit can use of the last instruction

-- a pseudo-register in a slot, whose word is in its inner temporary when it has been written
abbrev pub in_slot : Option Home → ℕ → Option ℕ
in_slot (Some (Slot k)) x = Some x
in_slot _ x = None

abbrev pub fresh_of : Locations → RInst → Option ℕ
fresh_of at (Bin op d a b) = in_slot (at d) d
fresh_of at (Load d a i) = in_slot (at d) d
fresh_of at _ = None

abbrev pub last_of : Locations → Facts → RInst → Last
last_of at facts i = record { fresh = fresh_of at i; comparison = None }

-- ---- operands of an exit

-- an operand of an exit: what the last instruction left in its inner temporary, or any other
abbrev pub fresh_source : Option ℕ → (x inner : ℕ) → Source → Source
fresh_source None x inner other = other
fresh_source (Some y) x inner other = if nat_eq y x then InRegister inner else other

abbrev pub last_operand : Locations → Facts → Option ℕ → ℕ → Source
last_operand at facts fresh x = fresh_source fresh x (inner_of (at x)) (operand at facts x)

-- ---- within reach of the stack pointer

abbrev pub FitsHome : Home → Type 0
FitsHome (Reg r) = Unit {0}
FitsHome (Slot k) = 4 * k ≤ FRAME_BYTES
FitsHome (Copied r k) = 4 * k ≤ FRAME_BYTES

abbrev pub FitsPlace : Option Home → Type 0
FitsPlace None = Unit {0}
FitsPlace (Some h) = FitsHome h

abbrev pub FitsSource : Source → Type 0
FitsSource (InSlot k) = 4 * k ≤ FRAME_BYTES
FitsSource _ = Unit {0}
