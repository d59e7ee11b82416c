-- The machine after so many words, and what a view shows of it.
use Rattle.std.specs.Prelude.{◌≡◌, ◌≢◌, ◌<◌, ◌≤◌, ◌⊎◌, ◌+◌, ◌-◌, ◌*◌, ◌%◌, ◌^◌, min, ℕ, zero, suc, List, Bool, true, false, Option, Some, None, slice_index}
use Rattle.mips_isa.specs.Flows.{Pending, Nothing, Loaded}
use Rattle.mips_code.specs.Machines.{Code, Machine, Stepped, Goes, Halts, Sticks, step_of, words_code}
use Rattle.mips_isa.specs.States.{load_at}
use Rattle.words.specs.declared.width.Width.TheVariants.{Word}
use Rattle.mips_machine.specs.Rules.{address_rule_of}
use Rattle.mips_machine.specs.ImageRuns.{start_machine}
use Rattle.image.specs.Images.{ImageParts, IsImage, image_bytes}
use Rattle.mcc_web.specs.declared.machines.View.{View}

abbrev pub going : Stepped → Option Machine
going (Goes m) = Some m
going (Halts w) = None
going (Sticks r) = None

abbrev pub one_more : Code → Option Machine → Option Machine
one_more code None = None
one_more code (Some m) = going (step_of (code m.pc) m)

-- the machine after so many words; none where one of them ends the run
abbrev pub behind : Code → ℕ → Machine → Option Machine
behind code zero m = Some m
behind code (suc k) m = one_more code (behind code k m)

abbrev pub target_in : Bool → ℕ → Option ℕ
target_in false target = None
target_in true target = Some target

-- the load under way; register 0 is never loaded
abbrev pub pending_in : ℕ → ℕ → Pending
pending_in zero word = Nothing
pending_in (suc r) word = Loaded (suc r) word

-- `from` words and `most` more, as far as words are counted, or up to the first at `stop` after `from` of them. Or it is all up to the one
-- that ends the run
abbrev pub IsFar : Code → (from most stop words : ℕ) → Machine → Type 0
IsFar code from most stop words m =
    ((from ≤ words) × ((words ≡ min (from + most) (2 ^ 64 - 1)) ⊎ (m.pc ≡ stop))) ⊎ (one_more code (Some m) ≡ None)

-- from `from` words on the machine wasn't at `stop` before it had run so many
abbrev pub WasNotAt : Code → Machine → (from stop words : ℕ) → Type 0
WasNotAt code start from stop words =
    (k : ℕ) (m : Machine) → from ≤ k → k < words → behind code k start ≡ Some m → m.pc ≢ stop

pub record ShowsMachine (m : Machine) (v : View) : Type 0 where
  pub pc : v.pc ≡ m.pc
  pub target : target_in v.in_slot v.target ≡ m.target
  pub pending : pending_in v.loads v.loaded ≡ m.flow.pending
  pub hold : v.hold ≡ m.flow.hold
  pub high : v.high ≡ m.flow.state.hi
  pub low : v.low ≡ m.flow.state.lo
  pub registers : slice_index v.registers ≡ m.flow.state.regs

-- a word of memory by its number, from an address on
abbrev pub address_from : (address k : ℕ) → ℕ
address_from address k = (address + 4 * k) % 2 ^ 32

-- the words of memory from an address on
abbrev pub HoldsWords : Machine → (address count : ℕ) → List ℕ → Type 0
HoldsWords m address count words = (k : ℕ) → k < count → (address_rule_of Word (address_from address k) m.flow.state ≡ None)
    × (slice_index words k ≡ load_at Word m.flow.state.mapped m.flow.state.memory (address_from address k))

-- these and no more of the 32 that a view has: the next can't be read
pub record ShowsMemory (m : Machine) (address mapped : ℕ) (words : List ℕ) : Type 0 where
  pub few : mapped ≤ 32
  pub holds : HoldsWords m address mapped words
  pub next : mapped < 32 → address_rule_of Word (address_from address mapped) m.flow.state ≢ None

-- the bytes are an image's, and the view is that of its machine after so many words
pub record Shows (bytes : List ℕ) (from most stop address : ℕ) (v : View) : Type 0 where
  pub image : ImageParts
  pub fits : IsImage image
  pub written : image_bytes image ≡ bytes
  pub machine : Machine
  pub runs : behind (words_code image.code) v.words (start_machine image) ≡ Some machine
  pub within : v.words ≤ from + most
  pub far : IsFar (words_code image.code) from most stop v.words machine
  pub passed : WasNotAt (words_code image.code) (start_machine image) from stop v.words
  pub shows : ShowsMachine machine v
  pub memory : ShowsMemory machine address v.mapped v.memory
