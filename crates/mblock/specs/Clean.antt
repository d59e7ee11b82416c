-- The delay rules that an order keeps so that no word of it comes too early, by places in the order.
use Rattle.std.specs.Prelude.{◌≡◌, ℕ, suc, true, false, ◌⊎◌, ◌||◌, List, [], ◌∷◌, ◌++◌, map, length, Option, Some, None, is_some, slice_get}
use Rattle.mips_isa.specs.declared.inst.Plain.{Plain}
use Rattle.mips_isa.specs.declared.action.Action.{Action}
use Rattle.mips_isa.specs.Actions.{action_of, loads, touches, is_load, is_move, is_product}
use Rattle.mblock.specs.declared.exit.Exit.{Exit}
use Rattle.mblock.specs.declared.unclean.Unclean.{Unclean}
use Rattle.mblock.specs.declared.unclean.Unclean.TheVariants.{LoadUse, ProductAfterMove, SlotLoadOrMove, ExitLoad}
use Rattle.mblock.specs.Parts.{OrderParts}
use Rattle.mblock.specs.Slots.{is_slotted}
use Rattle.mblock.specs.OrderMeaning.{exit_touches}

abbrev pub slot_actions : Option Plain → List Action
slot_actions None = []
slot_actions (Some i) = action_of i ∷ []

-- a slot is given exactly where the exit has one
abbrev pub FitsSlot : OrderParts → Type 0
FitsSlot o = is_some o.slot ≡ is_slotted o.exit

-- the words of an order, its exit as one of no kind
abbrev pub kinds_of : List Plain → List (Option Action) → List (Option Action)
kinds_of insts tail = map (λ i. Some (action_of i)) insts ++ tail

abbrev pub slot_words : Option Plain → List (Option Action)
slot_words slot = None ∷ map Some (slot_actions slot)

abbrev pub kinds : OrderParts → List (Option Action)
kinds o = kinds_of o.insts (slot_words o.slot)

-- no instruction reads or writes the register that the one just before it loads
abbrev pub IsApart : List Plain → Type 0
IsApart insts = (i r : ℕ) (a b : Plain) → slice_get insts i ≡ Some a → slice_get insts (suc i) ≡ Some b → loads (action_of a) r ≡ true
    → touches (action_of b) r ≡ false

-- no product is one or two words after a move from HI or LO
abbrev pub IsBehind : List (Option Action) → Type 0
IsBehind words = (i : ℕ) (a b : Action) → slice_get words i ≡ Some (Some a) → is_move a ≡ true
    → (slice_get words (suc i) ≡ Some (Some b)) ⊎ (slice_get words (suc (suc i)) ≡ Some (Some b)) → is_product b ≡ false

-- no load and no move from HI or LO is in the slot
abbrev pub HasQuietSlot : OrderParts → Type 0
HasQuietSlot o = (i : Plain) → o.slot ≡ Some i → (is_load (action_of i) || is_move (action_of i)) ≡ false

-- the last instruction loads no register that the first word of the exit reads or writes
abbrev pub HasQuietEnd : List Plain → Exit → Type 0
HasQuietEnd insts exit = (i r : ℕ) (a : Plain) → slice_get insts i ≡ Some a → suc i ≡ length insts → loads (action_of a) r ≡ true
    → exit_touches exit r ≡ false

pub record IsClean (o : OrderParts) : Type 0 where
  pub apart : IsApart o.insts
  pub behind : IsBehind (kinds o)
  pub slot : HasQuietSlot o
  pub last : HasQuietEnd o.insts o.exit

-- the rule is the least that the order breaks
abbrev pub BreaksFirst : Unclean → OrderParts → Type 0
BreaksFirst LoadUse o = IsApart o.insts → ⊥
BreaksFirst ProductAfterMove o = IsApart o.insts × (IsBehind (kinds o) → ⊥)
BreaksFirst SlotLoadOrMove o = IsApart o.insts × IsBehind (kinds o) × (HasQuietSlot o → ⊥)
BreaksFirst ExitLoad o = IsApart o.insts × IsBehind (kinds o) × HasQuietSlot o × (HasQuietEnd o.insts o.exit → ⊥)
