-- What a unit of blocks does, item by item: an item is one instruction or one exit.
use Rattle.std.specs.Prelude.{◌≡◌, ℕ, zero, suc, ◌<◌, ◌≤◌, ◌^◌, Bool, true, false, ◌==◌, List, [], ◌∷◌, ◌++◌, Option, Some, None, slice_get}
use Rattle.std.specs.Prelude.{if◌then◌else◌}
use Rattle.runs.specs.declared.ran.End.TheVariants.{Done, Wrong, More}
use Rattle.runs.specs.Runs.{Outcome}
use Rattle.mips_isa.specs.declared.inst.Plain.{Plain}
use Rattle.mips_isa.specs.States.{State}
use Rattle.mips_isa.specs.Actions.{action_of, is_safe, state_after}
use Rattle.mblock.specs.declared.exit.Exit.{Exit}
use Rattle.mblock.specs.declared.exit.Exit.TheVariants.{Call}
use Rattle.mblock.specs.Parts.{BlockParts}
use Rattle.mblock.specs.BlockMeaning.{Departure, GoesTo, CallsTo, GoesBack, PrintsTo, HaltsWith, exit_effect}

abbrev pub wrong : List ℕ → Outcome
wrong out = record { end = Wrong; output = out }

-- the block in which a run is, what is left of its instructions, the state and the output
abbrev pub Next : Type 0
Next = ℕ → List Plain → State → List ℕ → Outcome

abbrev pub call_return_of : Exit → Bool → Option ℕ → Option ℕ
call_return_of (Call f n) true rest = Some n
call_return_of exit found rest = rest

-- where the call with that link goes on
abbrev pub return_block_of : (ℕ → ℕ) → ℕ → ℕ → List BlockParts → Option ℕ
return_block_of links word k [] = None
return_block_of links word k (b ∷ rest) = call_return_of b.exit (links k == word) (return_block_of links word (suc k) rest)

abbrev pub outcome_at_block : ℕ → Option BlockParts → Next → State → List ℕ → Outcome
outcome_at_block t None next s out = wrong out
outcome_at_block t (Some b) next s out = next t b.insts s out

abbrev pub outcome_at_return : List BlockParts → Option ℕ → Next → State → List ℕ → Outcome
outcome_at_return blocks None next s out = wrong out
outcome_at_return blocks (Some t) next s out = outcome_at_block t (slice_get blocks t) next s out

-- a unit of these blocks, where a call of block k puts in the link `links k`
module _ (blocks : List BlockParts) (links : ℕ → ℕ) where
  abbrev pub outcome_of_departure : Departure → Next → State → List ℕ → Outcome
  outcome_of_departure (GoesTo t) next s out = outcome_at_block t (slice_get blocks t) next s out
  outcome_of_departure (CallsTo f n) next s out = outcome_at_block f (slice_get blocks f) next s out
  outcome_of_departure (GoesBack word) next s out = outcome_at_return blocks (return_block_of links word 0 blocks) next s out
  outcome_of_departure (PrintsTo word n) next s out = outcome_at_block n (slice_get blocks n) next s (out ++ word ∷ [])
  outcome_of_departure (HaltsWith word) next s out = record { end = Done word; output = out }

  abbrev pub exit_item : ℕ → Option BlockParts → Next → State → List ℕ → Outcome
  exit_item k None next s out = wrong out
  exit_item k (Some b) next s out =
      outcome_of_departure (exit_effect b.exit s (links k)).goes next (exit_effect b.exit s (links k)).state out

  -- one item
  abbrev pub item : Next → Next
  item next k [] s out = exit_item k (slice_get blocks k) next s out
  item next k (i ∷ rest) s out = if is_safe (action_of i) s then next k rest (state_after (action_of i) s) out else wrong out

  -- at most n items
  abbrev pub items : ℕ → Next
  items zero k rest s out = record { end = More; output = out }
  items (suc n) k rest s out = item (items n) k rest s out

  -- a run of n items from the start of block 0
  abbrev pub unit_run : State → ℕ → Outcome
  unit_run s n = outcome_at_block 0 (slice_get blocks 0) (items n) s []

abbrev pub is_call : Exit → Bool
is_call (Call f n) = true
is_call exit = false

-- a word for each call, and none twice
pub record TellsApart (links : ℕ → ℕ) (blocks : List BlockParts) : Type 0 where
  pub words : (k : ℕ) → links k < 2 ^ 32
  pub apart : (i j : ℕ) (a b : BlockParts) → slice_get blocks i ≡ Some a → slice_get blocks j ≡ Some b → is_call a.exit ≡ true
      → is_call b.exit ≡ true → links i ≡ links j → i ≡ j

-- after so many items or more the unit has this end and output, whatever the links
abbrev pub ComesTo : List BlockParts → State → ℕ → Outcome → Type 0
ComesTo blocks s r end = (links : ℕ → ℕ) → TellsApart links blocks → (i : ℕ) × (r ≤ i) × (unit_run blocks links s i ≡ end)
