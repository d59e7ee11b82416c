-- The delay rules as tests, place by place. For the contracts of private functions.
use Rattle.std.specs.Prelude.{ℕ, ◌+◌, Bool, false, ◌&&◌, ◌||◌, List, Option, Some, None, slice_get}
use Rattle.mips_isa.specs.declared.inst.Plain.{Plain}
use Rattle.mips_isa.specs.declared.action.Action.{Action}
use Rattle.mips_isa.specs.declared.action.Action.TheVariants.{Loads}
use Rattle.mips_isa.specs.States.{is_register}
use Rattle.mips_isa.specs.Actions.{action_of, touches, is_move, is_product}

-- the action loads a register that the test names
abbrev pub loads_named : Action → (ℕ → Bool) → Bool
loads_named (Loads w d base offset) test = is_register d && test d
loads_named _ test = false

-- the word is a product
abbrev pub is_product_word : Option (Option Action) → Bool
is_product_word (Some (Some a)) = is_product a
is_product_word _ = false

abbrev pub is_move_word : Option (Option Action) → Bool
is_move_word (Some (Some a)) = is_move a
is_move_word _ = false

-- the first of two instructions loads what the second names
abbrev pub conflict_of : Option Plain → Option Plain → Bool
conflict_of (Some a) (Some b) = loads_named (action_of a) (touches (action_of b))
conflict_of (Some a) None = false
conflict_of None second = false

-- word k reads HI or LO, and one of the next two is a product
abbrev pub early_at : List (Option Action) → ℕ → Bool
early_at words k = is_move_word (slice_get words k) && (is_product_word (slice_get words (k + 1))
    || is_product_word (slice_get words (k + 2)))
