-- Which code stands for an expression: what the emitter promises of every list of blocks that has those which it made.
-- In all of this `free` is the first register that is free, from which on code may write.
use Rattle.std.specs.Prelude.{◌≡◌, ℕ, ◌+◌, ◌<◌, ◌≤◌, ◌⊎◌, ◌==◌, List, [], ◌∷◌, ◌++◌, Option, Some, if◌then◌else◌}
use Rattle.words.specs.Words.{wrap}
use Rattle.runs.specs.Stores.{Places, Arrays, chain}
use Rattle.c_typed.specs.Trees.{TypedExpression}
use Rattle.c_typed.specs.Values.{value_of}
use Rattle.rtl.specs.Meaning.{Code, Surroundings}
use Rattle.rtl.specs.declared.instruction.RInst.TheVariants as I
use Rattle.rtl.specs.declared.block.RBlock.{RBlock}
use Rattle.rtl.specs.declared.limits.TheConstants.{MAX_REGISTERS}
use Rattle.rtl_emit.specs.Operations.{result_of}
use Rattle.rtl_emit.specs.Sizes.{place_registers, next_free}
use Rattle.rtl_emit.specs.Blocks.{goto, first, Spot, Lands, At}
use Rattle.rtl_emit.specs.Runs.{Holds, Puts, Yields, Takes, Arrives}
use Rattle.rtl_emit.specs.declared.operation.Operation.{Operation}
use Rattle.rtl_emit.specs.declared.place.Place.{Place}

-- the value of the expression, where it has one, is that of a local
abbrev pub Reads : TypedExpression → ℕ → Type 0
Reads e x = (l : Places) (g : Arrays) (v : ℕ) → value_of e l g ≡ Some v → l x ≡ Some v

-- a register p for the value of e, and the first that is free while it is held
pub record IsPlace (e : TypedExpression) (free p next : ℕ) : Type 0 where
  pub rooms : free ≤ next
  pub next_is : next ≡ next_free e free
  pub within : p < MAX_REGISTERS
  pub counted : place_registers e free ≡ p + 1
  pub is : Reads e p ⊎ ((free ≤ p) × (p < next))

-- what code is to give: the value of an expression, or what an operation makes of two values, or of a value and a constant
pub data Wanted : Type 0 where
  the_value : TypedExpression → Wanted
  at_values : Operation → (left right : TypedExpression) → Wanted
  at_constant : Operation → TypedExpression → (constant : ℕ) → Wanted

-- the word that this is, at these locals and globals, or none
abbrev pub word_of : Wanted → Places → Arrays → Option ℕ
word_of (the_value e) l g = value_of e l g
word_of (at_values op a b) l g = chain (value_of a l g) (λ x. chain (value_of b l g) (λ y. result_of op x y))
word_of (at_constant op e c) l g = chain (value_of e l g) (λ x. result_of op x (wrap c))

-- the code from here on puts that word into the register d, where there is one, and goes on there
pub record Gives (bs : List RBlock) (wanted : Wanted) (free d : ℕ) (from to : Code) : Type 0 where
  pub by : (w : Surroundings) (l r : Places) (v : ℕ) → Holds free l r w.globals → word_of wanted l w.globals ≡ Some v
      → Yields w bs r from to (Puts free d v r)

abbrev pub Evaluates : List RBlock → TypedExpression → (free d : ℕ) → (from to : Code) → Type 0
Evaluates bs e free d from to = Gives bs (the_value e) free d from to

-- the value of e is in the register p, or the code from here on puts it there
pub record Fetches (bs : List RBlock) (e : TypedExpression) (free p : ℕ) (from to : Code) : Type 0 where
  pub by : (w : Surroundings) (l r : Places) (v : ℕ) → Holds free l r w.globals → value_of e l w.globals ≡ Some v
      → Takes w bs r from to (Puts free p v r)

-- the code from here on goes to the block yes where e isn't 0, and to the block no where it is
pub record Decides (bs : List RBlock) (e : TypedExpression) (free yes no : ℕ) (from : Code) : Type 0 where
  pub by : (w : Surroundings) (l r : Places) (v : ℕ) → Holds free l r w.globals → value_of e l w.globals ≡ Some v
      → Arrives w bs free r from (if v == 0 then no else yes)

-- two blocks that put 1 or 0 into the register d, and go on
pub record IsTruth (bs : List RBlock) (d yes no : ℕ) (after : Spot) : Type 0 where
  pub join : ℕ
  pub joined : Lands bs join after
  pub yes_at : At bs yes (first (I.Const d 1) (goto join))
  pub no_at : At bs no (first (I.Const d 0) (goto join))

-- places for a list of values, each held while the later ones are found
abbrev pub ArePlaces : List TypedExpression → ℕ → List Place → Type 0
ArePlaces [] free [] = Unit {0}
ArePlaces (e ∷ es) free (p ∷ ps) = IsPlace e free p.register p.free × ArePlaces es p.free ps
ArePlaces [] free (p ∷ ps) = ⊥
ArePlaces (e ∷ es) free [] = ⊥

abbrev pub AddPlaces : List TypedExpression → ℕ → (old new : List Place) → Type 0
AddPlaces es free old new = (ps : List Place) × (new ≡ old ++ ps) × ArePlaces es free ps

-- the code from here on puts each value into its place
abbrev pub FetchAll : List RBlock → List TypedExpression → ℕ → List Place → (from to : Code) → Type 0
FetchAll bs [] free ps from to = from ≡ to
FetchAll bs (e ∷ es) free (p ∷ ps) from to =
    (middle : Code) × Fetches bs e free p.register from middle × FetchAll bs es p.free ps middle to
FetchAll bs (e ∷ es) free [] from to = ⊥
