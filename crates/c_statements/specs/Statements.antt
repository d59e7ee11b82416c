-- The faults of statements and of declarations of locals.
use Rattle.std.specs.Prelude.{◌≡◌, ◌≢◌, ◌⊎◌, ℕ, List, [], ◌∷◌, Option, Some, None, Bool, true, false, length}
use Rattle.c_tokens.specs.declared.token.Identifier.{Identifier}
use Rattle.c_tokens.specs.declared.token.IntegerType.{IntegerType}
use Rattle.c_tree.specs.Tree as Tree
use Rattle.c_tree.specs.Tree.{Expression, Statement, Items, empty, block, if_then, if_then_else, while_loop, for_loop, break_at}
use Rattle.c_tree.specs.Tree.{continue_at, return_at, simply, declare, statement, no_items, more_items, call, plain, called, assign}
use Rattle.c_tree.specs.Tree.{assign_at, call_statement}
use Rattle.c_statements.specs.declared.fault.TypeFaultKind.{TypeFaultKind}
use Rattle.c_statements.specs.declared.fault.TypeFaultKind.TheVariants.{Redeclared, Kind as KindFault, Outside, Limit}
use Rattle.c_typed.specs.declared.limits.TheConstants.{MAX_LOCALS}
use Rattle.c_statements.specs.Faults.{Faults}
use Rattle.c_statements.specs.Names.{Environment, spelling_in}
use Rattle.c_statements.specs.Names.{Scopes, environment_in, within, with_local, behind}
use Rattle.c_statements.specs.Uses.{as_value, with_index, as_call, Misused, Faulty}

-- the one fault of this kind at this place
abbrev pub OneFault : TypeFaultKind → ℕ → Faults
OneFault k at j n = (j ≡ k) × (n ≡ at)

abbrev pub FaultyAll : Environment → List Expression → Faults
FaultyAll scope [] k at = ⊥
FaultyAll scope (e ∷ rest) k at = Faulty scope e k at ⊎ FaultyAll scope rest k at

abbrev pub FaultyMaybe : Environment → Option Expression → Faults
FaultyMaybe scope None k at = ⊥
FaultyMaybe scope (Some e) k at = Faulty scope e k at

-- a call whose result is used or not
abbrev pub FaultyCall : Environment → Bool → Tree.Call → Faults
FaultyCall scope wanted (call x all) k at = Misused scope x (as_call (length all) wanted) k at ⊎ FaultyAll scope all k at

abbrev pub FaultyValue : Environment → Tree.Value → Faults
FaultyValue scope (plain e) k at = Faulty scope e k at
FaultyValue scope (called c) k at = FaultyCall scope true c k at

abbrev pub FaultyFirst : Environment → Option Tree.Value → Faults
FaultyFirst scope None k at = ⊥
FaultyFirst scope (Some v) k at = FaultyValue scope v k at

abbrev pub FaultySimple : Environment → Tree.Simple → Faults
FaultySimple scope (assign x v) k at = Misused scope x as_value k at ⊎ FaultyValue scope v k at
FaultySimple scope (assign_at x i e) k at = Misused scope x with_index k at ⊎ (Faulty scope i k at ⊎ Faulty scope e k at)
FaultySimple scope (call_statement c) k at = FaultyCall scope false c k at

abbrev pub FaultyPart : Environment → Option Tree.Simple → Faults
FaultyPart scope None k at = ⊥
FaultyPart scope (Some s) k at = FaultySimple scope s k at

-- a `return` fits its function: with a value exactly where the function gives one
abbrev pub FaultyReturn : Bool → Option Expression → ℕ → Faults
FaultyReturn true (Some e) place k at = ⊥
FaultyReturn true None place k at = OneFault KindFault place k at
FaultyReturn false (Some e) place k at = OneFault KindFault place k at
FaultyReturn false None place k at = ⊥

-- `break` and `continue` stand in a loop
abbrev pub FaultyJump : Bool → ℕ → Faults
FaultyJump true place k at = ⊥
FaultyJump false place k at = OneFault Outside place k at

-- a second declaration of a name in the innermost scope, and the 129th local
pub data FaultyDeclarator (text : List ℕ) (sc : Scopes) (x : Identifier) : TypeFaultKind → ℕ → Type 0 where
  declared_before : sc.inner (spelling_in text x) ≢ None → FaultyDeclarator text sc x Redeclared x.at
  local_too_many : sc.locals ≡ MAX_LOCALS → FaultyDeclarator text sc x Limit x.at

-- a declaration of a local, which is in sight from the end of its declarator on, in its own first value too
abbrev pub FaultyLocal : List ℕ → Scopes → IntegerType → Identifier → Option Tree.Value → Faults
FaultyLocal text sc integer_type x v k at = FaultyDeclarator text sc x k at
    ⊎ FaultyFirst (environment_in text (with_local text sc integer_type x)) v k at

-- the faults of a statement in a function that gives a result or not, in a loop or not
abbrev mutual
  pub FaultyStatement : List ℕ → (gives loop : Bool) → Scopes → Statement → Faults
  FaultyStatement text gives loop sc empty k at = ⊥
  FaultyStatement text gives loop sc (block all) k at = FaultyItems text gives loop (within sc) all k at
  FaultyStatement text gives loop sc (if_then c s) k at = Faulty (environment_in text sc) c k at ⊎ FaultyStatement text gives loop sc s k at
  FaultyStatement text gives loop sc (if_then_else c s t) k at =
      Faulty (environment_in text sc) c k at
      ⊎ (FaultyStatement text gives loop sc s k at ⊎ FaultyStatement text gives loop (behind sc s) t k at)
  FaultyStatement text gives loop sc (while_loop c s) k at = Faulty (environment_in text sc) c k at
      ⊎ FaultyStatement text gives true sc s k at
  FaultyStatement text gives loop sc (for_loop f c l s) k at =
      FaultyPart (environment_in text sc) f k at ⊎
      (FaultyMaybe (environment_in text sc) c k at
      ⊎ (FaultyPart (environment_in text sc) l k at ⊎ FaultyStatement text gives true sc s k at))
  FaultyStatement text gives loop sc (break_at place) k at = FaultyJump loop place k at
  FaultyStatement text gives loop sc (continue_at place) k at = FaultyJump loop place k at
  FaultyStatement text gives loop sc (return_at place e) k at =
      FaultyReturn gives e place k at ⊎ FaultyMaybe (environment_in text sc) e k at
  FaultyStatement text gives loop sc (simply s) k at = FaultySimple (environment_in text sc) s k at

  pub FaultyItems : List ℕ → (gives loop : Bool) → Scopes → Items → Faults
  FaultyItems text gives loop sc no_items k at = ⊥
  FaultyItems text gives loop sc (more_items (statement s) rest) k at =
      FaultyStatement text gives loop sc s k at ⊎ FaultyItems text gives loop (behind sc s) rest k at
  FaultyItems text gives loop sc (more_items (declare integer_type x v) rest) k at =
      FaultyLocal text sc integer_type x v k at ⊎ FaultyItems text gives loop (with_local text sc integer_type x) rest k at
