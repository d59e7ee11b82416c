-- When a reader may read: all tickets that it keeps have been seen by its table's pass.
use Rattle.std.specs.Prelude.{ℕ, ◌<◌, List, [], ◌∷◌, All, slice_index}
use Rattle.term_table.specs.Passes.{PassState, IsOf}
use Rattle.sym_exec.specs.MipsTerms.{HasSeen, HaveSeen}
use Rattle.sym_exec.specs.Standing.{tickets_of}
use Rattle.sym_exec.specs.declared.state.Guard.{Guard}
use Rattle.sym_exec.specs.declared.state.Guard.TheVariants.{Address, Division}
use Rattle.sym_exec.specs.declared.state.SymState.{SymState}
use Rattle.explain.specs.declared.terms.Open.{Open}
use Rattle.explain.specs.declared.terms.Room.{Room}
use Rattle.explain.specs.declared.terms.Room.TheVariants.{Few, Many}

-- how many terms a table has room for
abbrev pub room_terms : Room → ℕ
room_terms Few = 4096
room_terms Many = 65536

abbrev pub guard_tickets : Guard → List ℕ
guard_tickets (Address w t) = t ∷ []
guard_tickets (Division sign a b) = a ∷ b ∷ []

-- the pass has seen all that a block or an order leaves
pub record IsSeenState (p : PassState) (s : SymState) : Type 0 where
  pub regs : (r : ℕ) → r < 32 → HasSeen p (slice_index s.places.regs r)
  pub hi : HasSeen p s.places.hi
  pub lo : HasSeen p s.places.lo
  pub memory : HasSeen p s.places.memory
  pub exit : HaveSeen p (tickets_of s.exit)
  pub guards : All (λ g. HaveSeen p (guard_tickets g)) s.guards.items

pub record IsReader (o : Open) : Type 0 where
  pub own : IsOf o.table o.pass
  pub state : IsSeenState o.pass o.state
  pub waiting : All (HasSeen o.pass) o.waiting.items
