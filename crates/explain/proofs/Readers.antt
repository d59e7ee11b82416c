-- What a pass that ran a block has seen, and that a reader goes on.
use Rattle.std.proofs.Common.{◌≡◌, ℕ, List, [], ◌∷◌, ◌++◌, Option, Result, Ok, Err, All, sym, subst, arith}
use Rattle.std.specs.Prelude.{IfOk, IfSome}
use Rattle.std.specs.Result.{result_ok}
use Rattle.std.proofs.lemmas.Option.{get_or_from_slice_get}
use Rattle.std.specs.declared.alloc.AllocError.{AllocError}
use Rattle.std.specs.Option.{option_to_list}
use Rattle.std.proofs.lemmas.List.Elements.{All-append, All-cons, All-nil, All-pop, All-weaker, Contains-get_or}
use Rattle.sym_terms.specs.Trees.{Tree}
use Rattle.sym_terms.specs.Labels.{label_coding}
use Rattle.term_table.specs.Passes.{InRange, Opened, PassState, TableState, new_pass}
use Rattle.term_table.specs.Trees.{Extends}
use Rattle.term_table.proofs.TermCallers.{still_seen_terms}
use Rattle.sym_exec.specs.MipsTerms.{HasSeen, HaveSeen}
use Rattle.sym_exec.proofs.MipsTerms.{still_seen, tree_seen}
use Rattle.sym_exec.specs.declared.state.Guard.{Guard}
use Rattle.sym_exec.specs.declared.state.SymState.{SymState}
use Rattle.term_table.specs.declared.table.TableFull.{TableFull}
use Rattle.sym_exec.specs.declared.state.Guard.TheVariants.{Address, Division}
use Rattle.sym_exec.specs.Symbolic.{AtAddress, AtDivision, CodeTrees, GuardTree}
use Rattle.sym_exec.specs.Standing.{AllHave, IsGuard, StandsFor, tickets_of}
use Rattle.explain.specs.Readers.{IsSeenState, guard_tickets}

-- what was seen, each by each
pub seen_each : (p : PassState) (ts : List ℕ) → HaveSeen p ts → All (HasSeen p) ts
seen_each p [] h = All-nil (HasSeen p)
seen_each p (t ∷ ts) h = All-cons (HasSeen p) t ts h.0 (seen_each p ts h.1)

still_all : {p q : PassState} → Extends p q → (ts : List ℕ) → All (HasSeen p) ts → All (HasSeen q) ts
still_all {p} {q} e ts h = All-weaker (HasSeen p) (HasSeen q) (λ t s. still_seen e t s) ts h

pub still_state : {p q : PassState} → Extends p q → (s : SymState) → IsSeenState p s → IsSeenState q s
still_state {p} {q} e s h = record {
  regs = λ r lt. still_seen e _ (h.regs r lt);
  hi = still_seen e _ h.hi;
  lo = still_seen e _ h.lo;
  memory = still_seen e _ h.memory;
  exit = still_seen_terms label_coding e _ h.exit;
  guards = All-weaker (λ g. HaveSeen p (guard_tickets g)) (λ g. HaveSeen q (guard_tickets g))
      (λ g seen. still_seen_terms label_coding e (guard_tickets g) seen) s.guards.items h.guards;
}

-- the tickets that wait behind a pop and a read, and with the children that came
pub waiting_left : {p q : PassState} → Extends p q → (before after new : List ℕ) (popped : Option ℕ) → before ≡ after ++ option_to_list popped
    → All (HasSeen p) before → new ≡ after → All (HasSeen q) new
waiting_left {p} {q} e before after new popped is seen same =
    subst (All (HasSeen q)) (sym same) (still_all e after (All-pop (HasSeen p) before after popped is seen).0)

pub waiting_more : {p q : PassState} → Extends p q → (before after new slice children : List ℕ) (popped : Option ℕ)
    → before ≡ after ++ option_to_list popped → All (HasSeen p) before → HaveSeen q children → slice ≡ children → new ≡ after ++ slice
    → All (HasSeen q) new
waiting_more {p} {q} e before after new slice children popped is seen kids lent same =
    subst (All (HasSeen q)) (sym same)
    (All-append (HasSeen q) after slice (still_all e after (All-pop (HasSeen p) before after popped is seen).0)
    (subst (All (HasSeen q)) (sym lent) (seen_each q children kids)))

all_seen : (p : PassState) (ts : List ℕ) (xs : List Tree) → AllHave p ts xs → HaveSeen p ts
all_seen p [] xs h = tt
all_seen p (t ∷ ts) [] h = absurd h
all_seen p (t ∷ ts) (x ∷ xs) h = (tree_seen h.0, all_seen p ts xs h.1)

seen_guard : (p : PassState) (g : Guard) (x : GuardTree) → IsGuard p g x → HaveSeen p (guard_tickets g)
seen_guard p (Address w t) (AtAddress v x) h = (tree_seen h.1, tt)
seen_guard p (Division sign a b) (AtDivision other x y) h = (tree_seen h.1, (tree_seen h.2, tt))
seen_guard p (Address w t) (AtDivision other x y) h = absurd h
seen_guard p (Division sign a b) (AtAddress v x) h = absurd h

seen_state : (p : PassState) (s : SymState) (c : CodeTrees) → StandsFor p s.places s.exit s.guards.items c → IsSeenState p s
seen_state p s c h = record {
  regs = λ r lt. tree_seen (h.places.regs r lt);
  hi = tree_seen h.places.hi;
  lo = tree_seen h.places.lo;
  memory = tree_seen h.places.memory;
  exit = all_seen p (tickets_of s.exit) c.operands h.exit.1;
  guards = λ k d lt. let down = h.guards.down _ (Contains-get_or s.guards.items k d lt) in seen_guard p _ down.0 down.2;
}

pub seen_run : (p : PassState) (r : Result (Result SymState TableFull) AllocError) (c : CodeTrees)
    → IfOk r (λ run. IfOk run (λ s. StandsFor p s.places s.exit s.guards.items c)) → IfOk r (λ run. IfOk run (IsSeenState p))
seen_run p (Ok (Ok s)) c h = seen_state p s c h
seen_run p _ c h = tt

-- a table that was opened with room for so many terms
pub room_of : {E : Type 0} (r : Result (TableState × PassState) E) (terms heads : ℕ)
    → IfOk r (λ t. InRange 1 terms heads × Opened 1 terms heads t.0 (t.1 ∷ []))
    → IfSome (result_ok r) (λ t. (t.0.nodes ≡ terms) × (t.1 ≡ new_pass t.0 0))
room_of (Ok t) terms heads h = (h.1.nodes_are, get_or_from_slice_get (t.1 ∷ []) 0 (new_pass t.0 0) t.1 (h.1.each 0 (omega arith)))
room_of (Err e) terms heads h = tt
