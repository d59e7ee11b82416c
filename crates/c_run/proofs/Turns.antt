-- What is pending, taken apart; and what `break` and `continue` skip.
use Rattle.std.proofs.Common.{◌≡◌, List, [], ◌∷◌, ◌++◌, ◌≤◌, ◌<◌, Bor, inl, inr, refl, sym, ap, ◌∙◌, length, arith}
use Rattle.std.specs.Prelude.{◌⊎◌}
use Rattle.std.specs.declared.vec.Vec.{Vec}
use Rattle.std.specs.declared.alloc.Global.{Global}
use Rattle.std.proofs.lemmas.List.{reverse-append}
use Rattle.runs.specs.Stores.{Places}
use Rattle.c_typed.specs.declared.tree.TypedStatement.{TypedStatement, Block}
use Rattle.c_typed.specs.Trees as Trees
use Rattle.c_typed.specs.Trees.{TypedStatements, empty, block, unset, assign, store, call, output, if_else, loop, break_loop, continue_loop, return_with}
use Rattle.c_typed.specs.Trees.{no_statements, more_statements}
use Rattle.c_typed.specs.Shape.{statement_of, statements_of}
use Rattle.c_typed.specs.Meaning.{Todo, Do, before, before_all, next_point, Going, Breaking, Continuing}
use Rattle.c_run.specs.Turns.{past_turn, at_turn}
use Rattle.c_run.specs.Interpreter.{with_pending, todo_list_of, waiting_of, with_part, with_head}
use Rattle.c_run.specs.declared.pending.Head.{Head}
use Rattle.c_run.specs.declared.pending.Head.TheVariants as Heads
use Rattle.c_run.specs.declared.pending.Pending.{Pending}
use Rattle.c_run.specs.declared.pending.Pending.TheVariants.{One, Rest, Turn}
use Rattle.c_typed.proofs.Shapes.{block-is}

pub waiting-push : (ts : List Pending) (t : Pending) → waiting_of (ts ++ t ∷ []) ≡ with_pending t (waiting_of ts)
waiting-push ts t = ap todo_list_of (reverse-append ts (t ∷ []))

pub leaves : (k : List Todo) (l : Places) → next_point Breaking l k ≡ next_point Going l (past_turn k)
leaves (Do s ∷ k) l = leaves k l
leaves _ l = refl

pub continues : (k : List Todo) (l : Places) → next_point Continuing l k ≡ next_point Going l (at_turn k)
continues (Do s ∷ k) l = continues k l
continues _ l = refl

-- what passes over each statement passes over those that a statement comes to
mutual
  over-before : {A : Type 0} (f : List Todo → A) → ((s : Trees.TypedStatement) (k : List Todo) → f (Do s ∷ k) ≡ f k) → (s : Trees.TypedStatement) (k : List Todo)
      → f (before s k) ≡ f k
  over-before f over empty k = refl
  over-before f over (block all) k = over-before_all f over all k
  over-before f over (unset x) k = over (unset x) k
  over-before f over (assign x e) k = over (assign x e) k
  over-before f over (store a i e) k = over (store a i e) k
  over-before f over (call to g all) k = over (call to g all) k
  over-before f over (output e) k = over (output e) k
  over-before f over (if_else c a b) k = over (if_else c a b) k
  over-before f over (loop c last body) k = over (loop c last body) k
  over-before f over break_loop k = over break_loop k
  over-before f over continue_loop k = over continue_loop k
  over-before f over (return_with e) k = over (return_with e) k

  over-before_all : {A : Type 0} (f : List Todo → A) → ((s : Trees.TypedStatement) (k : List Todo) → f (Do s ∷ k) ≡ f k) → (all : TypedStatements)
      (k : List Todo) → f (before_all all k) ≡ f k
  over-before_all f over no_statements k = refl
  over-before_all f over (more_statements s rest) k = over-before f over s (before_all rest k) ∙ over-before_all f over rest k

pub past-list : (all : List TypedStatement) (k : List Todo) → past_turn (before_all (statements_of all) k) ≡ past_turn k
past-list all k = over-before_all past_turn (λ s k. refl) (statements_of all) k

pub at-list : (all : List TypedStatement) (k : List Todo) → at_turn (before_all (statements_of all) k) ≡ at_turn k
at-list all k = over-before_all at_turn (λ s k. refl) (statements_of all) k

-- what a pop leaves of what waits
pub popped : (ts rest : List Pending) (t : Pending) → ts ≡ rest ++ t ∷ [] → waiting_of ts ≡ with_pending t (waiting_of rest)
popped ts rest t e = ap waiting_of e ∙ waiting-push rest t

-- a statement, or a list of them, and no end of a turn
abbrev pub NoTurn : Pending → Type 0
NoTurn t = ((s : Bor TypedStatement) × (list : Bor (List TypedStatement)) × (t ≡ One s list)) ⊎ ((list : Bor (List TypedStatement)) × (t ≡ Rest list))

over-pending : {A : Type 0} (f : List Todo → A) → ((s : Trees.TypedStatement) (k : List Todo) → f (Do s ∷ k) ≡ f k) → (t : Pending) (k : List Todo)
    → NoTurn t → f (with_pending t k) ≡ f k
over-pending f over t k (inl w) =
    ap (λ t. f (with_pending t k)) w.2 ∙ over-before f over (statement_of w.0.now) (before_all (statements_of w.1.now) k)
    ∙ over-before_all f over (statements_of w.1.now) k
over-pending f over t k (inr w) = ap (λ t. f (with_pending t k)) w.1 ∙ over-before_all f over (statements_of w.0.now) k

pub past-popped : (ts rest : List Pending) (t : Pending) → ts ≡ rest ++ t ∷ [] → NoTurn t → past_turn (waiting_of rest) ≡ past_turn (waiting_of ts)
past-popped ts rest t e n = sym (ap past_turn (popped ts rest t e) ∙ over-pending past_turn (λ s k. refl) t (waiting_of rest) n)

pub at-popped : (ts rest : List Pending) (t : Pending) → ts ≡ rest ++ t ∷ [] → NoTurn t → at_turn (waiting_of rest) ≡ at_turn (waiting_of ts)
at-popped ts rest t e n = sym (ap at_turn (popped ts rest t e) ∙ over-pending at_turn (λ s k. refl) t (waiting_of rest) n)

-- the end of a turn, which is popped
pub turn-left : (ts rest : List Pending) (t : Pending) (last again : Bor TypedStatement) (list : Bor (List TypedStatement)) → ts ≡ rest ++ t ∷ []
    → t ≡ Turn last again list → past_turn (waiting_of ts) ≡ before_all (statements_of list.now) (waiting_of rest)
turn-left ts rest t last again list e is = ap past_turn (popped ts rest t e ∙ ap (λ t. with_pending t (waiting_of rest)) is)

-- the same, put back
pub turn-back : (ts rest new : List Pending) (t : Pending) (last again : Bor TypedStatement) (list : Bor (List TypedStatement)) (none : List TypedStatement)
    → ts ≡ rest ++ t ∷ [] → t ≡ Turn last again list → new ≡ rest ++ t ∷ [] → none ≡ []
    → before_all (statements_of none) (waiting_of new) ≡ at_turn (waiting_of ts)
turn-back ts rest new t last again list none e is back none-is =
    let first = popped ts rest t e ∙ ap (λ t. with_pending t (waiting_of rest)) is in
    ap (λ all. before_all (statements_of all) (waiting_of new)) none-is ∙ ap waiting_of (back ∙ sym e) ∙ first ∙ sym (ap at_turn first)

none-left : (all : List TypedStatement) → length all ≡ 0 → all ≡ []
none-left [] e = refl
none-left (s ∷ rest) e = absurd (omega arith)

-- an empty list
pub none-before : (all : List TypedStatement) (k : List Todo) → length all ≡ 0 → before_all (statements_of all) k ≡ k
none-before all k n = ap (λ all. before_all (statements_of all) k) (none-left all n)

pub rest-gone : (ts behind : List Pending) (t : Pending) (all : Bor (List TypedStatement)) → ts ≡ behind ++ t ∷ [] → t ≡ Rest all → length all.now ≡ 0
    → waiting_of behind ≡ waiting_of ts
rest-gone ts behind t all e is n =
    sym (popped ts behind t e ∙ ap (λ t. with_pending t (waiting_of behind)) is ∙ none-before all.now (waiting_of behind) n)

-- a list of statements that was first comes to lie on top as a list
pub block-opened : (old mid new : List Todo) (h : Head) (s : Bor TypedStatement) (all : Vec TypedStatement Global) (slice : Bor (List TypedStatement))
    → old ≡ with_part h mid → h ≡ Heads.Statement s → s.now ≡ Block all → slice.now ≡ all.items → new ≡ before_all (statements_of slice.now) mid
    → new ≡ old
block-opened old mid new h s all slice e is opens slice-is put =
    put ∙ ap (λ xs. before_all (statements_of xs) mid) slice-is
    ∙ sym (e ∙ ap (λ h. with_part h mid) is ∙ ap (λ s. before (statement_of s) mid) opens ∙ ap (λ s. before s mid) (block-is all))

-- a block that is put as the list that it is
pub block-put : (old new : List Todo) (s : Bor TypedStatement) (all : Vec TypedStatement Global) (slice : Bor (List TypedStatement))
    → s.now ≡ Block all → slice.now ≡ all.items → new ≡ before_all (statements_of slice.now) old → new ≡ before (statement_of s.now) old
block-put old new s all slice opens slice-is put =
    put ∙ ap (λ xs. before_all (statements_of xs) old) slice-is
    ∙ sym (ap (λ s. before (statement_of s) old) opens ∙ ap (λ s. before s old) (block-is all))

pub at-head : (old mid : List Todo) (h : Head) (s : Bor TypedStatement) (is_s : TypedStatement) → old ≡ with_head h mid → h ≡ Heads.Statement s
    → s.now ≡ is_s → old ≡ Do (statement_of is_s) ∷ mid
at-head old mid h s is_s e is i = e ∙ ap (λ h. with_head h mid) is ∙ ap (λ s. Do (statement_of s) ∷ mid) i

pub break_settles : (old mid new : List Todo) (l : Places) → old ≡ Do break_loop ∷ mid → new ≡ past_turn mid
    → next_point Going l new ≡ next_point Going l old
break_settles old mid new l e n = ap (next_point Going l) n ∙ sym (leaves mid l) ∙ sym (ap (next_point Going l) e)

pub continue_settles : (old mid new : List Todo) (l : Places) → old ≡ Do continue_loop ∷ mid → new ≡ at_turn mid
    → next_point Going l new ≡ next_point Going l old
continue_settles old mid new l e n = ap (next_point Going l) n ∙ sym (continues mid l) ∙ sym (ap (next_point Going l) e)

past-shorter : (k : List Todo) → length (past_turn k) ≤ length k
past-shorter (Do s ∷ k) = omega (arith, past-shorter k)
past-shorter _ = omega arith

at-shorter : (k : List Todo) → length (at_turn k) ≤ length k
at-shorter (Do s ∷ k) = omega (arith, at-shorter k)
at-shorter _ = omega arith

pub break-shorter : (old mid new : List Todo) → old ≡ Do break_loop ∷ mid → new ≡ past_turn mid → length new < length old
break-shorter old mid new e n = omega (arith, past-shorter mid, ap length n, ap length e)

pub continue-shorter : (old mid new : List Todo) → old ≡ Do continue_loop ∷ mid → new ≡ at_turn mid → length new < length old
continue-shorter old mid new e n = omega (arith, at-shorter mid, ap length n, ap length e)
