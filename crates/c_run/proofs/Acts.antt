-- The step of a statement, by its kind.
use Rattle.std.proofs.Common.{◌≡◌, ◌≢◌, ◌∙◌, ℕ, List, ◌∷◌, Option, Some, None, refl, sym, ap, arith, map, Bor, Result, IfOk}
use Rattle.std.proofs.lemmas.Bool.Decides.{nat_tests}
use Rattle.std.proofs.lemmas.Result.{IfOk-weaker}
use Rattle.c_typed.specs.declared.tree.TypedStatement.{TypedStatement}
use Rattle.c_typed.specs.Trees as Trees
use Rattle.c_typed.specs.Trees.{TypedProgram}
use Rattle.c_typed.specs.Shape.{statement_of, statements_of}
use Rattle.c_typed.specs.declared.tree.Destination.{Destination}
use Rattle.c_typed.specs.Meaning.{Do, Next, Todo, Run, at, before, before_all, source_step, todo_of_test}
use Rattle.c_typed.specs.Values.{value_of}
use Rattle.runs.specs.Calls.{callers_of, state_by, reached_by}
use Rattle.runs.specs.Kept.{places, arrays}
use Rattle.runs.specs.Runs.{Running, with_value}
use Rattle.c_run.specs.Interpreter.{around, Does, DoesAtAnyDepth, Interpreter, frame_of, state_after_step, todos, waiting_of}
use Rattle.runs.specs.declared.reached.Reached.{Reached}
use Rattle.runs.specs.declared.reached.Reached.TheVariants.{Failed, Going}
use Rattle.c_run.specs.declared.pending.Agenda.{Agenda}

pub acted-here : {E : Type 0} (p : TypedProgram) (depth : ℕ) (s : TypedStatement) (t : Trees.TypedStatement) (before after : Interpreter)
    (result : Result Reached E) → statement_of s ≡ t → IfOk result (λ r. DoesAtAnyDepth p t before r after) → IfOk result
    (λ r. state_after_step p depth (Do (statement_of s) ∷ todos before.frame.todo) before ≡ reached_by frame_of r after)
acted-here p depth s t before after result is does =
    IfOk-weaker result (λ r. DoesAtAnyDepth p t before r after) (λ r. state_after_step p depth (Do (statement_of s) ∷ todos before.frame.todo) before
    ≡ reached_by frame_of r after)
    (λ r d. ap (λ t. state_after_step p depth (Do t ∷ todos before.frame.todo) before) is ∙ d depth) does

pub acted : {E : Type 0} (p : TypedProgram) (depth : ℕ) (s : TypedStatement) (t : Trees.TypedStatement) (before after : Interpreter) (result : Result Reached E)
    → statement_of s ≡ t → IfOk result (λ r. Does t before r after) → IfOk result
    (λ r. state_after_step p depth (Do (statement_of s) ∷ todos before.frame.todo) before ≡ reached_by frame_of r after)
acted p depth s t before after result is does =
    acted-here p depth s t before after result is
    (IfOk-weaker result (λ r. Does t before r after) (λ r. DoesAtAnyDepth p t before r after) (λ r d. d p) does)

-- ---- the test of a loop

test-fails : (v : ℕ) (a b : List Todo) → v ≡ 0 → todo_of_test v a b ≡ b
test-fails v a b e = rw e refl

test-holds : (v : ℕ) (a b : List Todo) → v ≢ 0 → todo_of_test v a b ≡ a
test-holds v a b h = grind (arith, nat_tests, h)

module _ (m : Interpreter) (again : Trees.TypedStatement) (c : Trees.TypedExpression) (last body : Trees.TypedStatement)
    (is : again ≡ Trees.loop c last body) where
  by-value : (p : TypedProgram) (depth : ℕ) (o : Option ℕ) → value_of c (places m.frame.locals.items) (arrays m.globals.items) ≡ o
      → state_after_step p depth (Do again ∷ todos m.frame.todo) m ≡ with_value o m.output.items (λ v. at (around p depth m) (places m.frame.locals.items)
      (todo_of_test v (before body (Next last (Trees.loop c last body) ∷ todos m.frame.todo)) (todos m.frame.todo)))
  by-value p depth o e =
      ap (λ t. state_after_step p depth (Do t ∷ todos m.frame.todo) m) is
      ∙ ap (λ o. with_value o m.output.items (λ v. at (around p depth m) (places m.frame.locals.items)
      (todo_of_test v (before body (Next last (Trees.loop c last body) ∷ todos m.frame.todo)) (todos m.frame.todo)))) e

  pub loop-fails : value_of c (places m.frame.locals.items) (arrays m.globals.items) ≡ None → Does again m Failed m
  loop-fails e = λ p depth. by-value p depth None e

  pub loop-ends : (v : ℕ) → value_of c (places m.frame.locals.items) (arrays m.globals.items) ≡ Some v → v ≡ 0 → Does again m Going m
  loop-ends v e z = λ p depth. by-value p depth (Some v) e
      ∙ ap (at (around p depth m) (places m.frame.locals.items))
      (test-fails v (before body (Next last (Trees.loop c last body) ∷ todos m.frame.todo)) (todos m.frame.todo) z)

  pub loop-turns : (v : ℕ) (turn : Agenda) → value_of c (places m.frame.locals.items) (arrays m.globals.items) ≡ Some v → v ≢ 0
      → todos turn ≡ before body (Next last again ∷ todos m.frame.todo) → Does again m Going (record m { frame = record m.frame { todo = turn } })
  loop-turns v turn e h put = λ p depth. by-value p depth (Some v) e
      ∙ ap (at (around p depth m) (places m.frame.locals.items))
      (test-holds v (before body (Next last (Trees.loop c last body) ∷ todos m.frame.todo)) (todos m.frame.todo) h
      ∙ sym (put ∙ ap (λ t. before body (Next last t ∷ todos m.frame.todo)) is))

-- ---- a statement that is next in its list

-- the same interpreter with this left of the list
abbrev pub left_of : Interpreter → Bor (List TypedStatement) → Interpreter
left_of m rest = record m { frame = record m.frame { todo = record m.frame.todo { list = rest } } }

-- a step at these things to do
abbrev step_with : TypedProgram → (depth : ℕ) → List Todo → Interpreter → Run
step_with p depth k m =
    source_step p depth (Running (record { locals = places m.frame.locals.items; todo = k; result_to = m.frame.result_to } ∷ map frame_of (callers_of m))
    (arrays m.globals.items) m.output.items)

module _ {E : Type 0} (p : TypedProgram) (depth : ℕ) (m after : Interpreter) (rest : Bor (List TypedStatement)) (s : TypedStatement)
    (result : Result Reached E) (split : m.frame.todo.list.now ≡ s ∷ rest.now) where
  first-is : (t : Trees.TypedStatement) → statement_of s ≡ t
      → source_step p depth (state_by frame_of m)
      ≡ step_with p depth (before t (before_all (statements_of rest.now) (waiting_of m.frame.todo.behind.items))) m
  first-is t is =
      ap (λ all. step_with p depth (before_all (statements_of all) (waiting_of m.frame.todo.behind.items)) m) split
      ∙ ap (λ t. step_with p depth (before t (before_all (statements_of rest.now) (waiting_of m.frame.todo.behind.items))) m) is

  pub assigned-first : (x : Destination) (e : Trees.TypedExpression) → statement_of s ≡ Trees.assign x e
      → IfOk result (λ r. DoesAtAnyDepth p (Trees.assign x e) (left_of m rest) r after)
      → IfOk result (λ r. source_step p depth (state_by frame_of m) ≡ reached_by frame_of r after)
  assigned-first x e is does =
      IfOk-weaker result (λ r. DoesAtAnyDepth p (Trees.assign x e) (left_of m rest) r after)
      (λ r. source_step p depth (state_by frame_of m) ≡ reached_by frame_of r after) (λ r d. first-is (Trees.assign x e) is ∙ d depth) does

  pub stored-first : (a : ℕ) (i e : Trees.TypedExpression) → statement_of s ≡ Trees.store a i e
      → IfOk result (λ r. DoesAtAnyDepth p (Trees.store a i e) (left_of m rest) r after)
      → IfOk result (λ r. source_step p depth (state_by frame_of m) ≡ reached_by frame_of r after)
  stored-first a i e is does =
      IfOk-weaker result (λ r. DoesAtAnyDepth p (Trees.store a i e) (left_of m rest) r after)
      (λ r. source_step p depth (state_by frame_of m) ≡ reached_by frame_of r after) (λ r d. first-is (Trees.store a i e) is ∙ d depth) does
