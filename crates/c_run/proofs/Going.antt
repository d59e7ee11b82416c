-- A program's run in portions: what was written before it, and one step more of a portion.
use Rattle.std.proofs.Common.{◌≡◌, ℕ, zero, suc, ◌+◌, ◌<◌, ◌++◌, true, false, cond, List, [], ◌∷◌, ◌≢◌, Option, Some, None, refl, sym, ap, subst, ◌∙◌, rules}
use Rattle.std.specs.Prelude.{IfSome}
use Rattle.std.proofs.Common.{append_assoc, append-nil, length, nat_lt, slice_get}
use Rattle.runs.specs.Stores.{Places}
use Rattle.runs.specs.Runs.{Running, Ended, Failed, with_value, outcome}
use Rattle.runs.specs.Portions.{WentOn, after_output}
use Rattle.runs.specs.Portions.{behind as behind_run}
use Rattle.runs.specs.Steps.{end_of, outcome_after}
use Rattle.runs.specs.Calls.{reached_by}
use Rattle.runs.specs.declared.reached.Reached.{Reached}
use Rattle.runs.specs.declared.reached.Reached.TheVariants as Reach
use Rattle.runs.specs.declared.ran.End.{End}
use Rattle.runs.specs.declared.ran.End.TheVariants.{More}
use Rattle.runs.proofs.Running.{by-step}
use Rattle.runs.proofs.Portions.{one_more}
use Rattle.c_typed.specs.declared.tree.Destination.{Destination}
use Rattle.c_typed.specs.declared.tree.Destination.TheVariants.{Local, Global as Variable}
use Rattle.c_typed.specs.Trees.{TypedProgram, TypedFunction, assign, store, call, output, if_else, loop, return_with}
use Rattle.c_typed.specs.Values.{value_of, values_of}
use Rattle.c_typed.specs.Meaning.{Todo, Do, Going, Frame, Run, before_all, next_point, Surroundings, at, argument_places, elements_with}
use Rattle.c_typed.specs.Meaning.{state_after_store, state_after_assignment, frame_at, around_callee, state_after_call, state_with_result, step_at}
use Rattle.c_typed.specs.Meaning.{source_step, source_steps}
use Rattle.c_types.specs.Shape.{program_of}
use Rattle.c_run.specs.Portions.{comes_to, emptied, state_of}
use Rattle.c_run.specs.Interpreter.{Interpreter, frame_of}
use Rattle.c_run.specs.declared.portions.UnderWay.{UnderWay}

-- ---- what was written before a run

-- the same state with output before its own
abbrev put : List ℕ → Run → Run
put out (Running calls g own) = Running calls g (out ++ own)
put out (Ended w own) = Ended w (out ++ own)
put out (Failed own) = Failed (out ++ own)

module _ (out : List ℕ) where
  -- the same surroundings with output before their own
  abbrev behind : Surroundings → Surroundings
  behind w = record w { output = out ++ w.output }

  value_same : {A : Type 0} (o : Option A) (own : List ℕ) (go go' : A → Run) → ((a : A) → go' a ≡ put out (go a))
      → with_value o (out ++ own) go' ≡ put out (with_value o own go)
  value_same None own go go' h = refl
  value_same (Some a) own go go' h = h a

  store_same : (w : Surroundings) (a i v : ℕ) (l : Places) (k : List Todo)
      → state_after_store (behind w) a i v l k ≡ put out (state_after_store w a i v l k)
  store_same w a i v l k = value_same (elements_with w.program.globals w.globals a i v) w.output _ _ (λ g. refl)

  assignment_same : (w : Surroundings) (to : Destination) (v : ℕ) (l : Places) (k : List Todo)
      → state_after_assignment (behind w) to v l k ≡ put out (state_after_assignment w to v l k)
  assignment_same w (Local x) v l k = refl
  assignment_same w (Variable x) v l k = store_same w x 0 v l k

  call_same : (w : Surroundings) (f : ℕ) (vs : List ℕ) → state_after_call (behind w) f vs ≡ put out (state_after_call w f vs)
  call_same w f vs =
      let called : TypedFunction → Surroundings → Run = λ function w. at w (argument_places vs) (before_all function.body []) in
      value_same (slice_get w.program.functions f) w.output _ _ (λ function.
      elim (nat_lt (length w.waiting) w.depth)
      as (λ b. cond b (called function (behind w)) (Failed (out ++ w.output)) ≡ put out (cond b (called function w) (Failed w.output)))
      [ true ↦ refl | false ↦ refl ])

  result_same : (w : Surroundings) (v : Option ℕ) (to : Option Destination) (frames : List Frame)
      → state_with_result (behind w) v to frames ≡ put out (state_with_result w v to frames)
  result_same w v to [] = value_same v w.output _ _ (λ v. refl)
  result_same w v None (f ∷ frames) = refl
  result_same w v (Some place) (f ∷ frames) = value_same v w.output _ _ (λ v.
      assignment_same (record w { result_to = f.result_to; waiting = frames }) place v f.locals f.todo)

  at_same : (w : Surroundings) (l : Places) (todo : List Todo) → step_at (behind w) l todo ≡ put out (step_at w l todo)
  at_same w l (Do (assign x e) ∷ k) = value_same (value_of e l w.globals) w.output _ _ (λ v. assignment_same w x v l k)
  at_same w l (Do (store a i e) ∷ k) =
      value_same (value_of i l w.globals) w.output _ _ (λ x. value_same (value_of e l w.globals) w.output _ _ (λ v. store_same w a x v l k))
  at_same w l (Do (call to f all) ∷ k) =
      value_same (values_of all l w.globals) w.output _ _ (λ vs. call_same (around_callee w (frame_at w l k) to) f vs)
  at_same w l (Do (output e) ∷ k) = value_same (value_of e l w.globals) w.output _ _ (λ v.
      ap (λ o. at (record w { output = o }) l k) (append_assoc out w.output (v ∷ [])))
  at_same w l (Do (if_else c a b) ∷ k) = value_same (value_of c l w.globals) w.output _ _ (λ v. refl)
  at_same w l (Do (loop c last body) ∷ k) = value_same (value_of c l w.globals) w.output _ _ (λ v. refl)
  at_same w l (Do (return_with None) ∷ k) = result_same w None w.result_to w.waiting
  at_same w l (Do (return_with (Some e)) ∷ k) =
      value_same (value_of e l w.globals) w.output _ _ (λ v. result_same w (Some v) w.result_to w.waiting)
  at_same w l _ = refl

  step_same : (p : TypedProgram) (depth : ℕ) (s : Run) → source_step p depth (put out s) ≡ put out (source_step p depth s)
  step_same p depth (Running (f ∷ frames) g own) =
      let point = next_point Going f.locals f.todo in
      at_same (record { program = p; depth = depth; result_to = f.result_to; waiting = frames; globals = g; output = own }) point.locals point.todo
  step_same p depth _ = refl

  steps_same : (p : TypedProgram) (depth n : ℕ) (s : Run) → source_steps p depth n (put out s) ≡ put out (source_steps p depth n s)
  steps_same p depth zero s = refl
  steps_same p depth (suc n) s =
      ap (λ t. source_steps p depth n t) (step_same p depth s) ∙ steps_same p depth n (source_step p depth s)

  outcome_same : (s : Run) → outcome (put out s) ≡ after_output out (outcome s)
  outcome_same (Running calls g own) = refl
  outcome_same _ = refl

own_put : (s : Run) → s ≡ put (outcome s).output (emptied s)
own_put (Running calls g own) = ap (λ o. Running calls g o) (sym (append-nil own))
own_put (Ended w own) = ap (λ o. Ended w o) (sym (append-nil own))
own_put (Failed own) = ap (λ o. Failed o) (sym (append-nil own))

pub output_before : (p : TypedProgram) (depth n : ℕ) (s : Run)
    → outcome (source_steps p depth n s) ≡ after_output (outcome s).output (outcome (source_steps p depth n (emptied s)))
output_before p depth n s =
    let out = (outcome s).output in
    ap (λ t. outcome (source_steps p depth n t)) (own_put s) ∙ ap outcome (steps_same out p depth n (emptied s))
    ∙ outcome_same out (source_steps p depth n (emptied s))

-- ---- a portion, step by step

ends_behind : (r : Reached) → IfSome (end_of r) (λ e. e ≢ More)
ends_behind Reach.Going = tt
ends_behind (Reach.Ended w) = λ is. search rules
ends_behind Reach.Failed = λ is. search rules

behind_step : (m : UnderWay) (n : ℕ) (r : Reached) (end : Option End) → end_of r ≡ end
    → outcome_after r (comes_to m n) (outcome (state_of m)).output ≡ behind_run comes_to end m n
behind_step m n Reach.Going end e = ap (λ e. behind_run comes_to e m n) e
behind_step m n _ end e = ap (λ e. behind_run comes_to e m n) e

pub one_step : (asked : ℕ) (old m : UnderWay) (i : Interpreter) (r : Reached) (end : Option End) (ran : ℕ) → ran < asked
    → WentOn comes_to More asked old m (record { end = None; ran = ran }) → m.program ≡ old.program → m.depth ≡ old.depth
    → source_step (program_of old.program.now) old.depth (state_of m) ≡ reached_by frame_of r i → end_of r ≡ end
    → WentOn comes_to More asked old (record m { interpreter = i }) (record { end = end; ran = ran + 1 })
one_step asked old m i r end ran lt went program depth e is =
    let new : UnderWay = record m { interpreter = i } in
    let step = source_step (program_of m.program.now) m.depth in
    let stepped = rw (sym depth) at (rw (sym program) at e) in
    one_more comes_to More asked old m new end ran lt went refl (λ n.
    by-step step (state_of m) (state_of new) r i.output.items (record { ended = λ w out. refl; failed = λ out. refl }) stepped n
    ∙ behind_step new n r end is)
    (subst (λ (o : Option End). IfSome o (λ e. e ≢ More)) is (ends_behind r))
