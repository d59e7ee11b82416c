-- Each step of a run keeps to words.
use Rattle.std.proofs.Common.{◌≡◌, ℕ, List, [], ◌∷◌, ◌++◌, Bool, true, false, Option, Some, None, subst, length, nat_lt}
use Rattle.std.specs.Prelude.{All, map, if◌then◌else◌}
use Rattle.std.specs.List.{slice_get}
use Rattle.std.proofs.lemmas.Option.{same_Some}
use Rattle.std.proofs.lemmas.List.Elements.{All-nil, All-cons, All-head, All-tail, All-push, All-replicate}
use Rattle.words.specs.Words.{wrap}
use Rattle.words.specs.Widths.{kept}
use Rattle.runs.specs.Stores.{Places, Arrays, places_with, arrays_with, IsWord, PlacesHoldWords, ArraysHoldWords}
use Rattle.runs.specs.Runs.{Running, Failed}
use Rattle.runs.proofs.Words.{chain-some, at-index, unset-words, written-words, stored-words}
use Rattle.runs.proofs.Keeping.{with-words, running-words, set-words}
use Rattle.words.proofs.Widths.{wrap_below, kept_below}
use Rattle.c_typed.specs.declared.tree.Destination.{Destination}
use Rattle.c_typed.specs.declared.tree.Destination.TheVariants.{Local, Global as Variable}
use Rattle.c_typed.specs.declared.tree.Global.{Global}
use Rattle.c_typed.specs.Trees.{TypedExpression, TypedFunction, TypedProgram, unset, assign, store, call, output, if_else, loop, break_loop, continue_loop, return_with}
use Rattle.c_typed.specs.Values.{value_of}
use Rattle.c_typed.specs.Meaning.{Todo, Do, Next, Mode, Going, Breaking, Continuing, Frame, Run, before, before_all, next_point, Surroundings, frame_at, at}
use Rattle.c_typed.specs.Meaning.{with_value_of, kept_in, elements_with, state_after_store, state_after_assignment, argument_places, around_callee}
use Rattle.c_typed.specs.Meaning.{state_after_call, state_with_result, todo_of_test, step_at, source_step, first_words, source_start}
use Rattle.c_typed.specs.Laws.{FrameHoldsWords, RunHoldsWords}
use Rattle.c_typed.proofs.Values.{value-word, values-words}

none-set : (l : Places) (x : ℕ) → PlacesHoldWords l → PlacesHoldWords (places_with l x None)
none-set l x h = written-words l x None h (λ v e. let never = e in cc)

next_point-words : (m : Mode) (l : Places) (k : List Todo) → PlacesHoldWords l → PlacesHoldWords (next_point m l k).locals
next_point-words Going l [] h = h
next_point-words Breaking l [] h = h
next_point-words Continuing l [] h = h
next_point-words Going l (Do (unset x) ∷ k) h = next_point-words Going (places_with l x None) k (none-set l x h)
next_point-words Going l (Do break_loop ∷ k) h = next_point-words Breaking l k h
next_point-words Going l (Do continue_loop ∷ k) h = next_point-words Continuing l k h
next_point-words Going l (Next last again ∷ k) h = h
next_point-words Going l (Do s ∷ k) h = h
next_point-words Breaking l (Do s ∷ k) h = next_point-words Breaking l k h
next_point-words Breaking l (Next last again ∷ k) h = next_point-words Going l k h
next_point-words Continuing l (Do s ∷ k) h = next_point-words Continuing l k h
next_point-words Continuing l (Next last again ∷ k) h = h

elements-words : (globals : List Global) (g : Arrays) (a i v : ℕ) (after : Arrays) → ArraysHoldWords g → IsWord v → elements_with globals g a i v ≡ Some after
    → ArraysHoldWords after
elements-words globals g a i v after h w e =
    let s = chain-some (kept_in globals a v) (λ x. arrays_with g a i x) after e in
    let t = chain-some (slice_get globals a) (λ (global : Global). Some (kept global.width v)) s.0 s.1 in
    stored-words g a i s.0 after h (subst IsWord (same_Some (kept t.0.width v) s.0 t.2) (kept_below t.0.width v w)) s.2

-- words in the calls that wait, in the globals and in the output
record AroundHoldsWords (w : Surroundings) : Type 0 where
  waiting : All FrameHoldsWords w.waiting
  globals : ArraysHoldWords w.globals
  output : All IsWord w.output

at-words : (w : Surroundings) (l : Places) (k : List Todo) → AroundHoldsWords w → PlacesHoldWords l → RunHoldsWords (at w l k)
at-words w l k h a = running-words FrameHoldsWords (frame_at w l k) w.waiting w.globals w.output a h.waiting h.globals h.output

after-store-words : (w : Surroundings) (a i v : ℕ) (l : Places) (k : List Todo) → IsWord v → AroundHoldsWords w → PlacesHoldWords l
    → RunHoldsWords (state_after_store w a i v l k)
after-store-words w a i v l k word h holds = with-words FrameHoldsWords _ w.output _ h.output (λ g e.
    running-words FrameHoldsWords (frame_at w l k) w.waiting g w.output holds h.waiting (elements-words w.program.globals w.globals a i v g h.globals word e)
    h.output)

placed-words : (w : Surroundings) (to : Destination) (v : ℕ) (l : Places) (k : List Todo) → IsWord v → AroundHoldsWords w → PlacesHoldWords l
    → RunHoldsWords (state_after_assignment w to v l k)
placed-words w (Local x) v l k word h holds = at-words w (places_with l x (Some v)) k h (set-words l x v holds word)
placed-words w (Variable x) v l k word h holds = after-store-words w x 0 v l k word h holds

called-words : (w : Surroundings) (f : ℕ) (vs : List ℕ) → All IsWord vs → AroundHoldsWords w → RunHoldsWords (state_after_call w f vs)
called-words w f vs words h =
    with-words FrameHoldsWords _ w.output _ h.output (λ function e. by function (nat_lt (length w.waiting) w.depth))
  where
    by : (function : TypedFunction) (t : Bool) → RunHoldsWords (if t then at w (argument_places vs) (before_all function.body []) else Failed w.output)
    by function true =
        at-words w (argument_places vs) (before_all function.body []) h (λ x v e. at-index IsWord vs x v words e)
    by function false = h.output

returned-words : (w : Surroundings) (v : Option ℕ) (to : Option Destination) (frames : List Frame) → ((x : ℕ) → v ≡ Some x → IsWord x)
    → All FrameHoldsWords frames → AroundHoldsWords w → RunHoldsWords (state_with_result w v to frames)
returned-words w v to [] word b h = with-words FrameHoldsWords v w.output _ h.output (λ x e. (word x e, h.output))
returned-words w v None (f ∷ frames) word b h = (b, (h.globals, h.output))
returned-words w v (Some place) (f ∷ frames) word b h = with-words FrameHoldsWords v w.output _ h.output (λ x e.
    placed-words (record w { result_to = f.result_to; waiting = frames }) place x f.locals f.todo (word x e)
    (record { waiting = All-tail FrameHoldsWords f frames b; globals = h.globals; output = h.output }) (All-head FrameHoldsWords f frames b))

module _ (w : Surroundings) (h : AroundHoldsWords w) (l : Places) (holds : PlacesHoldWords l) where
  -- on with the value of an expression
  value-first : (e : TypedExpression) (go : ℕ → Run) → ((v : ℕ) → IsWord v → RunHoldsWords (go v)) → RunHoldsWords (with_value_of w l e go)
  value-first e go k =
      with-words FrameHoldsWords (value_of e l w.globals) w.output go h.output (λ v is. k v (value-word e l w.globals holds h.globals v is))

  step-words : (k : List Todo) → RunHoldsWords (step_at w l k)
  step-words (Do (assign x e) ∷ k) = value-first e _ (λ v word. placed-words w x v l k word h holds)
  step-words (Do (store x i e) ∷ k) = value-first i _ (λ j _. value-first e _ (λ v word. after-store-words w x j v l k word h holds))
  step-words (Do (call x f all) ∷ k) = with-words FrameHoldsWords _ w.output _ h.output (λ vs is.
      called-words (around_callee w (frame_at w l k) x) f vs (values-words all l w.globals holds h.globals vs is)
      (record { waiting = All-cons FrameHoldsWords (frame_at w l k) w.waiting holds h.waiting; globals = h.globals; output = h.output }))
  step-words (Do (output e) ∷ k) = value-first e _ (λ v word.
      at-words (record w { output = w.output ++ v ∷ [] }) l k
      (record { waiting = h.waiting; globals = h.globals; output = All-push IsWord w.output v h.output word }) holds)
  step-words (Do (if_else t s u) ∷ k) = value-first t _ (λ v _. at-words w l (todo_of_test v (before s k) (before u k)) h holds)
  step-words (Do (loop t last body) ∷ k) =
      value-first t _ (λ v _. at-words w l (todo_of_test v (before body (Next last (loop t last body) ∷ k)) k) h holds)
  step-words (Do (return_with None) ∷ k) = returned-words w None w.result_to w.waiting (λ x e. let never = e in cc) h.waiting h
  step-words (Do (return_with (Some e)) ∷ k) = value-first e _ (λ v word.
      returned-words w (Some v) w.result_to w.waiting (λ x same. subst IsWord (same_Some v x same) word) h.waiting h)
  step-words _ = h.output

pub source-step-words : (p : TypedProgram) (depth : ℕ) (s : Run) → RunHoldsWords s → RunHoldsWords (source_step p depth s)
source-step-words p depth (Running [] g out) h = h.1.1
source-step-words p depth (Running (f ∷ frames) g out) h =
    let point = next_point Going f.locals f.todo in
    step-words (record { program = p; depth = depth; result_to = f.result_to; waiting = frames; globals = g; output = out })
    (record { waiting = All-tail FrameHoldsWords f frames h.0; globals = h.1.0; output = h.1.1 }) point.locals
    (next_point-words Going f.locals f.todo (All-head FrameHoldsWords f frames h.0)) point.todo
source-step-words p depth _ h = h

globals-words : (all : List Global) → ArraysHoldWords (map first_words all)
globals-words [] = All-nil (All IsWord)
globals-words (a ∷ rest) = All-cons (All IsWord) (first_words a) (map first_words rest)
    (All-replicate IsWord a.length (kept a.width (wrap a.first)) (kept_below a.width (wrap a.first) (wrap_below a.first))) (globals-words rest)

pub source-start-words : (p : TypedProgram) → RunHoldsWords (source_start p)
source-start-words p = with-words FrameHoldsWords (slice_get p.functions p.main) [] _ (All-nil IsWord) (λ main e.
    running-words FrameHoldsWords _ [] (map first_words p.globals) [] unset-words (All-nil FrameHoldsWords) (globals-words p.globals) (All-nil IsWord))
