-- Calls of functions.
use Rattle.std.proofs.Common.{◌≡◌, ℕ, zero, suc, List, [], ◌∷◌, Option, Some, None, Bool, true, false, refl, sym, ◌∙◌, ap, length, nat_lt}
use Rattle.std.proofs.Common.{get_or, map, Bor}
use mathlib.Core.Path.{fun_ext}
use Rattle.std.specs.Prelude.{if◌then◌else◌}
use Rattle.std.specs.List.{slice_get}
use Rattle.std.specs.Option.{option_map}
use Rattle.std.specs.declared.vec.Vec.{Vec}
use Rattle.std.specs.declared.alloc.Global.{Global}
use Rattle.runs.specs.Stores.{Places, Arrays, unset_places}
use Rattle.runs.specs.Calls.{calls_of, state_by}
use Rattle.runs.proofs.Waiting.{room-of, with-calls}
use Rattle.runs.specs.Runs.{Running, Failed, with_value}
use Rattle.c_typed.specs.declared.tree.Destination.{Destination}
use Rattle.c_typed.specs.declared.tree.Function.{Function}
use Rattle.c_typed.specs.declared.tree.TypedStatement.{TypedStatement}
use Rattle.c_typed.specs.Trees.{TypedFunction}
use Rattle.c_typed.specs.Shape.{function_of, functions_of, statements_of}
use Rattle.c_types.specs.Shape.{TypedParts, program_of}
use Rattle.c_typed.specs.Meaning as Meaning
use Rattle.c_typed.specs.Meaning.{Todo, Run, Surroundings, at, argument_places, state_after_call, before_all, first_words, source_start}
use Rattle.runs.specs.Kept.{places, arrays}
use Rattle.c_run.specs.Interpreter.{Interpreter, todos, frame_of, around_next_call}
use Rattle.c_run.specs.declared.interpreter.Frame.{Frame}
use Rattle.c_run.specs.declared.pending.Agenda.{Agenda}

abbrev failed : List ℕ → Run
failed out = Failed out

function-get : (fs : List Function) (i : ℕ) → slice_get (functions_of fs) i ≡ option_map function_of (slice_get fs i)
function-get [] i = refl
function-get (f ∷ fs) zero = refl
function-get (f ∷ fs) (suc i) = function-get fs i

fails : (o : Option TypedFunction) (out : List ℕ) → with_value o out (λ (f : TypedFunction). failed out) ≡ Failed out
fails None out = refl
fails (Some f) out = refl

abbrev frame_with : Places → List Todo → Option Destination → Meaning.Frame
frame_with l k to = record { locals = l; todo = k; result_to = to }

pub new-frame : (values : Vec (Option ℕ) Global) (todo : Agenda) (slice : Bor (List TypedStatement)) (x : Function) (to : Option Destination) (l : Places)
    → places values.items ≡ l → todos todo ≡ before_all (statements_of slice.now) [] → slice.now ≡ x.body.items
    → frame_of (record { locals = values; todo = todo; result_to = to }) ≡ frame_with l (before_all (statements_of x.body.items) []) to
new-frame values todo slice x to l values-are listed body =
    ap (λ l. frame_with l (todos todo) to) values-are
    ∙ ap (λ k. frame_with l k to) (listed ∙ ap (λ all. before_all (statements_of all) []) body)

module _ (p : TypedParts) (depth i : ℕ) (vs : List ℕ) (to : Option Destination) (m : Interpreter) where
  abbrev w : Surroundings
  w = around_next_call (program_of p) depth m to

  -- by the function, if there is one, and by the room for its call
  abbrev state-by : Option TypedFunction → Bool → Run
  state-by o room =
      with_value o m.output.items (λ function. if room then at w (argument_places vs) (before_all function.body []) else failed m.output.items)

  by-function : (o : Option Function) → slice_get p.functions i ≡ o
      → state_after_call w i vs ≡ state-by (option_map function_of o) (nat_lt (length w.waiting) depth)
  by-function o is =
      ap (λ o. state-by o (nat_lt (length w.waiting) depth)) (function-get p.functions i ∙ ap (option_map function_of) is)

  pub entered : (x : Function) (new : Interpreter) (frame : Frame) → slice_get p.functions i ≡ Some x → nat_lt (length (calls_of m)) depth ≡ true
      → calls_of new ≡ frame ∷ calls_of m → new.globals ≡ m.globals → new.output ≡ m.output
      → frame_of frame ≡ frame_with (argument_places vs) (before_all (statements_of x.body.items) []) to → state_after_call w i vs ≡ state_by frame_of new
  entered x new frame there room is globals output f =
      by-function (Some x) there
      ∙ ap (state-by (Some (function_of x))) (room-of frame_of m depth true room)
      ∙ ap (λ f. Running (f ∷ w.waiting) w.globals w.output) (sym f)
      ∙ sym (with-calls frame_of m new (frame ∷ calls_of m) is globals output)

  pub refused : nat_lt (length (calls_of m)) depth ≡ false → state_after_call w i vs ≡ Failed m.output.items
  refused full =
      ap (state-by (slice_get (program_of p).functions i)) (room-of frame_of m depth false full)
      ∙ fails (slice_get (program_of p).functions i) m.output.items

  pub called-nowhere : slice_get p.functions i ≡ None → state_after_call w i vs ≡ Failed m.output.items
  called-nowhere past = by-function None past

none_set : (x : ℕ) → get_or {A = Option ℕ} [] x None ≡ None
none_set zero = refl
none_set (suc x) = refl

abbrev first_state : Arrays → List ℕ → TypedFunction → Run
first_state g out f = Running (frame_with unset_places (before_all f.body []) None ∷ []) g out

pub unset-locals : (locals : List (Option ℕ)) → locals ≡ [] → places locals ≡ unset_places
unset-locals locals none = ap places none ∙ fun_ext none_set

pub starts : (p : TypedParts) (x : Function) (m : Interpreter) (frame : Frame) (globals : Vec (Vec ℕ Global) Global) → slice_get p.functions p.main ≡ Some x
    → calls_of m ≡ frame ∷ [] → m.globals ≡ globals → m.output.items ≡ []
    → frame_of frame ≡ frame_with unset_places (before_all (statements_of x.body.items) []) None → arrays globals.items ≡ map first_words p.globals
    → source_start (program_of p) ≡ state_by frame_of m
starts p x m frame globals there one same none-out f words =
    let g = map first_words p.globals in
    ap (λ o. with_value o [] (λ (f : TypedFunction). first_state g [] f)) (function-get p.functions p.main ∙ ap (option_map function_of) there)
    ∙ ap (λ f. Running (f ∷ []) g []) (sym f)
    ∙ ap (λ g. Running (frame_of frame ∷ []) g []) (sym words)
    ∙ ap (λ (gs : Vec (Vec ℕ Global) Global). Running (frame_of frame ∷ []) (arrays gs.items) []) (sym same)
    ∙ ap (λ cs. Running (map frame_of cs) (arrays m.globals.items) []) (sym one)
    ∙ ap (λ out. Running (map frame_of (calls_of m)) (arrays m.globals.items) out) (sym none-out)
