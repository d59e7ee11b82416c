-- Calls of functions.
use Rattle.std.proofs.Common.{◌≡◌, ℕ, List, ◌∷◌, Option, Some, None, Bool, refl, sym, ◌∙◌, ap, ap₂, true, false, length, nat_lt, eq-eqb}
use Rattle.std.proofs.Common.{map, get_or, Bor, arith}
use Rattle.std.specs.Prelude.{if◌then◌else◌, ◌&&◌, ◌==◌, is_some, IfSome}
use Rattle.std.specs.List.{slice_get}
use Rattle.runs.proofs.Kept.{places-set_to}
use Rattle.runs.proofs.Lookups.{found}
use Rattle.runs.specs.Calls.{calls_of, state_by}
use Rattle.runs.proofs.Waiting.{room-of, with-calls}
use Rattle.runs.specs.Runs.{Running, Failed}
use Rattle.rtl.specs.declared.block.RBlock.{RBlock}
use Rattle.rtl.specs.declared.block.RFunc.{RFunc}
use Rattle.rtl.specs.Programs.{Program}
use Rattle.rtl.specs.Meaning.{Run, Surroundings, activation, around_callee, code_of, argument_registers, state_after_call}
use Rattle.runs.specs.Kept.{places, arrays}
use Rattle.rtl.specs.Interpreter.{Interpreter, frame_of, around}
use Rattle.rtl.specs.declared.interpreter.Frame.{Frame}

both_false : {A : Type 0} (b : Bool) (x y : A) → (if b && false then x else y) ≡ y
both_false true x y = refl
both_false false x y = refl

either_way : {A : Type 0} (b : Bool) (x : A) → (if b then x else x) ≡ x
either_way true x = refl
either_way false x = refl

-- a call of a function of a program, from where an interpreter stands
module _ (p : Program) (depth i : ℕ) (vs : List ℕ) (to : Option ℕ) (m : Interpreter) where
  abbrev callee : Surroundings
  callee = around_callee (around p depth m) (frame_of m.frame) to

  abbrev after-call : Run
  after-call = state_after_call callee i vs

  -- what it begins with
  pub entered : (x : RFunc) (entry : RBlock) (new : Interpreter) (frame : Frame) (values : List (Option ℕ)) (bs : List RBlock)
      → slice_get p.functions i ≡ Some x → nat_lt (length (calls_of m)) depth ≡ true → length vs ≡ x.parameters
      → slice_get x.blocks.items 0 ≡ Some entry → calls_of new ≡ frame ∷ calls_of m → new.globals ≡ m.globals → new.output ≡ m.output
      → frame_of frame ≡ activation callee bs (places values) (code_of entry) → values ≡ map Some vs → bs ≡ x.blocks.items
      → after-call ≡ state_by frame_of new
  entered x entry new frame values bs there room count first is globals output made words all =
      let begun : frame_of frame ≡ activation callee x.blocks.items (argument_registers vs) (code_of entry) =
      made ∙ ap₂ (λ bs r. activation callee bs r (code_of entry)) all (ap places words ∙ places-set_to vs) in
      let now = with-calls frame_of m new (frame ∷ calls_of m) is globals output in
      rw (there, room-of frame_of m depth true room, eq-eqb (length vs) x.parameters count, first, now)
      (ap (λ t. Running (t ∷ map frame_of (calls_of m)) (arrays m.globals.items) m.output.items) (sym begun))

  -- it fails: of no function, too deep, of another number of words, or of a function without a block
  pub calls-nothing : slice_get p.functions i ≡ None → after-call ≡ Failed m.output.items
  calls-nothing nowhere = rw nowhere

  pub calls-too-deep : (x : RFunc) → slice_get p.functions i ≡ Some x → nat_lt (length (calls_of m)) depth ≡ false
      → after-call ≡ Failed m.output.items
  calls-too-deep x there full = rw (there, room-of frame_of m depth false full)

  pub calls-with-others : (x : RFunc) → slice_get p.functions i ≡ Some x → (length vs ≡ x.parameters → ⊥)
      → after-call ≡ Failed m.output.items
  calls-with-others x there ne =
      let no : (length vs == x.parameters) ≡ false = grind (arith, ne) in
      rw (there, no) (both_false (nat_lt (length (map frame_of (calls_of m))) depth) _ (Failed m.output.items))

  pub calls-no-block : (x : RFunc) → slice_get p.functions i ≡ Some x → slice_get x.blocks.items 0 ≡ None
      → after-call ≡ Failed m.output.items
  calls-no-block x there nowhere =
      rw (there, nowhere) (either_way (nat_lt (length (map frame_of (calls_of m))) depth && (length vs == x.parameters)) (Failed m.output.items))

-- the function of a number, found in the slice of all
pub function-at : (p : Program) (fs : Bor (List RFunc)) (i : ℕ) (r : Option (Bor RFunc)) (x : Bor RFunc) → fs.now ≡ p.functions
    → is_some r ≡ nat_lt i (length fs.now) → IfSome r (λ y. y.now ≡ get_or fs.now i y.now) → r ≡ Some x → slice_get p.functions i ≡ Some x.now
function-at p fs i r x all there read is = rw (sym all) (found fs.now i r x there read is)
