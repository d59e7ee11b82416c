-- Each step of a run keeps to words.
use Rattle.std.proofs.Common.{◌≡◌, ℕ, ◌∷◌, ◌++◌, List, [], Bool, true, false, Option, Some, None, subst, length, nat_lt}
use Rattle.std.specs.Prelude.{All, map, if◌then◌else◌, ◌&&◌, ◌==◌}
use Rattle.std.specs.List.{slice_get}
use Rattle.std.proofs.lemmas.Option.{same_Some, none-some}
use Rattle.std.proofs.lemmas.List.Elements.{All-nil, All-cons, All-head, All-tail, All-push}
use Rattle.words.specs.Words.{wrap}
use Rattle.words.specs.Widths.{kept}
use Rattle.runs.specs.Stores.{Places, Arrays, chain, unset_places, places_with, element_at, arrays_with, IsWord, PlacesHoldWords, ArraysHoldWords}
use Rattle.runs.specs.Runs.{Running, Ended, Failed, with_value}
use Rattle.runs.proofs.Words.{chain-some, at-index, element-at, unset-words, stored-words}
use Rattle.runs.proofs.Keeping.{with-words, running-words, set-words}
use Rattle.words.proofs.Widths.{wrap_below, kept_below}
use Rattle.rtl.specs.declared.instruction.RInst.{RInst}
use Rattle.rtl.specs.declared.instruction.RInst.TheVariants.{Const, Move, Bin, Load, Store}
use Rattle.rtl.specs.declared.instruction.RExit.{RExit}
use Rattle.rtl.specs.declared.instruction.RExit.TheVariants.{Goto, Branch, Call, Return, Out}
use Rattle.rtl.specs.declared.block.RBlock.{RBlock}
use Rattle.rtl.specs.declared.block.RFunc.{RFunc}
use Rattle.rtl.specs.declared.block.RGlobal.{RGlobal}
use Rattle.words.specs.declared.width.Width.{Width}
use Rattle.rtl.specs.Operators.{op_result}
use Rattle.rtl.specs.Programs.{Program}
use Rattle.rtl.specs.Meaning.{Frame, Run, Surroundings, activation, around_callee, code_of, words_in, argument_registers, kept_in, with_inst}
use Rattle.rtl.specs.Meaning.{state_at_block, state_after_return, state_after_call, state_after_exit, step_at, rtl_step, rtl_start, first_values}
use Rattle.rtl.specs.Laws.{FrameHoldsWords, RunHoldsWords}
use Rattle.rtl.proofs.Results.{result-word}

kept-in-word : (globals : List RGlobal) (a v w : ℕ) → IsWord v → kept_in globals a v ≡ Some w → IsWord w
kept-in-word globals a v w h e =
    let s = chain-some (slice_get globals a) (λ (global : RGlobal). Some (kept global.width v)) w e in
    subst IsWord (same_Some (kept s.0.width v) w s.2) (kept_below s.0.width v h)

valued : {A : Type 0} (o : Option A) (out : List ℕ) (go : A → Run) → All IsWord out → ((a : A) → o ≡ Some a → RunHoldsWords (go a))
    → RunHoldsWords (with_value o out go)
valued o out go h k = with-words FrameHoldsWords o out go h k

inst-words : (globals : List RGlobal) (i : RInst) (r : Places) (g : Arrays) (out : List ℕ) (go : Places → Arrays → Run) → PlacesHoldWords r
    → ArraysHoldWords g → All IsWord out → ((r : Places) (g : Arrays) → PlacesHoldWords r → ArraysHoldWords g → RunHoldsWords (go r g))
    → RunHoldsWords (with_inst globals i r g out go)
inst-words globals (Const d w) r g out go a b c k = k _ g (set-words r d (wrap w) a (wrap_below w)) b
inst-words globals (Move d x) r g out go a b c k = valued (r x) out _ c (λ v e. k _ g (set-words r d v a (a x v e)) b)
inst-words globals (Bin op d x y) r g out go a b c k =
    valued (r x) out _ c (λ v e. valued (r y) out _ c (λ w f. valued (op_result op v w) out _ c (λ u is.
    k _ g (set-words r d u a (result-word op v w u (a x v e) (a y w f) is)) b)))
inst-words globals (Load d x i) r g out go a b c k =
    valued (r i) out _ c (λ j e. valued (element_at g x j) out _ c (λ v is. k _ g (set-words r d v a (element-at g x j v b is)) b))
inst-words globals (Store x i y) r g out go a b c k =
    valued (r i) out _ c (λ j e. valued (r y) out _ c (λ v f. valued (kept_in globals x v) out _ c (λ w is.
    valued (arrays_with g x j w) out _ c (λ g' s. k r g' a (stored-words g x j w g' b (kept-in-word globals x v w (a y v f) is) s)))))

read-words : (r : Places) (xs vs : List ℕ) → PlacesHoldWords r → words_in r xs ≡ Some vs → All IsWord vs
read-words r [] vs h e = subst (All IsWord) (same_Some [] vs e) (All-nil IsWord)
read-words r (x ∷ xs) vs h e =
    let s = chain-some (r x) (λ v. chain (words_in r xs) (λ vs. Some (v ∷ vs))) vs e in
    let t = chain-some (words_in r xs) (λ vs. Some (s.0 ∷ vs)) vs s.2 in
    subst (All IsWord) (same_Some (s.0 ∷ t.0) vs t.2) (All-cons IsWord s.0 t.0 (h x s.0 s.1) (read-words r xs t.0 h t.1))

record AroundHoldsWords (w : Surroundings) : Type 0 where
  waiting : All FrameHoldsWords w.waiting
  globals : ArraysHoldWords w.globals
  output : All IsWord w.output

block-words : (w : Surroundings) (bs : List RBlock) (r : Places) (b : ℕ) → AroundHoldsWords w → PlacesHoldWords r
    → RunHoldsWords (state_at_block w bs r b)
block-words w bs r b h a = valued (slice_get bs b) w.output _ h.output (λ block e.
    running-words FrameHoldsWords (activation w bs r (code_of block)) w.waiting w.globals w.output a h.waiting h.globals h.output)

called-words : (w : Surroundings) (f : ℕ) (vs : List ℕ) → AroundHoldsWords w → All IsWord vs → RunHoldsWords (state_after_call w f vs)
called-words w f vs h a = valued (slice_get w.program.functions f) w.output _ h.output (λ function e.
    by function (nat_lt (length w.waiting) w.depth && (length vs == function.parameters)))
  where
    by : (function : RFunc) (t : Bool)
        → RunHoldsWords (if t then state_at_block w function.blocks.items (argument_registers vs) 0 else Failed w.output)
    by function true = block-words w function.blocks.items (argument_registers vs) 0 h (λ x v e. at-index IsWord vs x v a e)
    by function false = h.output

returned-words : (v : Option ℕ) (w : Surroundings) → ((x : ℕ) → v ≡ Some x → IsWord x) → AroundHoldsWords w
    → RunHoldsWords (state_after_return v w.result_to w.waiting w.globals w.output)
returned-words v w a h = by w.waiting w.result_to h.waiting
  where
    by : (frames : List Frame) (to : Option ℕ) → All FrameHoldsWords frames → RunHoldsWords (state_after_return v to frames w.globals w.output)
    by [] to b = valued v w.output _ h.output (λ x e. (a x e, h.output))
    by (f ∷ frames) None b = (b, (h.globals, h.output))
    by (f ∷ frames) (Some d) b = valued v w.output _ h.output (λ x e.
        running-words FrameHoldsWords (record f { registers = places_with f.registers d (Some x) }) frames w.globals w.output
        (set-words f.registers d x (All-head FrameHoldsWords f frames b) (a x e)) (All-tail FrameHoldsWords f frames b) h.globals h.output)

module _ (w : Surroundings) (bs : List RBlock) (r : Places) (h : AroundHoldsWords w) (a : PlacesHoldWords r) where
  exit-words : (exit : RExit) → RunHoldsWords (state_after_exit w bs r exit)
  exit-words (Goto b) = block-words w bs r b h a
  exit-words (Branch x t e) = valued (r x) w.output _ h.output (λ v is. block-words w bs r (if v == 0 then e else t) h a)
  exit-words (Call f args to next) =
      valued (words_in r args.items) w.output _ h.output (λ vs is. valued (slice_get bs next) w.output _ h.output (λ block there.
      called-words (around_callee w (activation w bs r (code_of block)) to) f vs (record {
        waiting = All-cons FrameHoldsWords (activation w bs r (code_of block)) w.waiting a h.waiting;
        globals = h.globals;
        output = h.output;
      }) (read-words r args.items vs a is)))
  exit-words (Return None) = returned-words None w (λ v e. absurd (none-some v e)) h
  exit-words (Return (Some x)) =
      valued (r x) w.output _ h.output (λ v is. returned-words (Some v) w (λ u same. subst IsWord (same_Some v u same) (a x v is)) h)
  exit-words (Out x next) = valued (r x) w.output _ h.output (λ v is. block-words (record w { output = w.output ++ v ∷ [] }) bs r next
      (record { waiting = h.waiting; globals = h.globals; output = All-push IsWord w.output v h.output (a x v is) }) a)

  at-words : (insts : List RInst) (exit : RExit) → RunHoldsWords (step_at w bs r insts exit)
  at-words [] exit = exit-words exit
  at-words (i ∷ rest) exit = inst-words w.program.globals i r w.globals w.output _ a h.globals h.output (λ r' g' a' c'.
      running-words FrameHoldsWords (activation w bs r' (record { insts = rest; exit = exit })) w.waiting g' w.output a' h.waiting c' h.output)

pub step-words : (p : Program) (depth : ℕ) (s : Run) → RunHoldsWords s → RunHoldsWords (rtl_step p depth s)
step-words p depth (Running [] g out) h = h.1.1
step-words p depth (Running (f ∷ frames) g out) h =
    at-words (record { program = p; depth = depth; result_to = f.result_to; waiting = frames; globals = g; output = out }) f.blocks f.registers
    (record { waiting = All-tail FrameHoldsWords f frames h.0; globals = h.1.0; output = h.1.1 }) (All-head FrameHoldsWords f frames h.0)
    f.code.insts f.code.exit
step-words p depth (Ended w out) h = h
step-words p depth (Failed out) h = h

elements-words : (w : Width) (vs : List ℕ) → All IsWord (map (λ v. kept w (wrap v)) vs)
elements-words w [] = All-nil IsWord
elements-words w (v ∷ vs) = All-cons IsWord (kept w (wrap v)) (map (λ v. kept w (wrap v)) vs) (kept_below w (wrap v) (wrap_below v)) (elements-words w vs)

globals-words : (all : List RGlobal) → ArraysHoldWords (map first_values all)
globals-words [] = All-nil (All IsWord)
globals-words (a ∷ rest) = All-cons (All IsWord) (first_values a) (map first_values rest) (elements-words a.width a.first.items) (globals-words rest)

pub start-words : (p : Program) → RunHoldsWords (rtl_start p)
start-words p = valued (slice_get p.functions p.main) [] _ (All-nil IsWord) (λ main e.
    block-words (record { program = p; depth = 0; result_to = None; waiting = []; globals = map first_values p.globals; output = [] })
    main.blocks.items unset_places 0 (record { waiting = All-nil FrameHoldsWords; globals = globals-words p.globals; output = All-nil IsWord })
    unset-words)
