-- Each step of the source is one or more steps of RTL.
use Rattle.std.proofs.Common.{◌≡◌, ◌≢◌, ℕ, zero, suc, ◌+◌, ◌<◌, ◌≤◌, Bool, true, false, List, [], ◌∷◌, ◌++◌, Option, Some, None, refl}
use Rattle.std.proofs.Common.{sym, ◌∙◌, ap, subst, ⊎_elim, arith, length, nat_eq, nat_lt, eq-eqb}
use Rattle.std.specs.Prelude.{slice_get, if◌then◌else◌, map, ◌==◌, ◌&&◌}
use Rattle.std.proofs.lemmas.Bool.Decides.{eqb_tells}
use Rattle.std.proofs.lemmas.Option.{slice_get_within, none-some}
use Rattle.std.proofs.lemmas.List.Elements.{All-head}
use Rattle.words.specs.declared.width.Width.{Width}
use Rattle.words.specs.Widths.{kept}
use Rattle.runs.specs.Stores.{Places, Arrays, places_with, chain, arrays_with}
use Rattle.runs.specs.Runs.{Running, Ended, Failed, with_value, outcome}
use Rattle.runs.specs.declared.ran.End.TheVariants.{Wrong}
use Rattle.runs.proofs.Steps.{steps-add}
use Rattle.runs.proofs.Words.{at-index}
use Rattle.c_typed.specs.declared.tree.Destination.{Destination}
use Rattle.c_typed.specs.declared.tree.Destination.TheVariants.{Local, Global as Variable}
use Rattle.c_typed.specs.Trees.{TypedExpression, TypedStatement, TypedFunction, TypedProgram, assign, store, call, output, if_else, loop}
use Rattle.c_typed.specs.Trees.{return_with}
use Rattle.c_typed.specs.WellFormed.{FitsFunction, FitsTarget, IsWellFormed}
use Rattle.c_typed.specs.Values.{value_of, values_of}
use Rattle.c_typed.specs.Meaning as Src
use Rattle.c_typed.specs.Meaning.{Todo, Do, Next, Going, before, before_all, next_point, todo_of_test, step_at, source_step, source_steps}
use Rattle.c_typed.specs.Meaning.{source_start, first_words}
use Rattle.c_typed.specs.Laws.{FrameHoldsWords, RunHoldsWords}
use Rattle.c_typed.proofs.Keeping.{source-start-words, source-step-words}
use Rattle.rtl.specs.declared.instruction.RInst.TheVariants as I
use Rattle.rtl.specs.declared.block.RBlock.{RBlock}
use Rattle.rtl.specs.declared.block.RFunc.{RFunc}
use Rattle.rtl.specs.Programs.{Program}
use Rattle.rtl.specs.Meaning as Blk
use Rattle.rtl.specs.Meaning.{Code, Surroundings, at, activation, around_callee, code_of, kept_in, state_at_block, words_in, rtl_step, rtl_steps}
use Rattle.rtl.specs.Meaning.{rtl_start, first_values, argument_registers}
use Rattle.rtl_emit.specs.Blocks.{exit_code, first, Spot, Block, Line, line_of, Lands, At}
use Rattle.rtl_emit.specs.Runs.{Goes, Moves, Holds}
use Rattle.rtl_emit.specs.Expressions.{IsPlace, Fetches, Decides}
use Rattle.rtl_emit.proofs.Steps.{goes_one, moves_one, moves_after, with_some, chained, jump_to, holds_kept, written_here, written_other}
use Rattle.rtl_emit.proofs.Values.{taken, taken_all}
use Rattle.rtl_lower.specs.Laws.{KeepsRuns}
use Rattle.rtl_lower.specs.Coded.{enclosing, Sits, put_code, Coded, Receives, IsCodeOf, IsCodeOfProgram}
use Rattle.rtl_lower.proofs.Follows.{Fits, Targets, Follows, Stands, Starts, stands_there, starts_there, there_coded, follows_before, follows_all}
use Rattle.rtl_lower.proofs.Follows.{follows_here, follows_from, settles, lands_there, comes_join}

-- the locals that are set are below a number, and in their registers
pub record Located (n : ℕ) (l r : Places) : Type 0 where
  pub by : (x v : ℕ) → l x ≡ Some v → (x < n) × (r x ≡ Some v)

-- a call of the source, and an activation that has come to some code
pub record Matches (src : TypedProgram) (f : Src.Frame) (bs : List RBlock) (r : Places) (code : Code) : Type 0 where
  pub count : ℕ
  pub stands : Stands src bs count f.todo code
  pub open stands use *
  pub located : Located count f.locals r

-- a call that waits for a result, which goes to a local or to a global variable
pub record AwaitsLocal (src : TypedProgram) (x : ℕ) (to : Option ℕ) (f : Src.Frame) (a : Blk.Frame) : Type 0 where
  pub is : to ≡ Some x
  pub match : Matches src f a.blocks a.registers a.code
  pub low : x < match.count

pub record AwaitsGlobal (src : TypedProgram) (g : ℕ) (to : Option ℕ) (f : Src.Frame) (a : Blk.Frame) : Type 0 where
  pub t : ℕ
  pub z : ℕ
  pub is : to ≡ Some t
  pub code : Code
  pub there : a.code ≡ put_code g z t code
  pub match : Matches src f a.blocks a.registers code
  pub low : match.count ≤ t
  pub apart : t < z
  pub global : g < length src.globals

abbrev pub Awaits : TypedProgram → Option Destination → Option ℕ → Src.Frame → Blk.Frame → Type 0
Awaits src None to f a = (to ≡ None) × Matches src f a.blocks a.registers a.code
Awaits src (Some (Local x)) to f a = AwaitsLocal src x to f a
Awaits src (Some (Variable g)) to f a = AwaitsGlobal src g to f a

-- the calls that wait, and where the result of the one above them goes
abbrev pub Stack : TypedProgram → Option Destination → Option ℕ → List Src.Frame → List Blk.Frame → Type 0
Stack src place to [] [] = Unit {0}
Stack src place to (f ∷ fs) (a ∷ ws) = Awaits src place to f a × Stack src f.result_to a.result_to fs ws
Stack src place to [] (a ∷ ws) = ⊥
Stack src place to (f ∷ fs) [] = ⊥

same_depth : (src : TypedProgram) (place : Option Destination) (to : Option ℕ) (fs : List Src.Frame) (ws : List Blk.Frame) → Stack src place to fs ws
    → length fs ≡ length ws
same_depth src place to [] [] m = refl
same_depth src place to (f ∷ fs) (a ∷ ws) m = ap suc (same_depth src f.result_to a.result_to fs ws m.1)
same_depth src place to _ _ m = absurd m

pub record MatchFrames (src : TypedProgram) (f : Src.Frame) (fs : List Src.Frame) (g : Arrays) (out : List ℕ) (t : Blk.Run) : Type 0 where
  pub a : Blk.Frame
  pub ws : List Blk.Frame
  pub is : t ≡ Running (a ∷ ws) g out
  pub top : Matches src f a.blocks a.registers a.code
  pub below : Stack src f.result_to a.result_to fs ws

abbrev pub MatchRun : TypedProgram → Src.Run → Blk.Run → Type 0
MatchRun src (Running [] g out) t = ⊥
MatchRun src (Running (f ∷ fs) g out) t = MatchFrames src f fs g out t
MatchRun src (Ended v out) t = t ≡ Ended v out
MatchRun src (Failed out) t = Unit {0}

-- one step of the source, to s, is one or more of RTL, from t
pub record Advance (src : TypedProgram) (p : Program) (depth : ℕ) (t : Blk.Run) (s : Src.Run) : Type 0 where
  pub to : Blk.Run
  pub more : ℕ
  pub ends : rtl_steps p depth (suc more) t ≡ to
  pub match : MatchRun src s to

module _ {src : TypedProgram} {p : Program} {depth : ℕ} where
  advance_moves : {t t' : Blk.Run} {s : Src.Run} → Moves p depth t t' → MatchRun src s t' → Advance src p depth t s
  advance_moves {t' = t'} e m = record { to = t'; more = e.more; ends = e.ends; match = m }

  advance_one : {t t' : Blk.Run} {s : Src.Run} → rtl_step p depth t ≡ t' → MatchRun src s t' → Advance src p depth t s
  advance_one e m = advance_moves (moves_one e) m

  advance_after : {t t1 : Blk.Run} {s : Src.Run} → Goes p depth t t1 → Advance src p depth t1 s → Advance src p depth t s
  advance_after go a = advance_moves (moves_after go (record { more = a.more; ends = a.ends })) a.match

  advance_failed : {t : Blk.Run} {out : List ℕ} → Advance src p depth t (Failed out)
  advance_failed {t} = record { to = rtl_step p depth t; more = 0; ends = refl; match = tt }

  -- a step that goes wrong where there is no value
  advance_value : {A : Type 0} {t : Blk.Run} (o : Option A) (out : List ℕ) (go : A → Src.Run) → ((v : A) → o ≡ Some v → Advance src p depth t (go v))
      → Advance src p depth t (with_value o out go)
  advance_value None out go f = advance_failed
  advance_value (Some v) out go f = f v refl

-- a local that is written where its register is, and nothing else of the locals
located_assigned : {n : ℕ} {l r r' : Places} (x v : ℕ) → x < n → Located n l r → r' x ≡ Some v → ((y : ℕ) → y < n → y ≢ x → r' y ≡ r y)
    → Located n (places_with l x (Some v)) r'
located_assigned {n} {l} {r} {r'} x v low h there same = record {
  by = λ y w e. ⊎_elim
      (λ eq. let is : Some v ≡ Some w = rw eq.0 at e in (omega (arith, eq.1, low), ap r' eq.1 ∙ there ∙ is))
      (λ ne. let b = h.by y w (rw ne.0 at e) in (b.0, same y b.0 ne.1 ∙ b.1)) (eqb_tells y x);
}

-- registers above the locals may change
located_kept : {n : ℕ} {l r r' : Places} → Located n l r → ((y : ℕ) → y < n → r' y ≡ r y) → Located n l r'
located_kept h same = record { by = λ x v e. let b = h.by x v e in (b.0, same x b.0 ∙ b.1) }

get_some : {A : Type 0} (xs : List A) (i : ℕ) → i < length xs → (x : A) × (slice_get xs i ≡ Some x)
get_some [] i lt = absurd (omega arith)
get_some (x ∷ xs) zero lt = (x, refl)
get_some (x ∷ xs) (suc i) lt = get_some xs i (omega arith)

values_length : (es : List TypedExpression) (l : Places) (g : Arrays) (vs : List ℕ) → values_of es l g ≡ Some vs → length vs ≡ length es
values_length [] l g vs e = let is : [] ≡ vs = cc in sym (ap length is)
values_length (x ∷ es) l g vs e = grind (arith, values_length es l g)

-- what surrounds the call that runs and its activation: where their results go, what waits, and the globals and the output of both
record Around (src : TypedProgram) : Type 0 where
  place : Option Destination
  to : Option ℕ
  waiting : List Src.Frame
  activations : List Blk.Frame
  stack : Stack src place to waiting activations
  globals : Arrays
  output : List ℕ

module _ (src : TypedProgram) (p : Program) (ok : IsCodeOfProgram src p) (well : IsWellFormed src) (depth : ℕ) where
  abbrev source : Around src → Src.Surroundings
  source w = record { program = src; depth = depth; result_to = w.place; waiting = w.waiting; globals = w.globals; output = w.output }

  abbrev target : Around src → Surroundings
  target w = record { program = p; depth = depth; result_to = w.to; waiting = w.activations; globals = w.globals; output = w.output }

  -- what an element of a global keeps is the same
  same_kept : (a v : ℕ) → a < length src.globals → kept_in p.globals a v ≡ Src.kept_in src.globals a v
  same_kept a v lt =
      let there = get_some src.globals a lt in
      let r = ok.globals a there.0 there.1 in
      rw (r.1, there.1) (ap (λ (w : Width). Some (kept w v)) r.2.width)

  -- the store of a word from one register at the index in another: what has its global in the source has it in RTL
  store_step : (w : Around src) (bs : List RBlock) (r : Places) (a i v y q : ℕ) (after : Code) (g : Arrays) → a < length src.globals
      → r y ≡ Some i → r q ≡ Some v → Src.elements_with src.globals w.globals a i v ≡ Some g
      → rtl_step p depth (at (target w) bs r (first (I.Store a y q) after)) ≡ at (target (record w { globals = g })) bs r after
  store_step w bs r a i v y q after g low index value is =
      let fits = ap (λ o. chain o (λ k. arrays_with w.globals a i k)) (same_kept a v low) ∙ is in
      let c = chained (kept_in p.globals a v) (λ k. arrays_with w.globals a i k) g fits in
      rw (index, value, c.is, c.then_is)

  -- a word from a register to a global variable
  puts : (w : Around src) (bs : List RBlock) (r : Places) (x z q v : ℕ) (after : Code) (g : Arrays) → x < length src.globals → q ≢ z
      → r q ≡ Some v → Src.elements_with src.globals w.globals x 0 v ≡ Some g
      → Moves p depth (at (target w) bs r (put_code x z q after)) (at (target (record w { globals = g })) bs (places_with r z (Some 0)) after)
  puts w bs r x z q v after g low ne there is = record {
    more = 1;
    ends = store_step w bs (places_with r z (Some 0)) x 0 v z q after g low (written_here r z (Some 0)) (written_other r z (Some 0) q ne ∙ there) is;
  }

  -- what is to do stands at some code
  matches : (w : Around src) {bs : List RBlock} {n : ℕ} {l r : Places} {k : List Todo} {code : Code} → Stands src bs n k code → Located n l r
      → MatchRun src (Src.at (source w) l k) (at (target w) bs r code)
  matches w {bs} {n} {l} {r} {k} {code} s h = record {
    a = activation (target w) bs r code;
    ws = w.activations;
    is = refl;
    top = record { count = n; stands = s; located = h };
    below = w.stack;
  }

  enters_block : (w : Around src) {bs : List RBlock} {n : ℕ} {l r : Places} {k : List Todo} (b : ℕ) → Starts src bs n b k → Located n l r
      → MatchRun src (Src.at (source w) l k) (state_at_block (target w) bs r b)
  enters_block w {r = r} b s h = rw (jump_to s.1 (target w) r) (matches w s.2 h)

  -- what a function begins with
  begins : (i : ℕ) (f : TypedFunction) (r : RFunc) → slice_get src.functions i ≡ Some f → (c : IsCodeOf f r)
      → Starts src r.blocks.items f.locals 0 (before_all f.body [])
  begins i f r there c =
      let fits = at-index (FitsFunction src) src.functions i f well.functions there in
      let targets : Targets r.blocks.items 0 None = record { leaves = (line_of c.entry, c.entry_at); continues = λ b e. cc } in (
        line_of c.entry,
        c.entry_at,
        stands_there src r.blocks.items f.locals (before_all f.body []) 0 None c.entry targets
            (follows_all src r.blocks.items f.locals f.body [] 0 None c.entry (Line c.after) c.body _ _ fits.body
            (follows_here src r.blocks.items f.locals [] 0 None (Line c.after) tt)),
      )

  -- a call of a function that begins, or is beyond the depth
  entered : (w : Around src) (i : ℕ) (vs : List ℕ) {t : Blk.Run} (func : TypedFunction) (r : RFunc) → slice_get src.functions i ≡ Some func
      → IsCodeOf func r → length vs ≡ func.parameters → (b : Bool)
      → rtl_step p depth t ≡ (if b && (length vs == r.parameters) then state_at_block (target w) r.blocks.items (argument_registers vs) 0 else Failed w.output)
      → Advance src p depth t (if b then Src.at (source w) (Src.argument_places vs) (before_all func.body []) else Failed w.output)
  entered w i vs func r there c many true step =
      let fits = at-index (FitsFunction src) src.functions i func well.functions there in
      advance_one (rw (eq-eqb (length vs) r.parameters (many ∙ sym c.parameters)) at step)
      (enters_block w 0 (begins i func r there c) (record { by = λ x v e. (omega (arith, slice_get_within vs x v e, many, fits.first), e) }))
  entered w i vs func r there c many false step = advance_failed

  -- a call
  calls : (w : Around src) (f : ℕ) (vs : List ℕ) {t : Blk.Run}
      → ((func : TypedFunction) → slice_get src.functions f ≡ Some func → length vs ≡ func.parameters)
      → rtl_step p depth t ≡ Blk.state_after_call (target w) f vs → Advance src p depth t (Src.state_after_call (source w) f vs)
  calls w f vs count e = advance_value _ _ _ (λ func is.
      let r = ok.functions f func is in
      rw (same_depth src w.place w.to w.waiting w.activations w.stack)
      (entered w f vs func r.0 is r.2 (count func is) (nat_lt (length w.activations) depth) (rw r.1 at e)))

  -- what surrounds the two that wait, once the result has come
  abbrev around_caller : Around src → (f : Src.Frame) (fs : List Src.Frame) (a : Blk.Frame) (ws : List Blk.Frame) → Stack src f.result_to a.result_to fs ws
      → Around src
  around_caller w f fs a ws m = record w { place = f.result_to; to = a.result_to; waiting = fs; activations = ws; stack = m }

  -- a result
  returns : (w : Around src) (v : Option ℕ) (place : Option Destination) (to : Option ℕ) (fs : List Src.Frame) (ws : List Blk.Frame) {t : Blk.Run}
      → Stack src place to fs ws → rtl_step p depth t ≡ Blk.state_after_return v to ws w.globals w.output
      → Advance src p depth t (Src.state_with_result (source w) v place fs)
  returns w None place to [] [] m e = advance_failed
  returns w (Some v) place to [] [] m e = advance_one e refl
  returns w v None to (f ∷ fs) (a ∷ ws) m e = advance_one (rw m.0.0 at e) (record { a = a; ws = ws; is = refl; top = m.0.1; below = m.1 })
  returns w None (Some place) to (f ∷ fs) (a ∷ ws) m e = advance_failed
  returns w (Some v) (Some (Local x)) to (f ∷ fs) (a ∷ ws) m e =
      let top = m.0.match in
      advance_one (rw m.0.is at e) (matches (around_caller w f fs a ws m.1) top.stands
      (located_assigned x v m.0.low top.located (written_here a.registers x (Some v)) (λ y lt ne. written_other a.registers x (Some v) y ne)))
  returns w (Some v) (Some (Variable x)) to (f ∷ fs) (a ∷ ws) {t} m e =
      advance_value _ _ _ (λ g gs.
      let wait = m.0 in
      let w' = around_caller w f fs a ws m.1 in
      let r1 = places_with a.registers wait.t (Some v) in
      let first_step : Goes p depth t (at (target w') a.blocks r1 (put_code x wait.z wait.t wait.code)) =
      goes_one p depth t _ (rw wait.is at e ∙ ap (λ c. at (target w') a.blocks r1 c) wait.there) in
      advance_after first_step (advance_moves
      (puts w' a.blocks r1 x wait.z wait.t v wait.code g wait.global (omega (arith, wait.apart)) (written_here a.registers wait.t (Some v)) gs)
      (matches (record w' { globals = g }) (wait.match).stands (located_kept (wait.match).located (λ y lt.
      written_other r1 wait.z (Some 0) y (omega (arith, lt, wait.low, wait.apart))
      ∙ written_other a.registers wait.t (Some v) y (omega (arith, lt, wait.low)))))))
  returns w v place to _ _ m e = absurd m

  module _ (w : Around src) (bs : List RBlock) (n : ℕ) (l r : Places) (h : Holds n l r w.globals) where
    held_here : Located n l r
    held_here = record { by = h.by }

    -- a statement that first takes an operand
    with_operand : {e : TypedExpression} {q next_free : ℕ} {from to : Code} (go : ℕ → Src.Run) → IsPlace e n q next_free → Fetches bs e n q from to
        → ((v : ℕ) → value_of e l w.globals ≡ Some v → (r' : Places) → r' q ≡ Some v → ((x : ℕ) → x < n → r' x ≡ r x) → q < next_free
        → Advance src p depth (at (target w) bs r' to) (go v))
        → Advance src p depth (at (target w) bs r from) (Src.with_value_of (source w) l e go)
    with_operand {e} {q} {next_free} {from} {to} go pl f k = advance_value _ _ go (λ v is.
        let y = taken (target w) bs e n q next_free from to l r v pl f h is in
        advance_after y.goes (k v is y.regs y.value y.kept y.held))

    -- a condition, and the two ways from it
    ways : {e : TypedExpression} {t f : ℕ} {from : Code} {a b : List Todo} → Decides bs e n t f from → Starts src bs n t a → Starts src bs n f b
        → Advance src p depth (at (target w) bs r from) (Src.with_value_of (source w) l e (λ v. Src.at (source w) l (todo_of_test v a b)))
    ways {t = t} {f} {a = a} {b} de sa sb = advance_value _ _ _ (λ v is.
        let ar = de.by (target w) l r v h is in
        advance_moves ar.moves (by ar.regs (located_kept held_here ar.kept) (nat_eq v 0)))
      where
        by : (r' : Places) → Located n l r' → (z : Bool)
            → MatchRun src (Src.at (source w) l (if z then b else a)) (state_at_block (target w) bs r' (if z then f else t))
        by r' h' true = enters_block w f sb h'
        by r' h' false = enters_block w t sa h'

    -- code at a spot of its own
    in_line : {spot : Spot} {x code : Code} {s : Src.Run} → spot ≡ Line x → Sits bs spot code → Advance src p depth (at (target w) bs r x) s
        → Advance src p depth (at (target w) bs r code) s
    in_line {x = x} {code} e si a = let is : code ≡ x = rw e at si in rw is a

    module _ (k : List Todo) (leave : ℕ) (next : Option ℕ) (after : Spot) (t : Targets bs leave next) (f : Follows src bs n k leave next after) where
      rest : Stands src bs n k (line_of after)
      rest = stands_there src bs n k leave next after t f

      rest_in : (b : ℕ) → Lands bs b after → Starts src bs n b k
      rest_in b lands = starts_there src bs n k leave next after t f b lands

      -- this call waits for the result of another
      waits : (r' : Places) (place : Option Destination) (to : Option ℕ) (b : ℕ) → Receives (enclosing bs n) place to b after → FitsTarget src n place
          → Located n l r' → (code : Code) × At bs b code
          × Awaits src place to (Src.frame_at (source w) l k) (activation (target w) bs r' code)
      waits r' None to b re ft h' = let s = rest_in b re.1 in (s.0, s.1, (re.0, record { count = n; stands = s.2; located = h' }))
      waits r' (Some (Local x)) to b re ft h' =
          let s = rest_in b re.1 in
          (s.0, s.1, record { is = re.0; match = record { count = n; stands = s.2; located = h' }; low = ft })
      waits r' (Some (Variable x)) to b re ft h' = (
        put_code x re.z re.t (line_of after),
        re.there,
        record {
          t = re.t;
          z = re.z;
          is = re.is;
          code = line_of after;
          there = refl;
          match = record { count = n; stands = rest; located = h' };
          low = re.low;
          apart = re.apart;
          global = ft;
        },
      )

      -- a statement that takes a step
      acts_at : (s : TypedStatement) (from : Spot) (code : Code) → Sits bs from code → Coded (enclosing bs n) s leave next from after → Fits src n s
          → Advance src p depth (at (target w) bs r code) (step_at (source w) l (Do s ∷ k))
      acts_at (assign (Local x) e) from code si c sc = in_line c.is si (advance_value _ _ _ (λ v is.
          let y = c.value.by (target w) l r v h is in
          advance_moves y.moves (matches w rest (located_assigned x v sc.2.0 held_here y.done.value y.done.kept))))
      acts_at (assign (Variable x) e) from code si c sc =
          in_line c.is si (with_operand _ c.is_place c.value (λ v is r' rv same held. advance_value _ _ _ (λ g gs.
          advance_moves (puts w bs r' x c.z c.p v (line_of after) g sc.2.0 (omega (arith, held, c.spare)) rv gs)
          (matches (record w { globals = g }) rest (located_kept held_here (λ y lt.
          written_other r' c.z (Some 0) y (omega (arith, lt, c.is_place.rooms, c.spare)) ∙ same y lt))))))
      acts_at (store a i e) from code si c sc =
          in_line c.is si (with_operand _ c.index_place c.index (λ x is r1 rx same1 held1. advance_value _ _ _ (λ v vs.
          let h1 = holds_kept n c.next l r r1 w.globals c.index_place.rooms h same1 in
          let y = taken (target w) bs e c.next c.q c.last c.middle _ l r1 v c.value_place c.value h1 vs in
          let kept : (z : ℕ) → z < n → y.regs z ≡ r z = λ z lt. y.kept z (omega (arith, lt, c.index_place.rooms)) ∙ same1 z lt in
          advance_after y.goes (advance_value _ _ _ (λ g gs.
          advance_one (store_step w bs y.regs a x v c.p c.q (line_of after) g sc.2.0 (y.kept c.p held1 ∙ rx) y.value gs)
          (matches (record w { globals = g }) rest (located_kept held_here kept)))))))
      acts_at (output e) from code si c sc =
          in_line c.leaves.is si (with_operand _ c.leaves.is_place c.leaves.value (λ v is r' rv same held.
          let after_output : ℕ → Around src = λ v. record w { output = w.output ++ v ∷ [] } in
          advance_one (with_some (r' c.leaves.p) v w.output (λ v. state_at_block (target (after_output v)) bs r' c.block) rv)
          (enters_block (after_output v) c.block (rest_in c.block c.lands) (located_kept held_here same))))
      acts_at (if_else e a b) from code si c sc =
          let joined = follows_from src bs n k leave next (Block c.join) after (comes_join bs c.join after c.joined) f in
          let a_follows = follows_before src bs n a k leave next c.a_spot (Block c.join) c.a_for (sc.0, sc.1, sc.2.1.0) joined in
          let b_follows = follows_before src bs n b k leave next c.b_spot (Block c.join) c.b_for (sc.0, sc.1, sc.2.1.1) joined in
          in_line c.is si (ways c.test (starts_there src bs n (before a k) leave next c.a_spot t a_follows c.a c.a_lands)
          (starts_there src bs n (before b k) leave next c.b_spot t b_follows c.b c.b_lands))
      acts_at (loop e last body) from code si c sc =
          let left = rest_in c.leave c.left in
          let last_there = there_coded bs n last leave next c.last_spot (Line c.bottom) t c.last_for tt in
          let turn : Follows src bs n (Next last (loop e last body) ∷ k) c.leave c.next c.turn = record {
            spot = c.last_spot;
            comes = c.is_turn.comes;
            at = record {
              bottom = c.bottom;
              after = after;
              left = c.left;
              continues = c.is_turn.continues;
              outer_leave = leave;
              outer_next = next;
              targets = t;
              last_coded = c.last_for;
              loop_coded = record { blocks = c.blocks; top = c.bottom; is = refl; test = c.again };
              last_fits = (sc.0, false, sc.2.1.0);
              loop_fits = sc;
              rest = f;
            };
          } in
          let inner : Targets bs c.leave c.next = record {
            leaves = (left.0, left.1);
            continues = λ b e. lands_there b c.last_spot (c.is_turn.continues b e) last_there;
          } in
          let follows = follows_before src bs n body (Next last (loop e last body) ∷ k) c.leave c.next c.body_spot c.turn c.body_for
          (sc.0, true, sc.2.1.1) turn in
          in_line c.is si (ways c.test (line_of c.body_spot, c.body_at, stands_there src bs n _ c.leave c.next c.body_spot inner follows) left)
      acts_at (call place callee es) from code si c sc = in_line c.is si (advance_value _ _ _ (λ vs is.
          let y = taken_all (target w) bs es c.places n c.code (exit_code c.exit) l r vs c.are_places c.values h is in
          let a = waits y.regs place c.to c.block c.receives sc.2.0 (located_kept held_here y.kept) in
          let fits = sc.2.1.0 in
          let count : (func : TypedFunction) → slice_get src.functions callee ≡ Some func → length vs ≡ func.parameters = λ func there.
          let same : fits.callee ≡ func = cc fits.there in
          values_length es l w.globals vs is ∙ fits.count ∙ ap (λ (f : TypedFunction). f.parameters) same in
          let step = rw (y.values, a.1.there, a.1.is) at (c.leaves (target w) y.regs) in
          advance_after y.goes (calls (record w {
            place = place;
            to = c.to;
            waiting = Src.frame_at (source w) l k ∷ w.waiting;
            activations = activation (target w) bs y.regs a.0 ∷ w.activations;
            stack = (a.2, w.stack);
          }) callee vs count step)))
      acts_at (return_with None) from code si c sc = in_line c si (returns w None w.place w.to w.waiting w.activations w.stack refl)
      acts_at (return_with (Some e)) from code si c sc =
          in_line c.is si (with_operand _ c.is_place c.value (λ v is r' rv same held.
          returns w (Some v) w.place w.to w.waiting w.activations w.stack
          (with_some (r' c.p) v w.output (λ v. Blk.state_after_return (Some v) w.to w.activations w.globals w.output) rv)))
      acts_at _ from code si c sc = advance_failed

    acts : (k : List Todo) (code : Code) → Stands src bs n k code → Advance src p depth (at (target w) bs r code) (step_at (source w) l k)
    acts (Do s ∷ k) code stands =
        let f = stands.follows in
        let x = f.comes.by code stands.sits (target w) r in
        advance_after x.2 (acts_at k stands.leave stands.next f.at.middle stands.targets f.at.rest s f.spot x.0 x.1 f.at.coded f.at.fits)
    acts _ code stands = advance_failed

  -- a step of the source
  advances : (s : Src.Run) (t : Blk.Run) → RunHoldsWords s → MatchRun src s t → Advance src p depth t (source_step src depth s)
  advances (Failed out) t words m = advance_failed
  advances (Ended v out) t words m = advance_one (ap (rtl_step p depth) m) refl
  advances (Running [] g out) t words m = absurd m
  advances (Running (f ∷ fs) g out) t words m =
      let a = m.a in
      let top = m.top in
      let w : Around src = record { place = f.result_to; to = a.result_to; waiting = fs; activations = m.ws; stack = m.below; globals = g; output = out } in
      let h : Holds top.count f.locals a.registers g = record { by = top.located.by; locals = All-head FrameHoldsWords f fs words.0; globals = words.1.0 } in
      let s = settles src a.blocks top.count (target w) a.registers Going f.locals f.todo top.leave top.next top.spot a.code top.sits top.targets
      top.follows h in
      let point = next_point Going f.locals f.todo in
      rw m.is (advance_after s.goes (acts w a.blocks top.count point.locals a.registers s.holds point.todo s.code s.stands))

  -- as many steps, at least
  runs : (n : ℕ) (s : Src.Run) (t : Blk.Run) → RunHoldsWords s → MatchRun src s t
      → (k : ℕ) × (n ≤ k) × MatchRun src (source_steps src depth n s) (rtl_steps p depth k t)
  runs zero s t words m = (0, omega arith, m)
  runs (suc n) s t words m =
      let a = advances s t words m in
      let r = runs n (source_step src depth s) a.to (source-step-words src depth s words) a.match in
      let e : rtl_steps p depth (suc a.more + r.0) t ≡ rtl_steps p depth r.0 a.to = steps-add (rtl_step p depth) (suc a.more) r.0 t
      ∙ ap (rtl_steps p depth r.0) a.ends in
      (suc a.more + r.0, omega (arith, r.1), subst (λ u. MatchRun src (source_steps src depth (suc n) s) u) (sym e) r.2)

  -- both at the start
  starts : MatchRun src (source_start src) (rtl_start p)
  starts = first_value _ _ (λ func e.
      let r = ok.functions src.main func e in
      let w : Around src = record {
        place = None;
        to = None;
        waiting = [];
        activations = [];
        stack = tt;
        globals = map first_words src.globals;
        output = [];
      } in
      rw (ok.main, r.1, ok.first) (enters_block w 0 (begins src.main func r.0 e r.2) (record { by = λ x v e. absurd (none-some v e) })))
    where
      first_value : {A : Type 0} (o : Option A) (go : A → Src.Run) → ((v : A) → o ≡ Some v → MatchRun src (go v) (rtl_start p))
          → MatchRun src (with_value o [] go) (rtl_start p)
      first_value None go each = tt
      first_value (Some v) go each = each v refl

same_end : (src : TypedProgram) (s : Src.Run) (t : Blk.Run) → MatchRun src s t → (outcome s).end ≢ Wrong → outcome t ≡ outcome s
same_end src (Running [] g out) t m ne = absurd m
same_end src (Running (f ∷ fs) g out) t m ne = ap outcome m.is
same_end src (Ended v out) t m ne = ap outcome m
same_end src (Failed out) t m ne = absurd (ne refl)

pub keeps_runs : (src : TypedProgram) (p : Program) → IsCodeOfProgram src p → IsWellFormed src → KeepsRuns src p
keeps_runs src p ok well depth some n ne =
    let r = runs src p ok well depth n (source_start src) (rtl_start p) (source-start-words src) (starts src p ok well depth) in
    (r.0, r.1, same_end src (source_steps src depth n (source_start src)) (rtl_steps p depth r.0 (rtl_start p)) r.2 ne)
