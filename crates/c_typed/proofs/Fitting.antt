-- Each step of a run keeps the elements of the globals within their widths.
use Rattle.std.proofs.Common.{◌≡◌, ◌⊎◌, ◌<◌, ◌^◌, inl, inr, ℕ, zero, suc, List, [], ◌∷◌, ◌++◌, Bool, true, false, Option, Some, None, refl, sym, subst, ap, ◌∙◌}
use Rattle.std.proofs.Common.{length, nat_lt, arith}
use Rattle.std.specs.Prelude.{All, map, if◌then◌else◌}
use Rattle.std.specs.List.{slice_get, slice_set}
use Rattle.std.specs.Option.{option_map}
use Rattle.std.proofs.lemmas.Option.{same_Some, slice_get-map}
use Rattle.std.proofs.lemmas.List.Elements.{All-set, All-replicate}
use Rattle.words.specs.declared.width.Width.{Width}
use Rattle.words.specs.declared.width.Width.TheVariants.{Word, Byte}
use Rattle.words.specs.Words.{wrap}
use Rattle.words.specs.Widths.{kept}
use Rattle.runs.specs.Stores.{Places, Arrays, element_at, arrays_with, chain}
use Rattle.runs.specs.Runs.{Running, Ended, Failed, with_value}
use Rattle.runs.proofs.Words.{chain-some, at-index}
use Rattle.c_tokens.specs.declared.token.IntegerType.{IntegerType}
use Rattle.c_typed.specs.declared.tree.Destination.{Destination}
use Rattle.c_typed.specs.declared.tree.Destination.TheVariants.{Local, Global as Variable}
use Rattle.c_typed.specs.declared.tree.Global.{Global}
use Rattle.c_typed.specs.Trees.{TypedExpression, TypedFunction, TypedProgram, element, assign, store, call, output, if_else, loop, return_with}
use Rattle.c_typed.specs.Values.{value_of}
use Rattle.c_typed.specs.Meaning.{Todo, Do, Next, Going, Frame, Run, before, before_all, next_point, Surroundings, at, with_value_of, kept_in, elements_with, argument_places}
use Rattle.c_typed.specs.Meaning.{state_after_store, state_after_assignment, frame_at, around_callee, state_after_call, state_with_result, todo_of_test, step_at, source_step}
use Rattle.c_typed.specs.Meaning.{first_words, source_start}
use Rattle.c_typed.specs.Laws.{ElementsFit, RunFits}

kept-again : (w : Width) (v : ℕ) → kept w (kept w v) ≡ kept w v
kept-again Word v = refl
kept-again Byte v = omega arith

-- what stands in a list behind a write: what was written, or what stood there
set-cases : {A : Type 0} (xs : List A) (a : ℕ) (y : A) (b : ℕ) (z : A) → slice_get (slice_set xs a y) b ≡ Some z
    → ((b ≡ a) × (y ≡ z)) ⊎ (slice_get xs b ≡ Some z)
set-cases [] a y b z e = inr e
set-cases (x ∷ xs) zero y zero z e = inl (refl, same_Some y z e)
set-cases (x ∷ xs) zero y (suc b) z e = inr e
set-cases (x ∷ xs) (suc a) y zero z e = inr e
set-cases (x ∷ xs) (suc a) y (suc b) z e = elim (set-cases xs a y b z e) [ inl h ↦ inl (ap suc h.0, h.1) | inr h ↦ inr h ]

one-global : (globals : List Global) (a b : ℕ) (x y : Global) → b ≡ a → slice_get globals a ≡ Some x → slice_get globals b ≡ Some y → x ≡ y
one-global globals a b x y is e f = same_Some x y (sym e ∙ ap (slice_get globals) (sym is) ∙ f)

elements-fit : (globals : List Global) (g : Arrays) (a i v : ℕ) (after : Arrays) → ElementsFit globals g → elements_with globals g a i v ≡ Some after
    → ElementsFit globals after
elements-fit globals g a i v after h e =
    let s = chain-some (kept_in globals a v) (λ w. arrays_with g a i w) after e in
    let t = chain-some (slice_get globals a) (λ (x : Global). Some (kept x.width v)) s.0 s.1 in
    let u = chain-some (slice_get g a) (λ words. chain (slice_get words i) (λ _. Some (slice_set g a (slice_set words i s.0)))) after s.2 in
    let w = chain-some (slice_get u.0 i) (λ (x : ℕ). Some (slice_set g a (slice_set u.0 i s.0))) after u.2 in
    let is : slice_set g a (slice_set u.0 i s.0) ≡ after = same_Some (slice_set g a (slice_set u.0 i s.0)) after w.2 in
    subst (ElementsFit globals) is (written s.0 t.0 u.0 t.1 (same_Some (kept t.0.width v) s.0 t.2) u.1)
  where
    written : (k : ℕ) (x : Global) (words : List ℕ) → slice_get globals a ≡ Some x → kept x.width v ≡ k → slice_get g a ≡ Some words
        → ElementsFit globals (slice_set g a (slice_set words i k))
    written k x words at is there b y vs l m = elim (set-cases g a (slice_set words i k) b vs m) [
      | inl c ↦
          let P : List ℕ → Type 0 = λ xs. All (λ v. kept y.width v ≡ v) xs in
          let Q : Global → Type 0 = λ z. kept z.width k ≡ k in
          let same : x ≡ y = one-global globals a b x y c.0 at l in
          let fits : kept x.width k ≡ k = subst (λ (n : ℕ). kept x.width n ≡ n) is (kept-again x.width v) in
          let old : P words = h a y words (at ∙ ap Some same) there in
          subst P c.1 (All-set (λ v. kept y.width v ≡ v) words i k (subst Q same fits) old)
      | inr c ↦ h b y vs l c
    ]

with-fits : {A : Type 0} (globals : List Global) (o : Option A) (out : List ℕ) (go : A → Run) → ((a : A) → o ≡ Some a → RunFits globals (go a))
    → RunFits globals (with_value o out go)
with-fits globals None out go k = tt
with-fits globals (Some a) out go k = k a refl

abbrev AroundFits : Surroundings → Type 0
AroundFits w = ElementsFit w.program.globals w.globals

stored-fits : (w : Surroundings) (a i v : ℕ) (l : Places) (k : List Todo) → AroundFits w → RunFits w.program.globals (state_after_store w a i v l k)
stored-fits w a i v l k h = with-fits _ _ _ _ (λ g e. elements-fit w.program.globals w.globals a i v g h e)

assigned-fits : (w : Surroundings) (to : Destination) (v : ℕ) (l : Places) (k : List Todo) → AroundFits w
    → RunFits w.program.globals (state_after_assignment w to v l k)
assigned-fits w (Local x) v l k h = h
assigned-fits w (Variable x) v l k h = stored-fits w x 0 v l k h

called-fits : (w : Surroundings) (f : ℕ) (vs : List ℕ) → AroundFits w → RunFits w.program.globals (state_after_call w f vs)
called-fits w f vs h = with-fits _ _ _ _ (λ function e. by function (nat_lt (length w.waiting) w.depth))
  where
    by : (function : TypedFunction) (t : Bool)
        → RunFits w.program.globals (if t then at w (argument_places vs) (before_all function.body []) else Failed w.output)
    by function true = h
    by function false = tt

returned-fits : (w : Surroundings) (v : Option ℕ) (to : Option Destination) (frames : List Frame) → AroundFits w
    → RunFits w.program.globals (state_with_result w v to frames)
returned-fits w v to [] h = with-fits w.program.globals v w.output (λ v. Ended v w.output) (λ v e. tt)
returned-fits w v None (f ∷ frames) h = h
returned-fits w v (Some place) (f ∷ frames) h =
    with-fits _ _ _ _ (λ v e. assigned-fits (record w { result_to = f.result_to; waiting = frames }) place v f.locals f.todo h)

value-fits : (w : Surroundings) (l : Places) (e : TypedExpression) (go : ℕ → Run) → ((v : ℕ) → RunFits w.program.globals (go v))
    → RunFits w.program.globals (with_value_of w l e go)
value-fits w l e go k = with-fits w.program.globals (value_of e l w.globals) w.output go (λ v is. k v)

step-fits : (w : Surroundings) (l : Places) (k : List Todo) → AroundFits w → RunFits w.program.globals (step_at w l k)
step-fits w l (Do (assign x e) ∷ k) h = value-fits w l e _ (λ v. assigned-fits w x v l k h)
step-fits w l (Do (store x i e) ∷ k) h = value-fits w l i _ (λ j. value-fits w l e _ (λ v. stored-fits w x j v l k h))
step-fits w l (Do (call x f all) ∷ k) h = with-fits _ _ _ _ (λ vs is. called-fits (around_callee w (frame_at w l k) x) f vs h)
step-fits w l (Do (output e) ∷ k) h = value-fits w l e (λ v. at (record w { output = w.output ++ v ∷ [] }) l k) (λ v. h)
step-fits w l (Do (if_else t s u) ∷ k) h = value-fits w l t (λ v. at w l (todo_of_test v (before s k) (before u k))) (λ v. h)
step-fits w l (Do (loop t last body) ∷ k) h =
    value-fits w l t (λ v. at w l (todo_of_test v (before body (Next last (loop t last body) ∷ k)) k)) (λ v. h)
step-fits w l (Do (return_with None) ∷ k) h = returned-fits w None w.result_to w.waiting h
step-fits w l (Do (return_with (Some e)) ∷ k) h = value-fits w l e _ (λ v. returned-fits w (Some v) w.result_to w.waiting h)
step-fits w l _ h = tt

pub source-step-fits : (p : TypedProgram) (depth : ℕ) (s : Run) → RunFits p.globals s → RunFits p.globals (source_step p depth s)
source-step-fits p depth (Running (f ∷ frames) g out) h =
    let point = next_point Going f.locals f.todo in
    step-fits (record { program = p; depth = depth; result_to = f.result_to; waiting = frames; globals = g; output = out }) point.locals point.todo h
source-step-fits p depth _ h = tt

first-fits : (globals : List Global) → ElementsFit globals (map first_words globals)
first-fits globals a x vs at there =
    let is : first_words x ≡ vs = same_Some (first_words x) vs
    (sym (slice_get-map first_words globals a ∙ ap (option_map first_words) at) ∙ there) in
    subst (λ xs. All (λ v. kept x.width v ≡ v) xs) is
    (All-replicate (λ v. kept x.width v ≡ v) x.length (kept x.width (wrap x.first)) (kept-again x.width (wrap x.first)))

pub source-start-fits : (p : TypedProgram) → RunFits p.globals (source_start p)
source-start-fits p = with-fits p.globals (slice_get p.functions p.main) [] _ (λ main e. first-fits p.globals)

byte-below : (w : Width) (v : ℕ) → w ≡ Byte → kept w v ≡ v → v < 2 ^ 8
byte-below Byte v e f = omega (arith, f)
byte-below Word v e f = cc

pub byte-read : (globals : List Global) (l : Places) (g : Arrays) (a : ℕ) (x : Global) (k : IntegerType) (i : TypedExpression) (v : ℕ)
    → ElementsFit globals g → slice_get globals a ≡ Some x → x.width ≡ Byte → value_of (element a k i) l g ≡ Some v → v < 2 ^ 8
byte-read globals l g a x k i v h at is e =
    let s = chain-some (value_of i l g) (λ j. element_at g a j) v e in
    let t = chain-some (slice_get g a) (λ words. slice_get words s.0) v s.2 in
    byte-below x.width v is (at-index (λ v. kept x.width v ≡ v) t.0 s.0 v (h a x t.0 at t.1) t.2)
