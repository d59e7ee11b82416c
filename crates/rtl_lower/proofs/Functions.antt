-- From functions to a program: their sizes, what a well-formed program keeps, and the code of each.
use Rattle.std.proofs.Common.{◌≡◌, ◌≢◌, ℕ, zero, suc, ◌+◌, ◌≤◌, List, [], ◌∷◌, ◌++◌, Some, None, refl, ◌∙◌, ap, subst, arith, length, ◌<◌}
use Rattle.std.proofs.Common.{◌*◌, sum, Bool, true, false, Option, sym, get_or, take}
use Rattle.std.specs.Prelude.{All, slice_get, map, replicate, sum_by, is_some}
use Rattle.std.proofs.lemmas.List.{length-map, length-replicate, get_or-map, map_push}
use Rattle.std.proofs.lemmas.List.Elements.{All-nil, All-cons, All-head, All-tail}
use Rattle.words.specs.Words.{wrap}
use Rattle.words.specs.Widths.{kept, words_of_elements}
use Rattle.words.specs.declared.width.Width.{Width}
use Rattle.c_typed.specs.declared.tree.Function.{Function}
use Rattle.c_typed.specs.declared.tree.Global.{Global}
use Rattle.c_typed.specs.Shape.{functions_of, function_of}
use Rattle.c_typed.specs.Trees.{TypedFunction, TypedProgram, TypedStatements, TypedExpression, TypedStatement, global, element, unary}
use Rattle.c_typed.specs.Trees.{binary, conditional, block, assign, store, call, output, if_else, loop, continue_loop, return_with}
use Rattle.c_typed.specs.Trees.{no_statements, more_statements}
use Rattle.c_typed.specs.Meaning.{first_words}
use Rattle.c_typed.specs.WellFormed.{IsWellFormed, FitsFunction, FitsExpression, FitsAll, FitsTarget, FitsStatement, FitsStatements}
use Rattle.c_typed.specs.WellFormed.{words_in}
use Rattle.c_types.specs.Shape.{TypedParts, program_of}
use Rattle.rtl.specs.Programs as Programs
use Rattle.rtl.specs.Programs.{Program, block_count}
use Rattle.rtl.specs.Meaning.{Code, first_values}
use Rattle.rtl.specs.declared.block.RBlock.{RBlock}
use Rattle.rtl.specs.declared.block.RFunc.{RFunc}
use Rattle.rtl.specs.declared.block.RGlobal.{RGlobal}
use Rattle.rtl_emit.specs.Blocks.{Spot, Line, line_of, insts_in, Reserves, Fills}
use Rattle.rtl_emit.specs.Sound.{Scope, AreSound}
use Rattle.rtl_emit.proofs.Emitted.{Over}
use Rattle.rtl_lower.specs.Sizes.{statements_blocks, statements_insts, function_registers, continues, any_continues, numbers_named}
use Rattle.rtl_lower.specs.Sizes.{numbers_named_in, target_number, function_blocks, IsPlain, HaveRoom}
use Rattle.rtl_lower.specs.Sound.{Suits}
use Rattle.rtl_lower.specs.Laws.{KeepsRuns}
use Rattle.rtl_lower.specs.Coded.{enclosing, CodedAll, IsCodeOf, IsGlobalOf, ArePairs, AreCodesOf, AreGlobalsOf}
use Rattle.rtl_lower.proofs.Simulation.{keeps_runs}
use Rattle.std.proofs.lemmas.List.Sums.{get_or-le-sum_by, sum-map}
use Rattle.std.proofs.lemmas.Bool.{or_from}
use Rattle.std.proofs.lemmas.Option.{slice_get_within}
use Rattle.words.specs.declared.width.Width.TheVariants.{Word, Byte}
use Rattle.c_typed.specs.declared.tree.Destination.{Destination}
use Rattle.c_typed.specs.declared.tree.Destination.TheVariants.{Global as Variable}
use Rattle.rtl.specs.declared.limits.TheConstants.{MAX_BLOCKS, MAX_REGISTERS}
use Rattle.rtl_emit.specs.Sizes.{globals_named, globals_named_in, Beyond}
use Rattle.rtl_lower.proofs.Sizes.{take_one}

-- one of a list

functions_is : (all : List Function) → functions_of all ≡ map function_of all
functions_is [] = refl
functions_is (f ∷ all) = ap (λ l. function_of f ∷ l) (functions_is all)

pub one_of : (all : List Function) (i : ℕ) (f : Function) → i < length all → f ≡ get_or all i f
    → (i < length (functions_of all)) × (get_or (functions_of all) i (function_of f) ≡ function_of f)
one_of all i f lt is = rw (functions_is all)
    (omega (arith, lt, length-map all function_of), get_or-map function_of all i f (function_of f) lt ∙ ap function_of (sym is))

pub each_at : (P : TypedFunction → Type 0) (all : List Function) (i : ℕ) (f : Function) → i < length all → f ≡ get_or all i f → All P (functions_of all)
    → P (function_of f)
each_at P all i f lt is a = let one = one_of all i f lt is in subst P one.1 (a i (function_of f) one.0)

-- a function that is beyond puts the program beyond
pub too_large : (all : List Function) (i : ℕ) (f : Function) → i < length all → f ≡ get_or all i f
    → Beyond (function_registers (function_of f)) (function_blocks (function_of f)) 0 → HaveRoom (functions_of all) → ⊥
too_large all i f lt is b room =
    let one = one_of all i f lt is in
    let registers = each_at (λ f. function_registers f ≤ MAX_REGISTERS) all i f lt is room.registers in
    omega (arith, b, registers, get_or-le-sum_by function_blocks (functions_of all) i (function_of f) one.0, ap function_blocks one.1, room.blocks)

-- the functions up to one, and that one
pub functions_more : (all : List Function) (i : ℕ) (f : Function) → i < length all → f ≡ get_or all i f
    → functions_of (take (i + 1) all) ≡ functions_of (take i all) ++ function_of f ∷ []
functions_more all i f lt is =
    rw (functions_is (take (i + 1) all), functions_is (take i all), take_one all i (i + 1) f f lt refl is) (map_push function_of (take i all) f)

-- functions whose blocks fit together
pub room_of : (fs : List TypedFunction) (rs : List RFunc) → sum_by block_count rs ≤ MAX_BLOCKS
    → sum_by block_count rs ≡ sum_by function_blocks fs → All (λ f. function_registers f ≤ MAX_REGISTERS) fs → HaveRoom fs
room_of fs rs h sum each = record { registers = each; blocks = omega (arith, h, sum) }

-- what a well-formed program keeps

mutual
  no_continue : (p : TypedProgram) (n : ℕ) (gives : Bool) (s : TypedStatement) → FitsStatement p n gives false s → continues s ≡ false
  no_continue p n gives (block all) f = no_continues p n gives all f
  no_continue p n gives (if_else c a b) f = or_from (continues a) (continues b) (no_continue p n gives a f.1.0) (no_continue p n gives b f.1.1)
  no_continue p n gives (loop c last body) f = no_continue p n gives last f.1.0
  no_continue p n gives continue_loop f = sym f
  no_continue p n gives _ f = refl

  no_continues : (p : TypedProgram) (n : ℕ) (gives : Bool) (all : TypedStatements) → FitsStatements p n gives false all → any_continues all ≡ false
  no_continues p n gives no_statements f = refl
  no_continues p n gives (more_statements s rest) f = or_from (continues s) (any_continues rest) (no_continue p n gives s f.0) (no_continues p n gives rest f.1)

-- numbers of globals and functions

pub expression_numbers : (p : TypedProgram) (n : ℕ) (e : TypedExpression) → FitsExpression p n e → globals_named e ≤ length p.globals
expression_numbers p n (global x k) f = omega (arith, f)
expression_numbers p n (element x k e) f = omega (arith, f.0, expression_numbers p n e f.1)
expression_numbers p n (unary o k e) f = expression_numbers p n e f.1
expression_numbers p n (binary o k a b) f = omega (arith, expression_numbers p n a f.1.0, expression_numbers p n b f.1.1)
expression_numbers p n (conditional k c a b) f = omega (
  arith,
  expression_numbers p n c f.1.0,
  expression_numbers p n a f.1.1.0,
  expression_numbers p n b f.1.1.1,
)
expression_numbers p n _ f = omega arith

pub list_numbers : (p : TypedProgram) (n : ℕ) (es : List TypedExpression) → FitsAll p n es → globals_named_in es ≤ length p.globals
list_numbers p n [] f = omega arith
list_numbers p n (e ∷ es) f = omega (arith, expression_numbers p n e f.0, list_numbers p n es f.1)

target_numbers : (p : TypedProgram) (n : ℕ) (to : Option Destination) → FitsTarget p n to → target_number to ≤ length p.globals
target_numbers p n (Some (Variable g)) f = omega (arith, f)
target_numbers p n _ f = omega arith

mutual
  statement_numbers : (p : TypedProgram) (n : ℕ) (gives inside : Bool) (s : TypedStatement) → FitsStatement p n gives inside s
      → numbers_named s ≤ length p.globals + length p.functions
  statement_numbers p n gives inside (block all) f = statements_numbers p n gives inside all f
  statement_numbers p n gives inside (assign to e) f = omega (arith, target_numbers p n (Some to) f.0, expression_numbers p n e f.1)
  statement_numbers p n gives inside (store x i e) f = omega (arith, f.0, expression_numbers p n i f.1.0, expression_numbers p n e f.1.1)
  statement_numbers p n gives inside (call to g es) f =
      omega (arith, target_numbers p n to f.0, list_numbers p n es f.1.1, slice_get_within p.functions g f.1.0.callee f.1.0.there)
  statement_numbers p n gives inside (output e) f = omega (arith, expression_numbers p n e f)
  statement_numbers p n gives inside (if_else e a b) f =
      omega (arith, expression_numbers p n e f.0, statement_numbers p n gives inside a f.1.0, statement_numbers p n gives inside b f.1.1)
  statement_numbers p n gives inside (loop e last body) f =
      omega (arith, expression_numbers p n e f.0, statement_numbers p n gives false last f.1.0, statement_numbers p n gives true body f.1.1)
  statement_numbers p n gives inside (return_with (Some e)) f = omega (arith, expression_numbers p n e f.1)
  statement_numbers p n gives inside _ f = omega arith

  statements_numbers : (p : TypedProgram) (n : ℕ) (gives inside : Bool) (all : TypedStatements) → FitsStatements p n gives inside all
      → numbers_named_in all ≤ length p.globals + length p.functions
  statements_numbers p n gives inside no_statements f = omega arith
  statements_numbers p n gives inside (more_statements s rest) f = omega (
    arith,
    statement_numbers p n gives inside s f.0,
    statements_numbers p n gives inside rest f.1,
  )

-- a word has four bytes
pub bytes_more : (w : Width) (n : ℕ) → n ≤ 4 * words_of_elements w n
bytes_more Word n = omega arith
bytes_more Byte n = omega arith

words_enough : (gs : List Global) → All (λ (g : Global). 1 ≤ g.length) gs → length gs ≤ words_in gs
words_enough [] a = omega arith
words_enough (g ∷ gs) a = omega (arith, bytes_more g.width g.length, a 0 g (omega arith), words_enough gs (λ k d lt. a (suc k) d (omega arith)))

plain : (p : TypedProgram) (f : TypedFunction) → IsWellFormed p → FitsFunction p f → IsPlain f
plain p f well fits =
    let n = statements_numbers p f.locals (is_some f.result) false f.body fits.body in
    record {
      parameters = fits.first;
      locals = omega (arith, fits.locals);
      jumps = no_continues p f.locals (is_some f.result) f.body fits.body;
      numbers = omega (arith, n, words_enough p.globals well.globals, well.words_fit, well.functions_fit);
    }

pub plain_functions : (p : TypedProgram) → IsWellFormed p → All IsPlain p.functions
plain_functions p well k d lt = plain p (get_or p.functions k d) well (well.functions k d lt)

-- the code of a function

pub function_code : (f : TypedFunction) (r : RFunc) (b0 b1 b2 : List RBlock) (free entry : ℕ) (all : TypedStatements) (filled end : Code) (from : Spot)
    → free ≡ f.locals → r.parameters ≡ f.parameters → all ≡ f.body → b0 ≡ [] → Reserves b0 b1 entry
    → Over b1 b2 (λ bs. CodedAll (enclosing bs free) all 0 None from (Line end))
    → filled ≡ line_of from → Fills b2 r.blocks.items entry filled
    → length b2 ≡ length b1 + statements_blocks all 1
    → insts_in r.blocks.items ≤ statements_insts all
    → ((p : TypedProgram) (s : Scope) → Suits p (function_registers f) s → FitsFunction p f → length r.blocks.items ≤ s.blocks
    → AreSound s r.blocks.items) → IsCodeOf f r
function_code f r b0 b1 b2 free entry all filled end from il ip ib e0 res makes fe f' count insts sound =
    let zero_entry : entry ≡ 0 = res.number ∙ ap length e0 in
    let one : length b1 ≡ 1 = omega (arith, res.longer, ap length e0) in
    let here = makes r.blocks.items (record { by = λ i low high. let ne : i ≢ entry = omega arith in f'.others i ne }) in
    record {
      parameters = ip;
      entry = from;
      entry_at = rw (zero_entry, fe) at f'.at;
      after = end;
      body = rw (ib, il) at here;
      count = omega (arith, f'.same_length, count, one, ap (λ b. statements_blocks b 1) ib);
      insts = rw ib at insts;
      sound = sound;
    }

-- globals

same_values : (w : Width) (n v : ℕ) → map (λ v. kept w (wrap v)) (replicate n v) ≡ replicate n (kept w (wrap v))
same_values w zero v = refl
same_values w (suc n) v = ap (λ xs. kept w (wrap v) ∷ xs) (same_values w n v)

pub global_code : (g : Global) (r : RGlobal) → r.width ≡ g.width → r.length ≡ g.length → r.first.items ≡ replicate g.length g.first → IsGlobalOf g r
global_code g r iw il is = record {
  elements = il;
  values = ap length is ∙ length-replicate g.length g.first;
  width = iw;
  first = ap (λ (w : Width). map (λ v. kept w (wrap v)) r.first.items) iw ∙ ap (map (λ v. kept g.width (wrap v))) is ∙ same_values g.width g.length g.first;
}

-- one after another

pairs_push : {A B : Type 0} (IsPair : A → B → Type 0) (xs : List A) (ys : List B) (x : A) (y : B) → ArePairs IsPair xs ys → IsPair x y
    → ArePairs IsPair (xs ++ x ∷ []) (ys ++ y ∷ [])
pairs_push IsPair [] [] x y m c = (c, tt)
pairs_push IsPair (a ∷ xs) (b ∷ ys) x y m c = (m.0, pairs_push IsPair xs ys x y m.1 c)
pairs_push IsPair _ _ x y m c = absurd m

-- one more pair
pub one_pair : {A B : Type 0} (IsPair : A → B → Type 0) (xs xs' : List A) (ys ys' : List B) (x : A) (y : B) → xs' ≡ xs ++ x ∷ [] → ys' ≡ ys ++ y ∷ []
    → IsPair x y → ArePairs IsPair xs ys → ArePairs IsPair xs' ys'
one_pair IsPair xs xs' ys ys' x y ex ey is pairs = rw (ex, ey) (pairs_push IsPair xs ys x y pairs is)

pub pairs_at : {A B : Type 0} (IsPair : A → B → Type 0) (xs : List A) (ys : List B) → ArePairs IsPair xs ys → (i : ℕ) (x : A) → slice_get xs i ≡ Some x
    → (y : B) × (slice_get ys i ≡ Some y) × IsPair x y
pairs_at IsPair [] ys m i x e = cc
pairs_at IsPair (a ∷ xs) (b ∷ ys) m zero x e = let is : a ≡ x = cc in (b, refl, subst (λ x. IsPair x b) is m.0)
pairs_at IsPair (a ∷ xs) (b ∷ ys) m (suc i) x e = pairs_at IsPair xs ys m.1 i x e
pairs_at IsPair (a ∷ xs) [] m i x e = absurd m

-- what holds of each of the first, with what its pair is, holds of the second
pub pairs_all : {A B : Type 0} (IsPair : A → B → Type 0) (P : A → Type 0) (Q : B → Type 0) → ((x : A) (y : B) → IsPair x y → P x → Q y)
    → (xs : List A) (ys : List B) → ArePairs IsPair xs ys → All P xs → All Q ys
pairs_all IsPair P Q each [] [] m a = All-nil Q
pairs_all IsPair P Q each (x ∷ xs) (y ∷ ys) m a =
    All-cons Q y ys (each x y m.0 (All-head P x xs a)) (pairs_all IsPair P Q each xs ys m.1 (All-tail P x xs a))
pairs_all IsPair P Q each _ _ m a = absurd m

-- what is the same of each of the first and its pair
pub pairs_same : {A B C : Type 0} (IsPair : A → B → Type 0) (f : A → C) (g : B → C) → ((x : A) (y : B) → IsPair x y → g y ≡ f x)
    → (xs : List A) (ys : List B) → ArePairs IsPair xs ys → map g ys ≡ map f xs
pairs_same IsPair f g each [] [] m = refl
pairs_same IsPair f g each (x ∷ xs) (y ∷ ys) m = let e = each x y m.0 in let r = pairs_same IsPair f g each xs ys m.1 in cc
pairs_same IsPair f g each _ _ m = absurd m

pub pairs_length : {A B : Type 0} (IsPair : A → B → Type 0) (xs : List A) (ys : List B) → ArePairs IsPair xs ys → length ys ≡ length xs
pairs_length IsPair xs ys m = simp length-map at (ap length (pairs_same {C = ℕ} IsPair (λ _. 0) (λ _. 0) (λ x y p. refl) xs ys m))

pub codes_count : (fs : List TypedFunction) (rs : List RFunc) → AreCodesOf fs rs → sum_by block_count rs ≡ sum_by function_blocks fs
codes_count fs rs m =
    sym (sum-map block_count rs) ∙ ap sum (pairs_same IsCodeOf function_blocks block_count (λ f r c. c.count) fs rs m) ∙ sum-map function_blocks fs

pub program_made : (parts : TypedParts) (fs : List Function) (gs : List Global) (rfs : List RFunc) (rgs : List RGlobal) (m : ℕ) (p : Program)
    → p ≡ Programs.program_of rfs rgs m → m ≡ parts.main → fs ≡ parts.functions → gs ≡ parts.globals → AreCodesOf (functions_of fs) rfs
    → AreGlobalsOf gs rgs → IsWellFormed (program_of parts) → KeepsRuns (program_of parts) p
program_made parts fs gs rfs rgs m p ip im ifs igs cs ds well =
    let globals = rw igs at ds in
    rw ip (keeps_runs (program_of parts) (Programs.program_of rfs rgs m) (record {
      main = im;
      functions = pairs_at IsCodeOf (functions_of parts.functions) rfs (rw ifs at cs);
      globals = pairs_at IsGlobalOf parts.globals rgs globals;
      first = pairs_same IsGlobalOf first_words first_values (λ x y m. m.first) parts.globals rgs globals;
    }) well)
