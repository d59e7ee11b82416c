-- What a well-formed program's statements name is there.
use Rattle.std.proofs.Common.{◌≡◌, ℕ, suc, zero, ◌+◌, ◌<◌, ◌≤◌, ◌^◌, List, [], ◌∷◌, ◌++◌, Option, Some, None, refl, sym, ◌∙◌, ap}
use Rattle.std.proofs.Common.{arith, length, get_or}
use Rattle.std.specs.Prelude.{All, slice_get, sum_by, map, nat_lt, if◌then◌else◌}
use Rattle.std.specs.List.{AllByRecursion}
use Rattle.std.proofs.lemmas.Bool.{cond_both}
use Rattle.std.proofs.ByRecursion.{All-append as every_append}
use Rattle.std.proofs.lemmas.List.Sums.{sum_by-cons}
use Rattle.std.proofs.lemmas.Option.{slice_get_within}
use Rattle.std.proofs.lemmas.List.Elements.{All-nil, All-cons, All-head, All-tail, All-weaker, recursion_from_All}
use Rattle.words.specs.Widths.{words_of_elements}
use Rattle.c_typed.specs.declared.tree.Global.{Global}
use Rattle.c_typed.specs.declared.limits.TheConstants.{MAX_GLOBAL_WORDS}
use Rattle.c_typed.specs.declared.tree.Function.{Function}
use Rattle.c_types.specs.Shape.{TypedParts, program_of}
use Rattle.c_typed.specs.Shape.{functions_of}
use Rattle.c_typed.specs.Trees.{TypedExpression, TypedFunction, TypedProgram}
use Rattle.c_typed.specs.WellFormed.{FitsExpression, FitsAll, FitsFunction, IsWellFormed, words_in}
use Rattle.rtl.specs.Programs as Programs
use Rattle.rtl.specs.Programs.{IsRegister, IsMaybeRegister, IsInst, IsExit, IsCallee, IsBlock, IsFunction, IsGlobal, IsProgram, block_count, word_count}
use Rattle.rtl.specs.Names.{inst_names, optional, exit_names, insts_names, blocks_names, bound}
use Rattle.rtl.specs.declared.limits.TheConstants.{MAX_REGISTERS}
use Rattle.rtl.specs.declared.instruction.RInst.{RInst}
use Rattle.rtl.specs.declared.instruction.RInst.TheVariants.{Const}
use Rattle.rtl.specs.declared.instruction.RExit.{RExit}
use Rattle.rtl.specs.declared.instruction.RExit.TheVariants.{Goto, Call, Return}
use Rattle.rtl.specs.declared.block.RBlock.{RBlock}
use Rattle.rtl.specs.declared.block.RFunc.{RFunc}
use Rattle.rtl.specs.declared.block.RGlobal.{RGlobal}
use Rattle.rtl_emit.specs.Sizes.{globals_named, globals_named_in, places_registers}
use Rattle.rtl_emit.specs.Sound.{Scope, IsSoundInst, IsSoundMaybe, IsSoundExit, AreSound}
use Rattle.rtl_emit.specs.Expressions.{ArePlaces}
use Rattle.rtl_emit.specs.declared.place.Place.{Place}
use Rattle.rtl_lower.specs.Coded.{IsCodeOf, IsGlobalOf, AreCodesOf, AreGlobalsOf}
use Rattle.rtl_lower.specs.Laws.{IsOfSize, AreOfSizes}
use Rattle.rtl_lower.specs.Sizes.{HaveRoom, function_blocks, function_registers}
use Rattle.rtl_lower.specs.Sound.{Suits}
use Rattle.rtl_lower.proofs.Functions.{bytes_more, expression_numbers, list_numbers, pairs_at, pairs_all, pairs_length}

-- expressions

pub named : {r : ℕ} (p : TypedProgram) (s : Scope) (n : ℕ) (e : TypedExpression) → Suits p r s → FitsExpression p n e → globals_named e ≤ s.globals
named p s n e su f = omega (arith, expression_numbers p n e f, su.globals)

pub named_all : {r : ℕ} (p : TypedProgram) (s : Scope) (n : ℕ) (es : List TypedExpression) → Suits p r s → FitsAll p n es
    → globals_named_in es ≤ s.globals
named_all p s n es su f = omega (arith, list_numbers p n es f, su.globals)

pub in_scope : {r : ℕ} (p : TypedProgram) (s : Scope) (g g' : ℕ) → Suits p r s → g' ≡ g → g < length p.globals → g' < s.globals
in_scope p s g g' su e lt = omega (arith, e, lt, su.globals)

-- fewer registers
pub fewer : {p : TypedProgram} {n m : ℕ} {s : Scope} → Suits p n s → m ≤ n → Suits p m s
fewer su le = record { registers_fit = omega (arith, su.registers_fit, le); functions = su.functions; globals = su.globals }

-- calls

pub place_registers_sound : (n : ℕ) (es : List TypedExpression) (free : ℕ) (ps : List Place) → ArePlaces es free ps → places_registers es free ≤ n
    → All (λ x. x < n) (map (λ p. p.register) ps)
place_registers_sound n [] free [] a le = All-nil (λ x. x < n)
place_registers_sound n (e ∷ es) free (p ∷ ps) a le =
    All-cons (λ x. x < n) p.register (map (λ p. p.register) ps) (omega (arith, a.0.counted, le))
    (place_registers_sound n es p.free ps a.1 (omega (arith, ap (places_registers es) a.0.next_is, le)))
place_registers_sound n _ free _ a le = absurd a

places_length : (es : List TypedExpression) (free : ℕ) (ps : List Place) → ArePlaces es free ps → length (map (λ p. p.register) ps) ≡ length es
places_length [] free [] a = refl
places_length (e ∷ es) free (p ∷ ps) a = ap suc (places_length es p.free ps a.1)
places_length _ free _ a = absurd a

pub callee_sound : {r : ℕ} (p : TypedProgram) (s : Scope) (f f' : ℕ) (callee : TypedFunction) (es : List TypedExpression) (free : ℕ) (ps : List Place)
    (rs : List ℕ) → Suits p r s → f' ≡ f → slice_get p.functions f ≡ Some callee → length es ≡ callee.parameters → rs ≡ map (λ p. p.register) ps
    → ArePlaces es free ps
    → IsCallee s.functions f' (length rs)
callee_sound p s f f' callee es free ps rs su ef there count e a =
    let c = su.functions f callee there in
    let n = ap length e ∙ places_length es free ps a ∙ count in
    record { callee = c.callee; there = ap (λ i. slice_get s.functions i) ef ∙ c.there; takes = c.takes ∙ sym n }

-- globals

pub too_long_at : (gs : List Global) (i : ℕ) (d : Global) → i < length gs → 2 ^ 32 < (get_or gs i d).length + 1 → words_in gs ≤ MAX_GLOBAL_WORDS → ⊥
too_long_at [] i d lt much le = absurd (omega arith)
too_long_at (x ∷ gs) zero d lt much le = omega (arith, bytes_more x.width x.length, much, le)
too_long_at (x ∷ gs) (suc i) d lt much le = too_long_at gs i d (omega arith) much (omega (arith, le))

globals_are : (gs : List Global) (rs : List RGlobal) → AreGlobalsOf gs rs → All (λ (g : Global). 1 ≤ g.length) gs → All IsGlobal rs
globals_are = pairs_all IsGlobalOf (λ (g : Global). 1 ≤ g.length) IsGlobal
    (λ g r m h. record { some = omega (arith, h, m.elements); first = m.values ∙ sym m.elements })

same_words : (gs : List Global) (rs : List RGlobal) → AreGlobalsOf gs rs → sum_by word_count rs ≡ words_in gs
same_words [] [] m = refl
same_words (g ∷ gs) (r ∷ rs) m =
    let w = ap (λ w. words_of_elements w r.length) m.0.width ∙ ap (words_of_elements g.width) m.0.elements in
    omega (arith, sum_by-cons word_count r rs, same_words gs rs m.1, w)
same_words _ _ m = absurd m

-- functions

inst_is : (s : Scope) (i : RInst) → s.registers ≤ MAX_REGISTERS → IsSoundInst s i → IsInst s.globals i
inst_is s (Const d w) le h = omega (arith, le, h)
inst_is s _ le h = omega arith

maybe_is : (s : Scope) (o : Option ℕ) → s.registers ≤ MAX_REGISTERS → IsSoundMaybe s o → IsMaybeRegister o
maybe_is s None le h = tt
maybe_is s (Some x) le h = omega (arith, le, h)

exit_is : (s : Scope) (x : RExit) → s.registers ≤ MAX_REGISTERS → IsSoundExit s x → IsExit s.functions s.blocks x
exit_is s (Goto b) le h = h
exit_is s (Call f args d next) le h =
    (h.0, (All-weaker (λ x. x < s.registers) IsRegister (λ x lt. omega (arith, le, lt)) args.items h.1.0, (maybe_is s d le h.1.1.0, h.1.1.1)))
exit_is s (Return a) le h = maybe_is s a le h
exit_is s _ le h = (omega (arith, le, h.0), h.1)

blocks_are : (s : Scope) (bs : List RBlock) → s.registers ≤ MAX_REGISTERS → AreSound s bs → All (IsBlock s.functions s.globals s.blocks) bs
blocks_are s [] le a = All-nil (IsBlock s.functions s.globals s.blocks)
blocks_are s (b ∷ bs) le a =
    All-cons (IsBlock s.functions s.globals s.blocks) b bs
    (record {
      insts = All-weaker (IsSoundInst s) (IsInst s.globals) (λ i h. inst_is s i le h) b.insts.items a.0.insts;
      exit = exit_is s b.exit le a.0.exit;
    }) (blocks_are s bs le a.1)

-- the names of sound code, and how many registers they number

inst_below : (s : Scope) (i : RInst) → IsSoundInst s i → AllByRecursion (λ x. x < s.registers) (inst_names i)
inst_below s (Const d w) h = (h, tt)
inst_below s _ h = omega arith

insts_below : (s : Scope) (is : List RInst) → AllByRecursion (IsSoundInst s) is → AllByRecursion (λ x. x < s.registers) (insts_names is)
insts_below s [] a = tt
insts_below s (i ∷ is) a = every_append (λ x. x < s.registers) (inst_names i) (insts_names is) (inst_below s i a.0) (insts_below s is a.1)

maybe_below : (s : Scope) (o : Option ℕ) → IsSoundMaybe s o → AllByRecursion (λ x. x < s.registers) (optional o)
maybe_below s None h = tt
maybe_below s (Some x) h = (h, tt)

exit_below : (s : Scope) (x : RExit) → IsSoundExit s x → AllByRecursion (λ x. x < s.registers) (exit_names x)
exit_below s (Goto b) h = tt
exit_below s (Call f args d next) h =
    every_append (λ x. x < s.registers) args.items (optional d) (recursion_from_All (λ x. x < s.registers) args.items h.1.0) (maybe_below s d h.1.1.0)
exit_below s (Return a) h = maybe_below s a h
exit_below s _ h = (h.0, tt)

blocks_below : (s : Scope) (bs : List RBlock) → AreSound s bs → AllByRecursion (λ x. x < s.registers) (blocks_names bs)
blocks_below s [] a = tt
blocks_below s (b ∷ bs) a =
    every_append (λ x. x < s.registers) (insts_names b.insts.items) (exit_names b.exit ++ blocks_names bs)
    (insts_below s b.insts.items (recursion_from_All (IsSoundInst s) b.insts.items a.0.insts))
    (every_append (λ x. x < s.registers) (exit_names b.exit) (blocks_names bs) (exit_below s b.exit a.0.exit) (blocks_below s bs a.1))

bound_within : (n m : ℕ) (xs : List ℕ) → n ≤ m → AllByRecursion (λ x. x < m) xs → bound n xs ≤ m
bound_within n m [] le a = le
bound_within n m (x ∷ xs) le a =
    bound_within (if nat_lt x n then n else suc x) m xs (cond_both (nat_lt x n) n (suc x) (λ k. k ≤ m) (λ _. le) (λ _. a.0)) a.1

-- what there is to name in a function
abbrev scope_of : TypedFunction → (rs : List RFunc) (globals : ℕ) → RFunc → Scope
scope_of f rs globals r = record { registers = function_registers f; functions = rs; globals = globals; blocks = length r.blocks.items }

-- functions whose callees are among those of a program
module _ (p : TypedProgram) (rs : List RFunc)
    (callees : (i : ℕ) (f : TypedFunction) → slice_get p.functions i ≡ Some f → IsCallee rs i f.parameters) where
  sound_function : (globals : ℕ) (f : TypedFunction) (r : RFunc) → length p.globals ≤ globals → FitsFunction p f → IsCodeOf f r
      → AreSound (scope_of f rs globals r) r.blocks.items
  sound_function globals f r gs fits c =
      c.sound p (scope_of f rs globals r) (record { registers_fit = omega arith; functions = callees; globals = gs }) fits (omega arith)

  size_is : (f : TypedFunction) (r : RFunc) → FitsFunction p f → IsCodeOf f r → IsOfSize f r
  size_is f r fits c = record {
    registers = bound_within r.parameters (function_registers f) (blocks_names r.blocks.items) (omega (arith, c.parameters, fits.first))
        (blocks_below (scope_of f rs (length p.globals) r) r.blocks.items (sound_function (length p.globals) f r (omega arith) fits c));
    blocks = c.count;
    insts = c.insts;
  }

  function_is : (globals : ℕ) (f : TypedFunction) (r : RFunc) → length p.globals ≤ globals → FitsFunction p f → function_registers f ≤ MAX_REGISTERS
      → IsCodeOf f r → IsFunction rs globals r
  function_is globals f r gs fits few c = record {
    parameters = omega (arith, c.parameters, fits.parameters);
    entry = slice_get_within r.blocks.items 0 c.entry_at.block c.entry_at.there;
    blocks = blocks_are (scope_of f rs globals r) r.blocks.items few (sound_function globals f r gs fits c);
  }

  functions_are : (globals : ℕ) → length p.globals ≤ globals → (fs : List TypedFunction) (some : List RFunc) → AreCodesOf fs some → All (FitsFunction p) fs
      → All (λ f. function_registers f ≤ MAX_REGISTERS) fs → All (IsFunction rs globals) some
  functions_are globals gs fs some m a few =
      pairs_all IsCodeOf (λ f. FitsFunction p f × (function_registers f ≤ MAX_REGISTERS)) (IsFunction rs globals)
      (λ f r c h. function_is globals f r gs h.0 h.1 c) fs some m (λ k d lt. (a k d lt, few k d lt))

  sizes_of : (fs : List TypedFunction) (some : List RFunc) → AreCodesOf fs some → All (FitsFunction p) fs → AreOfSizes fs some
  sizes_of [] [] m a = tt
  sizes_of (f ∷ fs) (r ∷ some) m a = (size_is f r (All-head (FitsFunction p) f fs a) m.0, sizes_of fs some m.1 (All-tail (FitsFunction p) f fs a))
  sizes_of _ _ m a = absurd m

callee_of : (fs : List TypedFunction) (rs : List RFunc) → AreCodesOf fs rs → (i : ℕ) (f : TypedFunction) → slice_get fs i ≡ Some f
    → IsCallee rs i f.parameters
callee_of fs rs m i f e = let r = pairs_at IsCodeOf fs rs m i f e in record { callee = r.0; there = r.1; takes = r.2.parameters }

pub sizes_are : (parts : TypedParts) (fs : List Function) (rs all : List RFunc) → fs ≡ parts.functions → all ≡ rs → AreCodesOf (functions_of fs) rs
    → IsWellFormed (program_of parts) → AreOfSizes (functions_of parts.functions) all
sizes_are parts fs rs all ifs ia codes well =
    let p = program_of parts in
    let m = rw ifs at codes in
    rw ia (sizes_of p rs (callee_of p.functions rs m) p.functions rs m well.functions)

-- a program of RTL

pub parts_program : (parts : TypedParts) (fs : List Function) (ds : List Global) (rs : List RFunc) (gs : List RGlobal) (main : ℕ) → main ≡ parts.main
    → fs ≡ parts.functions → ds ≡ parts.globals → AreCodesOf (functions_of fs) rs → AreGlobalsOf ds gs
    → sum_by block_count rs ≡ sum_by function_blocks (functions_of fs) → IsWellFormed (program_of parts) → HaveRoom (functions_of parts.functions)
    → IsProgram (Programs.program_of rs gs main)
parts_program parts fs ds rs gs main em ifs ids of_parts of_globals sum well room =
    let p = program_of parts in
    let codes = rw ifs at of_parts in
    let globals = rw ids at of_globals in
    let callees = callee_of p.functions rs codes in
    let m = callees p.main well.main well.entry in
    record {
      functions = functions_are p rs callees (length gs) (omega (arith, pairs_length IsGlobalOf p.globals gs globals)) p.functions rs codes well.functions
          room.registers;
      globals = globals_are p.globals gs globals well.globals;
      main = record { callee = m.callee; there = ap (λ i. slice_get rs i) em ∙ m.there; takes = m.takes ∙ well.alone };
      blocks_fit = omega (arith, sum, ap (λ fs. sum_by function_blocks (functions_of fs)) ifs, room.blocks);
      words_fit = omega (arith, same_words p.globals gs globals, well.words_fit);
    }
