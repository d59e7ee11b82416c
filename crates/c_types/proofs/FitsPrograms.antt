-- Typed programs without faults are well formed.
use Rattle.std.proofs.Common.{◌≡◌, ◌≢◌, ◌<◌, ◌≤◌, ◌+◌, ℕ, suc, List, [], ◌∷◌, ◌++◌, Option, Some, None, Bool, true, false, length, inl, inr}
use Rattle.std.proofs.Common.{refl, sym, ap, ◌∙◌, arith, append_assoc, if◌then◌else◌}
use Rattle.std.specs.Prelude.{is_some, slice_get, bytes_eq, All}
use Rattle.std.proofs.lemmas.List.{length-append}
use Rattle.std.proofs.lemmas.List.Elements.{All-nil, All-cons, All-same}
use Rattle.std.proofs.lemmas.Option.{same_Some, none-some, slice_get_within}
use Rattle.c_tokens.specs.declared.token.Identifier.{Identifier}
use Rattle.c_tokens.specs.declared.token.IntegerType.{IntegerType}
use Rattle.c_tokens.specs.declared.token.IntegerType.TheVariants.{SignedInt, UnsignedInt}
use Rattle.c_tree.specs.declared.tree.Parameter.{Parameter}
use Rattle.c_tree.specs.Tree as Tree
use Rattle.c_statements.specs.declared.fault.TypeFaultKind.TheVariants.{Kind as KindFault, Count, Limit}
use Rattle.c_statements.specs.declared.names.Named.{Named}
use Rattle.c_statements.specs.declared.names.Named.TheVariants.{Local, Global, Array, Function, Out}
use Rattle.c_typed.specs.declared.tree.Global as Typed
use Rattle.c_statements.specs.Faults.{HasNone}
use Rattle.c_statements.specs.Names.{Bindings, Scopes, hides, named_in, nothing, spelling_in, with_name, with_local, behind_items, declared_in_all}
use Rattle.c_types.specs.Programs.{File, no_declarations, out_name, main_name, after, after_all, IsNotMain, array_of_nothing, other_main}
use Rattle.c_types.specs.Programs.{too_many_words, too_many_functions, fifth_parameter, FaultyParameters, behind_parameters, scopes_at}
use Rattle.c_types.specs.Programs.{FaultyBody, FaultyDeclaration, FaultyDeclarations, with_last, closing, TypedDeclaration, a_global}
use Rattle.c_types.specs.Programs.{a_function, TypesDeclaration, variable_typed, array_typed, function_typed, TypesDeclarations}
use Rattle.c_types.specs.Programs.{all_declared, more_declared, functions_in, globals_in}
use Rattle.c_typed.specs.Trees.{TypedStatements, TypedFunction, TypedProgram, no_statements, more_statements}
use Rattle.c_statements.specs.Types.{TypesItems}
use Rattle.c_typed.specs.declared.tree.Function as Rust
use Rattle.c_typed.specs.Shape.{functions_of}
use Rattle.c_types.specs.Shape.{TypedParts, program_of}
use Rattle.words.specs.Widths.{words_of_elements}
use Rattle.c_typed.specs.WellFormed.{FitsStatements, FitsFunction, words_in, IsWellFormed}
use Rattle.c_types.specs.Typed.{IsTyped}
use Rattle.c_statements.proofs.BlockItems.{behind-locals}
use Rattle.c_types.proofs.FitsStatements.{IsThere, AreThere, declared-there, fits-items, all-locals-fit}

-- the parameters

parameters-there : (p : TypedProgram) (n : ℕ) (text : List ℕ) (sc : Scopes) (ps : List Parameter) → AreThere p n (named_in sc)
    → sc.locals + length ps ≤ n → AreThere p n (named_in (behind_parameters text sc ps))
parameters-there p n text sc [] h room = h
parameters-there p n text sc (q ∷ rest) h room =
    parameters-there p n text (with_local text sc q.integer_type q.name) rest
    (declared-there p n text sc q.integer_type q.name h (omega (arith, room))) (omega (arith, room))

behind-parameters : (text : List ℕ) (sc : Scopes) (ps : List Parameter) → (behind_parameters text sc ps).locals ≡ sc.locals + length ps
behind-parameters text sc [] = omega arith
behind-parameters text sc (q ∷ rest) = omega (arith, behind-parameters text (with_local text sc q.integer_type q.name) rest)

parameters-fit : (text : List ℕ) (sc : Scopes) (ps : List Parameter) → sc.locals ≤ 4 → HasNone (FaultyParameters text sc ps) → sc.locals + length ps ≤ 4
parameters-fit text sc [] few none = omega (arith, few)
parameters-fit text sc (q ∷ rest) few none =
    let other : sc.locals ≢ 4 = λ e. none Count q.name.at (inl (fifth_parameter (e, (refl, refl)))) in
    let more : suc sc.locals ≤ 4 = omega (arith, few, other) in
    omega (arith, parameters-fit text (with_local text sc q.integer_type q.name) rest more (λ k at w. none k at (inr w)))

-- the end of a body

fits-last : (p : TypedProgram) (n : ℕ) (g l : Bool) (all last : TypedStatements) → FitsStatements p n g l all → FitsStatements p n g l last
    → FitsStatements p n g l (with_last all last)
fits-last p n g l no_statements last h end = end
fits-last p n g l (more_statements s rest) last h end = (h.0, fits-last p n g l rest last h.1 end)

fits-closing : (p : TypedProgram) (n : ℕ) (is_main : Bool) (r : Option IntegerType) → (is_main ≡ true → is_some r ≡ true)
    → FitsStatements p n (is_some r) false (closing is_main r)
fits-closing p n true r h = ((sym (h refl), tt), tt)
fits-closing p n false None h = ((refl, tt), tt)
fits-closing p n false (Some k) h = tt

-- names at file scope are there in each function

wider : (p : TypedProgram) (n : ℕ) (m : Named) → IsThere p 0 m → IsThere p n m
wider p n (Local x k) h = absurd (omega (arith, h))
wider p n _ h = h

at-file : (p : TypedProgram) (n : ℕ) (m : Option Named) (i : Named) → ((j : Named) → m ≡ Some j → IsThere p 0 j) → hides m None ≡ Some i → IsThere p n i
at-file p n (Some j) i h e = wider p n i (h i e)
at-file p n None i h e = absurd (none-some _ e)

-- a declaration that may be `main`
int-result : (r : Option IntegerType) (x : Identifier) (ps : List Parameter) (body : Tree.Items)
    → (IsNotMain (Tree.function r x ps body) → ⊥) → r ≡ Some SignedInt
int-result (Some SignedInt) x ps body h = refl
int-result (Some UnsignedInt) x ps body h = absurd (h (inl (λ e. cc)))
int-result None x ps body h = absurd (h (inl (none-some _)))

-- a function, under the names at file scope and its own
fits-function : (p : TypedProgram) (text : List ℕ) (f : File) (r : Option IntegerType) (x : Identifier) (ps : List Parameter)
    (body : Tree.Items) (t : TypedStatements) → AreThere p 0 (after text f (Tree.function r x ps body)).names
    → TypesItems text (behind_parameters text (scopes_at (after text f (Tree.function r x ps body)).names) ps) body t
    → HasNone (FaultyDeclaration text f (Tree.function r x ps body)) → FitsFunction p (record {
      result = r;
      parameters = length ps;
      locals = (behind_items text (behind_parameters text (scopes_at (after text f (Tree.function r x ps body)).names) ps) body).locals;
      body = with_last t (closing (bytes_eq (spelling_in text x) main_name) r);
    })
fits-function p text f r x ps body t there typed none =
    let names = (after text f (Tree.function r x ps body)).names in
    let outer = scopes_at names in
    let inner = behind_parameters text outer ps in
    let n = (behind_items text inner body).locals in
    let faultless : HasNone (FaultyBody text names (Tree.function r x ps body)) = λ k at w. none k at (inr w) in
    let first : inner.locals ≡ 0 + length ps = behind-parameters text outer ps in
    let all : n ≡ inner.locals + declared_in_all body = behind-locals text inner body in
    let four : 0 + length ps ≤ 4 = parameters-fit text outer ps (omega arith) (λ k at w. faultless k at (inl w)) in
    let few : inner.locals + declared_in_all body ≤ 128 =
    all-locals-fit text (is_some r) false inner body (omega (arith, four, first)) (λ k at w. faultless k at (inr w)) in
    let outside : AreThere p n (named_in outer) = λ w m e. at-file p n (names w) m (there w) e in
    let inside : AreThere p n (named_in inner) = parameters-there p n text outer ps outside (omega (arith, first, all)) in
    let main : bytes_eq (spelling_in text x) main_name ≡ true
    → is_some r ≡ true = λ e. ap (λ (k : Option IntegerType). is_some k) (int-result r x ps body (λ w. none KindFault x.at (inl (other_main e w)))) in
    record {
      parameters = omega (arith, four);
      first = omega (arith, first, all);
      locals = omega (arith, few, all);
      body = fits-last p n (is_some r) false t (closing (bytes_eq (spelling_in text x) main_name) r)
          (fits-items p n (is_some r) false inside (omega (arith, all)) typed (λ k at w. faultless k at (inr w)))
          (fits-closing p n (bytes_eq (spelling_in text x) main_name) r main);
    }

-- the declarations, one after another

at-seam : {X : Type 0} (xs : List X) (y : X) (ys : List X) → slice_get (xs ++ y ∷ ys) (length xs) ≡ Some y
at-seam [] y ys = refl
at-seam (x ∷ xs) y ys = at-seam xs y ys

-- what stands before a declaration: as many functions and globals as were counted, and names of what is there
record IsAt (p : TypedProgram) (f : File) (rest : List TypedDeclaration) : Type 0 where
  functions : List TypedFunction
  are_functions : p.functions ≡ functions ++ functions_in rest
  functions_counted : length functions ≡ f.counts.functions
  globals : List Typed.Global
  are_globals : p.globals ≡ globals ++ globals_in rest
  globals_counted : length globals ≡ f.counts.globals
  names : AreThere p 0 f.names

named : (p : TypedProgram) (names : Bindings) (x : List ℕ) (m : Named) → AreThere p 0 names → IsThere p 0 m → AreThere p 0 (with_name names x m)
named p names x m h there w i e = by (bytes_eq x w) e
  where
    by : (b : Bool) → (if b then Some m else names w) ≡ Some i → IsThere p 0 i
    by true e = rw (← same_Some _ _ e) there
    by false e = h w i e

-- a declaration, with what stands before it
module _ {p : TypedProgram} where
  global-here : {f : File} {g : Typed.Global} {rest : List TypedDeclaration} → IsAt p f (a_global g ∷ rest) → f.counts.globals < length p.globals
  global-here {g = g} {rest = rest} h = rw h.are_globals (omega (arith, length-append h.globals (g ∷ globals_in rest), h.globals_counted))

  function-here : {f : File} {g : TypedFunction} {rest : List TypedDeclaration} → IsAt p f (a_function g ∷ rest)
      → slice_get p.functions f.counts.functions ≡ Some g
  function-here {g = g} {rest = rest} h = rw (h.are_functions, ← h.functions_counted) (at-seam h.functions g (functions_in rest))

  next-global : {f behind : File} {g : Typed.Global} {rest : List TypedDeclaration} → IsAt p f (a_global g ∷ rest)
      → behind.counts.functions ≡ f.counts.functions → behind.counts.globals ≡ suc f.counts.globals → AreThere p 0 behind.names → IsAt p behind rest
  next-global {g = g} {rest = rest} h functions globals names = record {
    functions = h.functions;
    are_functions = h.are_functions;
    functions_counted = h.functions_counted ∙ sym functions;
    globals = h.globals ++ g ∷ [];
    are_globals = h.are_globals ∙ sym (append_assoc h.globals (g ∷ []) (globals_in rest));
    globals_counted = omega (arith, length-append h.globals (g ∷ []), h.globals_counted, globals);
    names = names;
  }

module _ {p : TypedProgram} {text : List ℕ} where
  next : {f : File} {d : Tree.Declaration} {t : TypedDeclaration} {rest : List TypedDeclaration} → IsAt p f (t ∷ rest) → TypesDeclaration text f d t
      → IsAt p (after text f d) rest
  next {f = f} h (variable_typed {k = k} {x = x}) =
      next-global h refl refl (named p f.names (spelling_in text x) (Global f.counts.globals k) h.names (global-here h))
  next {f = f} h (array_typed {k = k} {x = x}) =
      next-global h refl refl (named p f.names (spelling_in text x) (Array f.counts.globals k) h.names (global-here h))
  next {f = f} {t = a_function t} {rest = rest} h (function_typed {r = r} {x = x} {ps = ps} typed) = record {
    functions = h.functions ++ t ∷ [];
    are_functions = h.are_functions ∙ sym (append_assoc h.functions (t ∷ []) (functions_in rest));
    functions_counted = omega (arith, length-append h.functions (t ∷ []), h.functions_counted);
    globals = h.globals;
    are_globals = h.are_globals;
    globals_counted = h.globals_counted;
    names = named p f.names (spelling_in text x) (Function f.counts.functions (length ps) (is_some r)) h.names (_, (function-here h, (refl, refl)));
  }

  first-fits : {f : File} {d : Tree.Declaration} {t : TypedDeclaration} (rest : List TypedDeclaration) → AreThere p 0 (after text f d).names
      → TypesDeclaration text f d t → HasNone (FaultyDeclaration text f d) → All (FitsFunction p) (functions_in rest)
      → All (FitsFunction p) (functions_in (t ∷ rest))
  first-fits rest there variable_typed none h = h
  first-fits rest there array_typed none h = h
  first-fits {f = f} rest there (function_typed {r = r} {x = x} {ps = ps} {body = body} {typed = t} typed) none h =
      All-cons (FitsFunction p) _ (functions_in rest) (fits-function p text f r x ps body t there typed none) h

  functions-fit : {f : File} {ds : List Tree.Declaration} {ts : List TypedDeclaration} → IsAt p f ts → TypesDeclarations text f ds ts
      → HasNone (FaultyDeclarations text f ds) → All (FitsFunction p) (functions_in ts)
  functions-fit h all_declared none = All-nil (FitsFunction p)
  functions-fit h (more_declared {typed = ts} one more) none =
      let after-it = next h one in
      first-fits ts after-it.names one (λ k at w. none k at (inl w)) (functions-fit after-it more (λ k at w. none k at (inr w)))

  names-there : {f : File} {ds : List Tree.Declaration} {ts : List TypedDeclaration} → IsAt p f ts → TypesDeclarations text f ds ts
      → AreThere p 0 (after_all text f ds).names
  names-there h all_declared = h.names
  names-there h (more_declared one more) = names-there (next h one) more

-- `main`, once it is declared, gives an `int`
abbrev GivesInt : TypedProgram → Bindings → Type 0
GivesInt p names = (n m : ℕ) (r : Bool) → names main_name ≡ Some (Function n m r) → (g : TypedFunction)
    × ((slice_get p.functions n ≡ Some g) × (g.result ≡ Some SignedInt))

abbrev IsFunction : TypedProgram → Named → Type 0
IsFunction p (Function n m r) = (g : TypedFunction) × ((slice_get p.functions n ≡ Some g) × (g.result ≡ Some SignedInt))
IsFunction p i = Unit {0}

named-main : (p : TypedProgram) (names : Bindings) (x : List ℕ) (i : Named) → GivesInt p names
    → (bytes_eq x main_name ≡ true → IsFunction p i) → GivesInt p (with_name names x i)
named-main p names x i h there n m r e = by (bytes_eq x main_name) refl e
  where
    by : (b : Bool) → bytes_eq x main_name ≡ b → (if b then Some i else names main_name) ≡ Some (Function n m r) → IsFunction p (Function n m r)
    by true q e = rw (same_Some _ _ e) at (there q)
    by false q e = h n m r e

module _ {p : TypedProgram} {text : List ℕ} where
  next-main : {f : File} {d : Tree.Declaration} {t : TypedDeclaration} {rest : List TypedDeclaration} → IsAt p f (t ∷ rest)
      → TypesDeclaration text f d t → HasNone (FaultyDeclaration text f d) → GivesInt p f.names → GivesInt p (after text f d).names
  next-main {f = f} at (variable_typed {k = k} {x = x}) none h =
      named-main p f.names (spelling_in text x) (Global f.counts.globals k) h (λ e. tt)
  next-main {f = f} at (array_typed {k = k} {x = x}) none h =
      named-main p f.names (spelling_in text x) (Array f.counts.globals k) h (λ e. tt)
  next-main {f = f} at (function_typed {r = r} {x = x} {ps = ps} {body = body} typed) none h =
      named-main p f.names (spelling_in text x) (Function f.counts.functions (length ps) (is_some r)) h
      (λ e. (_, (function-here at, int-result r x ps body (λ w. none KindFault x.at (inl (other_main e w))))))

  gives-int : {f : File} {ds : List Tree.Declaration} {ts : List TypedDeclaration} → IsAt p f ts → TypesDeclarations text f ds ts
      → HasNone (FaultyDeclarations text f ds) → GivesInt p f.names → GivesInt p (after_all text f ds).names
  gives-int at all_declared none h = h
  gives-int at (more_declared one more) none h = gives-int (next at one) more (λ k n w. none k n (inr w)) (next-main at one (λ k n w. none k n (inl w)) h)

-- the sizes
abbrev HasElement : Typed.Global → Type 0
HasElement g = 1 ≤ g.length

module _ {text : List ℕ} where
  globals-fit : {f : File} {ds : List Tree.Declaration} {ts : List TypedDeclaration} → TypesDeclarations text f ds ts
      → HasNone (FaultyDeclarations text f ds) → All HasElement (globals_in ts)
  globals-fit all_declared none = All-nil HasElement
  globals-fit (more_declared variable_typed more) none = All-cons HasElement _ _ (omega arith) (globals-fit more (λ k at w. none k at (inr w)))
  globals-fit (more_declared (array_typed {x = x} {n = n}) more) none =
      let some : n.value ≢ 0 = λ e. none KindFault x.at (inl (inl (array_of_nothing e))) in
      All-cons HasElement _ _ (omega (arith, some)) (globals-fit more (λ k at w. none k at (inr w)))
  globals-fit (more_declared (function_typed typed) more) none = globals-fit more (λ k at w. none k at (inr w))

  counted : {f : File} {ds : List Tree.Declaration} {ts : List TypedDeclaration} → TypesDeclarations text f ds ts
      → HasNone (FaultyDeclarations text f ds) → f.counts.functions ≤ 256 → f.counts.functions + length (functions_in ts) ≤ 256
  counted all_declared none few = omega (arith, few)
  counted (more_declared variable_typed more) none few = counted more (λ k at w. none k at (inr w)) few
  counted (more_declared array_typed more) none few = counted more (λ k at w. none k at (inr w)) few
  counted {f = f} (more_declared (function_typed {x = x} typed) more) none few =
      let other : f.counts.functions ≢ 256 = λ e. none Limit x.at (inl (inl (too_many_functions e))) in
      omega (arith, counted more (λ k at w. none k at (inr w)) (omega (arith, few, other)))

  words-fit : {f : File} {ds : List Tree.Declaration} {ts : List TypedDeclaration} → TypesDeclarations text f ds ts
      → HasNone (FaultyDeclarations text f ds) → f.counts.words ≤ 262144 → f.counts.words + words_in (globals_in ts) ≤ 262144
  words-fit all_declared none few = omega (arith, few)
  words-fit {f = f} (more_declared (variable_typed {x = x}) more) none few =
      let fits : 262144 < f.counts.words + 1 → ⊥ = λ l. none Limit x.at (inl (inl (too_many_words few l))) in
      omega (arith, words-fit more (λ k at w. none k at (inr w)) (omega (arith, fits)))
  words-fit {f = f} (more_declared (array_typed {w = w} {x = x} {n = n}) more) none few =
      let fits : 262144 < f.counts.words + words_of_elements w n.value → ⊥ = λ l. none Limit x.at (inl (inl (too_many_words few l))) in
      omega (arith, words-fit more (λ k at w. none k at (inr w)) (omega (arith, fits)))
  words-fit (more_declared (function_typed typed) more) none few = words-fit more (λ k at w. none k at (inr w)) few

-- the program

at-first : {p : TypedProgram} {ts : List TypedDeclaration} → p.functions ≡ functions_in ts → p.globals ≡ globals_in ts → IsAt p no_declarations ts
at-first {p = p} f g = record {
  functions = [];
  are_functions = f;
  functions_counted = refl;
  globals = [];
  are_globals = g;
  globals_counted = refl;
  names = named p nothing out_name Out (λ w m e. absurd (none-some _ e)) tt;
}

pub each-typed-program-is-well-formed : (p : TypedProgram) → IsTyped p → IsWellFormed p
each-typed-program-is-well-formed p h =
    let ts = h.types.declarations in
    let start : IsAt p no_declarations ts = at-first h.types.functions h.types.globals in
    let none : HasNone (FaultyDeclarations h.text no_declarations h.declarations) = λ k at w. h.faultless k at (inl w) in
    let main : IsThere p 0 (Function p.main 0 true) = names-there start h.types.typed main_name (Function p.main 0 true) h.types.entry in
    let none_yet : GivesInt p no_declarations.names = named-main p nothing out_name Out (λ n m r e. absurd (none-some _ e)) (λ e. tt) in
    let int = gives-int start h.types.typed none none_yet p.main 0 true h.types.entry in
    let f = h.types.functions in
    let g = h.types.globals in
    record {
      functions = All-same (FitsFunction p) p.functions (functions_in ts) f (functions-fit start h.types.typed none);
      functions_fit = rw f (omega (arith, counted h.types.typed none (omega arith)));
      globals = rw g (globals-fit h.types.typed none);
      words_fit = rw g (omega (arith, words-fit h.types.typed none (omega arith)));
      main = main.0;
      entry = main.1.0;
      alone = sym main.1.1.0;
      gives = ap (λ (g : TypedFunction). g.result) (same_Some main.0 int.0 (sym main.1.0 ∙ int.1.0)) ∙ int.1.1;
    }

functions-length : (fs : List Rust.Function) → length (functions_of fs) ≡ length fs
functions-length [] = refl
functions-length (f ∷ fs) = ap suc (functions-length fs)

pub main-there : (p : TypedParts) → IsTyped (program_of p) → p.main < length p.functions
main-there p h =
    let w = each-typed-program-is-well-formed (program_of p) h in
    omega (arith, slice_get_within (functions_of p.functions) p.main w.main w.entry, functions-length p.functions)
