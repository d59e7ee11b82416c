-- Declarations at file scope with one more at the end.
use Rattle.std.proofs.Common.{◌≡◌, ◌⊎◌, ◌+◌, ◌<◌, ◌≤◌, arith, ℕ, List, [], ◌∷◌, ◌++◌, length, get_or, take, Result, Ok, IfOk, IfErr}
use Rattle.std.proofs.Common.{inl, inr, refl, sym, ap, ◌∙◌, append-nil}
use Rattle.std.proofs.lemmas.List.{take_more}
use Rattle.c_tree.specs.declared.tree.Declaration.{Declaration}
use Rattle.c_tree.specs.declared.tree.Declaration.TheVariants.{Function as Define}
use Rattle.c_tree.specs.declared.tree.FunctionDefinition.{FunctionDefinition}
use Rattle.c_tree.specs.Shape.{declaration_of, declarations_of}
use Rattle.c_tree.specs.Tree as Tree
use Rattle.c_tokens.specs.declared.token.Identifier.{Identifier}
use Rattle.c_statements.specs.declared.fault.TypeFaultKind.{TypeFaultKind}
use Rattle.c_statements.specs.declared.fault.TypeStop.{TypeStop}
use Rattle.c_statements.specs.declared.names.Named.{Named}
use Rattle.c_typed.specs.declared.tree.Function as OneFunction
use Rattle.c_typed.specs.declared.tree.Global as OneGlobal
use Rattle.c_statements.specs.Faults.{Answers, both_of}
use Rattle.c_statements.specs.Made.{MadeOf, Stops}
use Rattle.c_statements.specs.Names.{Bindings, Scopes, with_declared}
use Rattle.c_typed.specs.Shape.{function_of, functions_of}
use Rattle.c_typed.specs.Trees.{TypedFunction}
use Rattle.c_statements.proofs.Joins.{answers-both, answers-made, answers-same}
use Rattle.c_types.specs.declared.program.Declared.{Declared}
use Rattle.c_types.specs.declared.program.Declared.TheVariants.{Function}
use Rattle.c_types.specs.declared.program.Parts.{Parts}
use Rattle.c_types.specs.Files.{AreParts, AreTyped, HasDeclared, IsFunction, declared_of}
use Rattle.c_types.specs.Programs.{Counts, File, FaultyBody, FaultyDeclaration, FaultyDeclarations, FaultyName, TypedDeclaration}
use Rattle.c_types.specs.Programs.{TypesDeclaration, TypesDeclarations, a_function, a_global, after, after_all, all_declared}
use Rattle.c_types.specs.Programs.{function_typed, functions_in, globals_in, more_declared, name_of, named_by, counts_after}
use Rattle.c_types.specs.Programs.{no_declarations}

-- a function under the names that its own name is among
pub function-typed : (text : List ℕ) (f : File) (names : Bindings) (d : FunctionDefinition) (t : TypedFunction)
    → (after text f (declaration_of (Define d))).names ≡ names → IsFunction text names d t → TypesDeclaration text f (declaration_of (Define d)) (a_function t)
function-typed text f names d t e h = let l = rw (← e) at h in rw l.is (function_typed l.types)

-- the name of a declaration and what follows it together
pub declaration-told : {A B : Type 0} {P : A → Type 0} {Q : B → Type 0} {text : List ℕ} {f : File} {d : Tree.Declaration} {x : Identifier} {m : Named}
    {old new : Scopes} {a : Result A TypeStop} {b : Result B TypeStop} → old.inner ≡ f.names → new ≡ with_declared text old x m → x ≡ name_of d
    → m ≡ named_by f.counts d → Answers P (FaultyName text f d) a → Answers Q (FaultyBody text new.inner d) b
    → Answers (λ z. P z.0 × Q z.1) (FaultyDeclaration text f d) (both_of a b)
declaration-told {text = text} {f = f} {d = d} {new = new} o e i j h l =
    let there : new.inner ≡ (after text f d).names = rw (e, i, j, o) in answers-both h (rw there at l)

functions-append : (xs : List OneFunction.Function) (f : OneFunction.Function) → functions_of (xs ++ f ∷ []) ≡ functions_of xs ++ function_of f ∷ []
functions-append [] f = refl
functions-append (x ∷ xs) f = ap (λ ys. function_of x ∷ ys) (functions-append xs f)

functions-in : (xs : List TypedDeclaration) (t : TypedDeclaration) → functions_in (xs ++ t ∷ []) ≡ functions_in xs ++ functions_in (t ∷ [])
functions-in [] t = refl
functions-in (a_global g ∷ xs) t = functions-in xs t
functions-in (a_function f ∷ xs) t = ap (λ ys. f ∷ ys) (functions-in xs t)

globals-in : (xs : List TypedDeclaration) (t : TypedDeclaration) → globals_in (xs ++ t ∷ []) ≡ globals_in xs ++ globals_in (t ∷ [])
globals-in [] t = refl
globals-in (a_global g ∷ xs) t = ap (λ ys. g ∷ ys) (globals-in xs t)
globals-in (a_function f ∷ xs) t = globals-in xs t

pub with-global : (old new : Parts) (g : OneGlobal.Global) (all : List TypedDeclaration) → new.functions ≡ old.functions
    → new.globals.items ≡ old.globals.items ++ g ∷ [] → AreParts old all → AreParts new (all ++ a_global g ∷ [])
with-global old new g all e i h = record {
  functions = ap (λ v. functions_of v.items) e ∙ h.functions ∙ sym (append-nil (functions_in all)) ∙ sym (functions-in all (a_global g));
  globals = i ∙ ap (λ ys. ys ++ g ∷ []) h.globals ∙ sym (globals-in all (a_global g));
}

pub with-function : (old new : Parts) (f : OneFunction.Function) (all : List TypedDeclaration) → new.globals ≡ old.globals
    → new.functions.items ≡ old.functions.items ++ f ∷ [] → AreParts old all → AreParts new (all ++ a_function (function_of f) ∷ [])
with-function old new f all e i h = record {
  functions = ap functions_of i ∙ functions-append old.functions.items f ∙ ap (λ ys. ys ++ function_of f ∷ []) h.functions
      ∙ sym (functions-in all (a_function (function_of f)));
  globals = ap (λ v. v.items) e ∙ h.globals ∙ sym (append-nil (globals_in all)) ∙ sym (globals-in all (a_function (function_of f)));
}

declarations-append : (xs : List Declaration) (d : Declaration) → declarations_of (xs ++ d ∷ []) ≡ declarations_of xs ++ declaration_of d ∷ []
declarations-append [] d = refl
declarations-append (x ∷ xs) d = ap (λ ys. declaration_of x ∷ ys) (declarations-append xs d)

after-append : (text : List ℕ) (f : File) (xs : List Tree.Declaration) (d : Tree.Declaration)
    → after_all text f (xs ++ d ∷ []) ≡ after text (after_all text f xs) d
after-append text f [] d = refl
after-append text f (x ∷ xs) d = after-append text (after text f x) xs d

faulty-to : (text : List ℕ) (f : File) (xs : List Tree.Declaration) (d : Tree.Declaration) (k : TypeFaultKind) (at : ℕ)
    → FaultyDeclarations text f xs k at ⊎ FaultyDeclaration text (after_all text f xs) d k at → FaultyDeclarations text f (xs ++ d ∷ []) k at
faulty-to text f [] d k at (inl h) = absurd h
faulty-to text f [] d k at (inr h) = inl h
faulty-to text f (x ∷ xs) d k at (inl (inl h)) = inl h
faulty-to text f (x ∷ xs) d k at (inl (inr h)) = inr (faulty-to text (after text f x) xs d k at (inl h))
faulty-to text f (x ∷ xs) d k at (inr h) = inr (faulty-to text (after text f x) xs d k at (inr h))

faulty-from : (text : List ℕ) (f : File) (xs : List Tree.Declaration) (d : Tree.Declaration) (k : TypeFaultKind) (at : ℕ)
    → FaultyDeclarations text f (xs ++ d ∷ []) k at → FaultyDeclarations text f xs k at ⊎ FaultyDeclaration text (after_all text f xs) d k at
faulty-from text f [] d k at (inl h) = inr h
faulty-from text f [] d k at (inr h) = absurd h
faulty-from text f (x ∷ xs) d k at (inl h) = inl (inl h)
faulty-from text f (x ∷ xs) d k at (inr h) = elim (faulty-from text (after text f x) xs d k at h) [ inl l ↦ inl (inr l) | inr r ↦ inr r ]

typed-append : {text : List ℕ} {f : File} {xs : List Tree.Declaration} {ts : List TypedDeclaration} {d : Tree.Declaration}
    {t : TypedDeclaration} → TypesDeclarations text f xs ts → TypesDeclaration text (after_all text f xs) d t
    → TypesDeclarations text f (xs ++ d ∷ []) (ts ++ t ∷ [])
typed-append all_declared h = more_declared h all_declared
typed-append (more_declared l rest) h = more_declared l (typed-append rest h)

-- the answer for the declarations so far
abbrev pub SoFar : List ℕ → List Declaration → Result Parts TypeStop → Type 0
SoFar text ds r = Answers (AreTyped text (declarations_of ds)) (FaultyDeclarations text no_declarations (declarations_of ds)) r

next-of : (all : List Declaration) (i : ℕ) (x : Declaration) → i < length all → x ≡ get_or all i x
    → declarations_of (take (i + 1) all) ≡ declarations_of (take i all) ++ declaration_of x ∷ []
next-of all i x l is = ap declarations_of (take_more all i x l ∙ ap (λ (y : Declaration). take i all ++ y ∷ []) (sym is)) ∙ declarations-append (take i all) x

pub one-so-far : (text : List ℕ) (all : List Declaration) (i : ℕ) (x : Declaration) {typed r : Result Parts TypeStop} {one : Result Declared TypeStop}
    → i < length all → x ≡ get_or all i x → SoFar text (take i all) typed
    → Answers (λ t. TypesDeclaration text (after_all text no_declarations (declarations_of (take i all))) (declaration_of x)
    (declared_of t)) (FaultyDeclaration text (after_all text no_declarations (declarations_of (take i all))) (declaration_of x)) one
    → IfOk r (MadeOf (both_of typed one) HasDeclared) → IfErr r (Stops (both_of typed one)) → SoFar text (take (i + 1) all) r
one-so-far text all i x l is h one made stops =
    let before = declarations_of (take i all) in
    let d = declaration_of x in
    rw (next-of all i x l is) (answers-same (record { to = faulty-to text no_declarations before d; from = faulty-from text no_declarations before d })
    (answers-made HasDeclared (answers-both h one) made stops (λ z r p e. record {
      declarations = p.0.declarations ++ declared_of z.1 ∷ [];
      typed = typed-append p.0.typed p.1;
      parts = e p.0.declarations p.0.parts;
    })))

pub after-more : (text : List ℕ) (all : List Declaration) (i : ℕ) (x : Declaration) → i < length all → x ≡ get_or all i x
    → after text (after_all text no_declarations (declarations_of (take i all))) (declaration_of x) ≡ after_all text no_declarations
    (declarations_of (take (i + 1) all))
after-more text all i x l is =
    sym (ap (after_all text no_declarations) (next-of all i x l is) ∙ after-append text no_declarations (declarations_of (take i all)) (declaration_of x))

pub none-so-far : (text : List ℕ) (p : Parts) → p.functions.items ≡ [] → p.globals.items ≡ [] → SoFar text [] (Ok p)
none-so-far text p e f =
    record { ok = record { declarations = []; typed = all_declared; parts = record { functions = ap functions_of e; globals = f } }; none = λ k at h. h; err = tt }

pub globals-grow : (n : Counts) (d : Tree.Declaration) → (counts_after n d).globals ≤ n.globals + 1
globals-grow n (Tree.variable k x i) = omega arith
globals-grow n _ = omega arith

pub functions-grow : (n : Counts) (d : Tree.Declaration) → (counts_after n d).functions ≤ n.functions + 1
functions-grow n (Tree.variable k x i) = omega arith
functions-grow n _ = omega arith
