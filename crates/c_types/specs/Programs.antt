-- The faults of a program, and which typed program it has (C99 6.9, 5.1.2.2.1).
use Rattle.std.specs.Prelude.{◌≡◌, ◌≢◌, ◌⊎◌, ◌+◌, ◌<◌, ◌≤◌, ◌-◌, ◌%◌, ◌^◌, ℕ, suc, List, [], ◌∷◌, Option, Some, None, Bool, true, false}
use Rattle.std.specs.Prelude.{length, is_some, if◌then◌else◌, bytes_eq}
use Rattle.c_tokens.specs.declared.token.Identifier.{Identifier}
use Rattle.c_tokens.specs.declared.token.IntegerType.{IntegerType}
use Rattle.c_tokens.specs.declared.token.IntegerType.TheVariants.{SignedInt}
use Rattle.c_tokens.specs.declared.token.Literal.{Literal}
use Rattle.words.specs.declared.width.Width.{Width}
use Rattle.words.specs.declared.width.Width.TheVariants.{Word}
use Rattle.words.specs.Widths.{words_of_elements}
use Rattle.c_tree.specs.declared.tree.Initial.{Initial}
use Rattle.c_tree.specs.declared.tree.Parameter.{Parameter}
use Rattle.c_tree.specs.Tree.{Declaration, variable, array, function, Items}
use Rattle.c_typed.specs.declared.limits.TheConstants.{MAX_FUNCTIONS, MAX_GLOBAL_WORDS, MAX_PARAMETERS}
use Rattle.c_statements.specs.declared.fault.TypeFaultKind.{TypeFaultKind}
use Rattle.c_statements.specs.declared.fault.TypeFaultKind.TheVariants.{Redeclared, Kind as KindFault, Count, NoMain, Limit}
use Rattle.c_statements.specs.declared.names.Named.{Named}
use Rattle.c_statements.specs.declared.names.Named.TheVariants.{Global, Array, Function, Out}
use Rattle.c_typed.specs.declared.tree.Global as Typed
use Rattle.c_statements.specs.Names.{Bindings, Scopes, spelling_in, nothing, with_name, with_local, behind_items}
use Rattle.c_statements.specs.Statements.{FaultyDeclarator, FaultyItems}
use Rattle.c_typed.specs.Trees.{TypedFunction, TypedStatements, TypedProgram, no_statements, more_statements, return_with, constant}
use Rattle.c_statements.specs.Types.{TypesItems}

-- the bytes of `main` and of `out`
abbrev pub main_name : List ℕ
main_name = 109 ∷ 97 ∷ 105 ∷ 110 ∷ []

abbrev pub out_name : List ℕ
out_name = 111 ∷ 117 ∷ 116 ∷ []

-- how many globals and functions are declared so far, and how many words the globals have together
pub record Counts : Type 0 where
  pub globals : ℕ
  pub functions : ℕ
  pub words : ℕ

-- what stands at file scope so far
pub record File : Type 0 where
  pub names : Bindings
  pub counts : Counts

-- `out` is declared at file scope
abbrev pub no_declarations : File
no_declarations = record { names = with_name nothing out_name Out; counts = record { globals = 0; functions = 0; words = 0 } }

abbrev pub name_of : Declaration → Identifier
name_of (variable k x i) = x
name_of (array w k x n) = x
name_of (function r x ps body) = x

-- the words that a declaration takes of those for globals: four bytes of an array are one, and so are those that are left
abbrev pub words_of : Declaration → ℕ
words_of (variable k x i) = 1
words_of (array w k x n) = words_of_elements w n.value
words_of (function r x ps body) = 0

abbrev pub named_by : Counts → Declaration → Named
named_by n (variable k x i) = Global n.globals k
named_by n (array w k x l) = Array n.globals k
named_by n (function r x ps body) = Function n.functions (length ps) (is_some r)

abbrev pub counts_after : Counts → Declaration → Counts
counts_after n (variable k x i) = record { globals = suc n.globals; functions = n.functions; words = n.words + 1 }
counts_after n (array w k x l) = record { globals = suc n.globals; functions = n.functions; words = n.words + words_of_elements w l.value }
counts_after n (function r x ps body) = record { globals = n.globals; functions = suc n.functions; words = n.words }

abbrev pub after : List ℕ → File → Declaration → File
after text f d = record { names = with_name f.names (spelling_in text (name_of d)) (named_by f.counts d); counts = counts_after f.counts d }

abbrev pub after_all : List ℕ → File → List Declaration → File
after_all text f [] = f
after_all text f (d ∷ rest) = after_all text (after text f d) rest

-- a declaration that isn't `int main(void)`
abbrev pub IsNotMain : Declaration → Type 0
IsNotMain (variable k x i) = Unit {0}
IsNotMain (array w k x n) = Unit {0}
IsNotMain (function r x ps body) = (r ≢ Some SignedInt) ⊎ (ps ≢ [])

-- what is wrong with the name that is declared at file scope, at that name. Too many words are told at the global with which the globals
-- exceed 262,144
pub data FaultyName (text : List ℕ) (f : File) : Declaration → TypeFaultKind → ℕ → Type 0 where
  declared_again : {d : Declaration} → f.names (spelling_in text (name_of d)) ≢ None → FaultyName text f d Redeclared (name_of d).at
  other_main : {d : Declaration} → bytes_eq (spelling_in text (name_of d)) main_name ≡ true → IsNotMain d
      → FaultyName text f d KindFault (name_of d).at
  array_of_nothing : {w : Width} {k : IntegerType} {x : Identifier} {n : Literal} → n.value ≡ 0
      → FaultyName text f (array w k x n) KindFault x.at
  too_many_words : {d : Declaration} → f.counts.words ≤ MAX_GLOBAL_WORDS → MAX_GLOBAL_WORDS < f.counts.words + words_of d
      → FaultyName text f d Limit (name_of d).at
  too_many_functions : {r : Option IntegerType} {x : Identifier} {ps : List Parameter} {body : Items} → f.counts.functions ≡ MAX_FUNCTIONS →
      FaultyName text f (function r x ps body) Limit x.at

-- the fifth parameter
abbrev pub IsFifth : Scopes → Identifier → TypeFaultKind → ℕ → Type 0
IsFifth sc x k at = (sc.locals ≡ MAX_PARAMETERS) × ((k ≡ Count) × (at ≡ x.at))

-- a declarator in the function's outermost scope, and the fifth parameter
pub data FaultyParameter (text : List ℕ) (sc : Scopes) (x : Identifier) : TypeFaultKind → ℕ → Type 0 where
  faulty_declarator : {k : TypeFaultKind} {at : ℕ} → FaultyDeclarator text sc x k at → FaultyParameter text sc x k at
  fifth_parameter : {k : TypeFaultKind} {at : ℕ} → IsFifth sc x k at → FaultyParameter text sc x k at

abbrev pub FaultyParameters : List ℕ → Scopes → List Parameter → TypeFaultKind → ℕ → Type 0
FaultyParameters text sc [] k at = ⊥
FaultyParameters text sc (p ∷ rest) k at = FaultyParameter text sc p.name k at
    ⊎ FaultyParameters text (with_local text sc p.integer_type p.name) rest k at

abbrev pub behind_parameters : List ℕ → Scopes → List Parameter → Scopes
behind_parameters text sc [] = sc
behind_parameters text sc (p ∷ rest) = behind_parameters text (with_local text sc p.integer_type p.name) rest

-- the scopes at a function's parameters: its own, and that of the file, which has its name already
abbrev pub scopes_at : Bindings → Scopes
scopes_at names = record { inner = nothing; around = names ∷ []; locals = 0 }

abbrev pub FaultyBody : List ℕ → Bindings → Declaration → TypeFaultKind → ℕ → Type 0
FaultyBody text names (variable integer_type x i) k at = ⊥
FaultyBody text names (array w integer_type x n) k at = ⊥
FaultyBody text names (function r x ps body) k at =
    FaultyParameters text (scopes_at names) ps k at
    ⊎ FaultyItems text (is_some r) false (behind_parameters text (scopes_at names) ps) body k at

abbrev pub FaultyDeclaration : List ℕ → File → Declaration → TypeFaultKind → ℕ → Type 0
FaultyDeclaration text f d k at = FaultyName text f d k at ⊎ FaultyBody text (after text f d).names d k at

abbrev pub FaultyDeclarations : List ℕ → File → List Declaration → TypeFaultKind → ℕ → Type 0
FaultyDeclarations text f [] k at = ⊥
FaultyDeclarations text f (d ∷ rest) k at = FaultyDeclaration text f d k at ⊎ FaultyDeclarations text (after text f d) rest k at

-- a program in which no declaration is named `main`
pub data LacksMain (text : List ℕ) (names : Bindings) : TypeFaultKind → ℕ → Type 0 where
  no_main : names main_name ≡ None → LacksMain text names NoMain (length text)

abbrev pub FaultyProgram : List ℕ → List Declaration → TypeFaultKind → ℕ → Type 0
FaultyProgram text all k at = FaultyDeclarations text no_declarations all k at
    ⊎ LacksMain text (after_all text no_declarations all).names k at

-- the word of a first value
abbrev pub first_word : Option Initial → ℕ
first_word None = 0
first_word (Some i) = if i.negative then (2 ^ 32 - i.literal.value) % 2 ^ 32 else i.literal.value

abbrev pub with_last : TypedStatements → TypedStatements → TypedStatements
with_last no_statements last = last
with_last (more_statements s rest) last = more_statements s (with_last rest last)

-- the constant 0
abbrev pub zero_literal : Literal
zero_literal = record { value = 0; integer_type = SignedInt }

-- what the end brace does (C99 5.1.2.2.3, 6.9.1): `main` returns 0, a function without result returns
abbrev pub closing : (is_main : Bool) → Option IntegerType → TypedStatements
closing true r = more_statements (return_with (Some (constant zero_literal))) no_statements
closing false None = more_statements (return_with None) no_statements
closing false (Some k) = no_statements

-- what a declaration at file scope comes to
pub data TypedDeclaration : Type 0 where
  a_global : Typed.Global → TypedDeclaration
  a_function : TypedFunction → TypedDeclaration

pub data TypesDeclaration (text : List ℕ) (f : File) : Declaration → TypedDeclaration → Type 0 where
  variable_typed : {k : IntegerType} {x : Identifier} {i : Option Initial}
      → TypesDeclaration text f (variable k x i) (a_global (record { width = Word; length = 1; first = first_word i }))
  array_typed : {w : Width} {k : IntegerType} {x : Identifier} {n : Literal}
      → TypesDeclaration text f (array w k x n) (a_global (record { width = w; length = n.value; first = 0 }))
  function_typed : {r : Option IntegerType} {x : Identifier} {ps : List Parameter} {body : Items} {typed : TypedStatements} →
      TypesItems text (behind_parameters text (scopes_at (after text f (function r x ps body)).names) ps) body typed →
      TypesDeclaration text f (function r x ps body) (a_function (record {
        result = r;
        parameters = length ps;
        locals = (behind_items text (behind_parameters text (scopes_at (after text f (function r x ps body)).names) ps) body).locals;
        body = with_last typed (closing (bytes_eq (spelling_in text x) main_name) r);
      }))

pub data TypesDeclarations (text : List ℕ) : File → List Declaration → List TypedDeclaration → Type 0 where
  all_declared : {f : File} → TypesDeclarations text f [] []
  more_declared : {f : File} {d : Declaration} {t : TypedDeclaration} {rest : List Declaration} {typed : List TypedDeclaration} →
      TypesDeclaration text f d t → TypesDeclarations text (after text f d) rest typed → TypesDeclarations text f (d ∷ rest) (t ∷ typed)

abbrev pub functions_in : List TypedDeclaration → List TypedFunction
functions_in [] = []
functions_in (a_global g ∷ rest) = functions_in rest
functions_in (a_function f ∷ rest) = f ∷ functions_in rest

abbrev pub globals_in : List TypedDeclaration → List Typed.Global
globals_in [] = []
globals_in (a_global g ∷ rest) = g ∷ globals_in rest
globals_in (a_function f ∷ rest) = globals_in rest

-- the typed program of the declarations that a text spells
pub record TypesProgram (text : List ℕ) (all : List Declaration) (program : TypedProgram) : Type 0 where
  pub declarations : List TypedDeclaration
  pub typed : TypesDeclarations text no_declarations all declarations
  pub functions : program.functions ≡ functions_in declarations
  pub globals : program.globals ≡ globals_in declarations
  pub entry : (after_all text no_declarations all).names main_name ≡ Some (Function program.main 0 true)
