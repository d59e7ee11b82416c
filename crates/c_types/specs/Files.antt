-- What the walk over the declarations keeps.
use Rattle.std.specs.Prelude.{length, [], ◌∷◌, ◌++◌, ◌≡◌, ◌+◌, ◌<◌, ◌≤◌, ◌⊎◌, ℕ, List, Bool, true, false, nat_eq}
use Rattle.std.specs.Prelude.{bytes_eq}
use Rattle.c_tree.specs.Tree.{Declaration, variable, array, function}
use Rattle.c_tree.specs.Shape.{items_of}
use Rattle.words.specs.Widths.{words_of_elements}
use Rattle.c_typed.specs.declared.limits.TheConstants.{MAX_FUNCTIONS, MAX_GLOBAL_WORDS}
use Rattle.c_statements.specs.declared.symbol_table.Scopes.{Scopes}
use Rattle.c_statements.specs.Shape.{scopes_of}
use Rattle.c_types.specs.declared.declaration.Tally.{Tally}
use Rattle.c_tree.specs.declared.tree.FunctionDefinition.{FunctionDefinition}
use Rattle.c_statements.specs.Names as Names
use Rattle.c_statements.specs.Names.{Bindings, spelling_in, behind_items}
use Rattle.c_typed.specs.Shape.{function_of, functions_of}
use Rattle.c_typed.specs.Trees.{TypedFunction, TypedStatements}
use Rattle.c_statements.specs.Types.{TypesItems}
use Rattle.c_types.specs.Programs.{Counts, File, IsNotMain, main_name, name_of, scopes_at, behind_parameters, closing, with_last}
use Rattle.c_types.specs.Programs.{TypedDeclaration, a_global, a_function, TypesDeclarations, no_declarations, functions_in, globals_in}
use Rattle.c_types.specs.declared.program.Declared.{Declared}
use Rattle.c_types.specs.declared.program.Declared.TheVariants.{Variable, Function}
use Rattle.c_types.specs.declared.program.Parts.{Parts}

abbrev pub counts_of : Tally → Counts
counts_of t = record { globals = t.globals; functions = t.functions; words = t.words }

abbrev pub file_of : Scopes → Tally → File
file_of f t = record { names = (scopes_of f).inner; counts = counts_of t }

-- the 257th function, or the global with which the words are exceeded
abbrev pub Exceeds : Counts → Declaration → Type 0
Exceeds n (variable k x i) = (n.words ≤ MAX_GLOBAL_WORDS) × (MAX_GLOBAL_WORDS < n.words + 1)
Exceeds n (array w k x l) = (n.words ≤ MAX_GLOBAL_WORDS) × (MAX_GLOBAL_WORDS < n.words + words_of_elements w l.value)
Exceeds n (function r x ps body) = n.functions ≡ MAX_FUNCTIONS

abbrev pub is_array_of_nothing : Declaration → Bool
is_array_of_nothing (variable k x i) = false
is_array_of_nothing (array w k x n) = nat_eq n.value 0
is_array_of_nothing (function r x ps body) = false

-- a `main` that isn't `int main(void)`, or an array of length 0
abbrev pub IsOtherKind : List ℕ → Declaration → Type 0
IsOtherKind text d = (is_array_of_nothing d ≡ true) ⊎ ((bytes_eq (spelling_in text (name_of d)) main_name ≡ true) × IsNotMain d)

-- at file scope, with these names
abbrev pub file_scopes : Bindings → Names.Scopes
file_scopes names = record { inner = names; around = []; locals = 0 }

-- what a function at file scope comes to, under the names there
pub record IsFunction (text : List ℕ) (names : Bindings) (f : FunctionDefinition) (t : TypedFunction) : Type 0 where
  pub typed : TypedStatements
  pub types : TypesItems text (behind_parameters text (scopes_at names) f.parameters.items) (items_of f.body.items) typed
  pub is : t ≡ record {
    result = f.result;
    parameters = length f.parameters.items;
    locals = (behind_items text (behind_parameters text (scopes_at names) f.parameters.items) (items_of f.body.items)).locals;
    body = with_last typed (closing (bytes_eq (spelling_in text f.name) main_name) f.result);
  }

abbrev pub declared_of : Declared → TypedDeclaration
declared_of (Variable g) = a_global g
declared_of (Function f) = a_function (function_of f)

-- the functions and the globals of these declarations
pub record AreParts (p : Parts) (all : List TypedDeclaration) : Type 0 where
  pub functions : functions_of p.functions.items ≡ functions_in all
  pub globals : p.globals.items ≡ globals_in all

-- parts with one declaration more
abbrev pub HasDeclared : Parts × Declared → Parts → Type 0
HasDeclared (old, more) r = (all : List TypedDeclaration) → AreParts old all → AreParts r (all ++ declared_of more ∷ [])

-- what these declarations come to
pub record AreTyped (text : List ℕ) (all : List Declaration) (p : Parts) : Type 0 where
  pub declarations : List TypedDeclaration
  pub typed : TypesDeclarations text no_declarations all declarations
  pub parts : AreParts p declarations
