-- The meaning of `main` in a program without faults.
use Rattle.std.proofs.Common.{◌≡◌, ◌⊎◌, ℕ, List, [], ◌∷◌, length, Bool, true, false, Option, Some, None, inl, inr, refl, sym}
use Rattle.std.proofs.Common.{ap, ◌∙◌, arith, Result}
use Rattle.std.specs.Prelude.{bytes_eq, if◌then◌else◌}
use Rattle.std.proofs.lemmas.Option.{none-some}
use Rattle.c_tree.specs.Tree as Tree
use Rattle.c_tokens.specs.declared.token.IntegerType.TheVariants.{SignedInt, UnsignedInt}
use Rattle.c_statements.specs.declared.fault.TypeFaultKind.TheVariants.{NoMain}
use Rattle.c_statements.specs.declared.names.Named.{Named}
use Rattle.c_statements.specs.declared.names.Named.TheVariants.{Function}
use Rattle.c_statements.specs.declared.fault.TypeStop.{TypeStop}
use Rattle.c_statements.specs.Faults.{Answers, HasNone, IsFirstFault, IsNoLater, both_of}
use Rattle.c_typed.specs.Shape.{functions_of}
use Rattle.c_statements.specs.Names.{Bindings, spelling_in}
use Rattle.c_statements.proofs.Joins.{answers-both}
use Rattle.c_types.specs.declared.program.Parts.{Parts}
use Rattle.c_types.specs.Files.{AreTyped}
use Rattle.c_types.specs.Programs.{File, FaultyDeclarations, FaultyName, FaultyProgram, IsNotMain, LacksMain, TypesProgram, after}
use Rattle.c_types.specs.Programs.{after_all, main_name, name_of, named_by, no_declarations, no_main, other_main}

-- `main` isn't declared yet, or is a function without parameters that gives a result
abbrev pub IsMainOr : Bindings → Type 0
IsMainOr names = (names main_name ≡ None) ⊎ ((n : ℕ) × (names main_name ≡ Some (Function n 0 true)))

is-main : (f : File) (d : Tree.Declaration) → (IsNotMain d → ⊥) → (n : ℕ) × (named_by f.counts d ≡ Function n 0 true)
is-main f (Tree.function None x ps body) h = absurd (h (inl (λ e. none-some _ e)))
is-main f (Tree.function (Some UnsignedInt) x ps body) h = absurd (h (inl (λ e. cc)))
is-main f (Tree.function (Some SignedInt) x [] body) h = (f.counts.functions, refl)
is-main f (Tree.function (Some SignedInt) x (p ∷ ps) body) h = absurd (h (inr (λ e. cc)))
is-main f _ h = absurd (h tt)

step-by : (text : List ℕ) (f : File) (d : Tree.Declaration) (b : Bool) → bytes_eq (spelling_in text (name_of d)) main_name ≡ b
    → IsMainOr f.names → HasNone (FaultyName text f d)
    → ((if b then Some (named_by f.counts d) else f.names main_name) ≡ None) ⊎
    ((n : ℕ) × ((if b then Some (named_by f.counts d) else f.names main_name) ≡ Some (Function n 0 true)))
step-by text f d true e h n = let m = is-main f d (λ w. n _ _ (other_main e w)) in inr (m.0, ap (λ (x : Named). Some x) m.1)
step-by text f d false e h n = h

step : (text : List ℕ) (f : File) (d : Tree.Declaration) → IsMainOr f.names → HasNone (FaultyName text f d) → IsMainOr (after text f d).names
step text f d h n = step-by text f d (bytes_eq (spelling_in text (name_of d)) main_name) refl h n

all : (text : List ℕ) (f : File) (ds : List Tree.Declaration) → IsMainOr f.names → HasNone (FaultyDeclarations text f ds) → IsMainOr (after_all text f ds).names
all text f [] h n = h
all text f (d ∷ rest) h n = all text (after text f d) rest (step text f d h (λ k at w. n k at (inl (inl w)))) (λ k at w. n k at (inr w))

pub main-is : (text : List ℕ) (ds : List Tree.Declaration) {names : Bindings} → names ≡ (after_all text no_declarations ds).names
    → HasNone (FaultyProgram text ds) → (n : ℕ) × (names main_name ≡ Some (Function n 0 true))
main-is text ds e none = rw e
    (elim (all text no_declarations ds (inl refl) (λ k at w. none k at (inl w))) [ inl x ↦ absurd (none _ _ (inr (no_main x))) | inr y ↦ y ])

pub no-main-first : (text : List ℕ) (names : Bindings) (at : ℕ) → at ≡ length text → names main_name ≡ None → IsFirstFault (LacksMain text names) NoMain at
no-main-first text names at e h = rw e (record { has = no_main h; first = λ j n w. least w })
  where
    least : {j : _} {n : ℕ} → LacksMain text names j n → IsNoLater NoMain (length text) j n
    least (no_main x) = inr (refl, omega arith)

-- the declarations and `main` together
pub program-told : {A B : Type 0} {P : A → Type 0} {Q : B → Type 0} (text : List ℕ) (ds : List Tree.Declaration) {names : Bindings}
    {a : Result A TypeStop} {b : Result B TypeStop} → names ≡ (after_all text no_declarations ds).names
    → Answers P (FaultyDeclarations text no_declarations ds) a → Answers Q (LacksMain text names) b
    → Answers (λ z. P z.0 × Q z.1) (FaultyProgram text ds) (both_of a b)
program-told text ds e h l = answers-both h (rw e at l)

pub typed-program : (text : List ℕ) (ds : List Tree.Declaration) (names : Bindings) (p : Parts) (m : ℕ) (found : Option Named)
    → AreTyped text ds p → names ≡ (after_all text no_declarations ds).names → found ≡ names main_name
    → found ≡ Some (Function m 0 true) → TypesProgram text ds (record { functions = functions_of p.functions.items; globals = p.globals.items; main = m })
typed-program text ds names p m found a e f q =
    let entry = ap (λ (y : Bindings). y main_name) (sym e) ∙ sym f ∙ q in
    record { declarations = a.declarations; typed = a.typed; functions = a.parts.functions; globals = a.parts.globals; entry = entry }
