-- A program has at most one typed program.
use Rattle.std.proofs.Common.{◌≡◌, ℕ, List, Option, Some, refl, sym, ap, ◌∙◌}
use Rattle.c_tree.specs.Tree as Tree
use Rattle.c_statements.specs.declared.names.Named.{Named}
use Rattle.c_statements.specs.declared.names.Named.TheVariants.{Function}
use Rattle.c_typed.specs.declared.tree.Global.{Global}
use Rattle.c_typed.specs.Trees.{TypedFunction, TypedProgram}
use Rattle.c_statements.proofs.OnceStatements.{once-items}
use Rattle.c_front.proofs.Excluding.{once}
use Rattle.c_types.specs.Typed.{SpellsTyped}
use Rattle.c_types.specs.Programs.{File, TypedDeclaration, TypesDeclaration, TypesDeclarations, TypesProgram, all_declared, array_typed}
use Rattle.c_types.specs.Programs.{function_typed, functions_in, globals_in, more_declared, variable_typed}

once-declaration : {text : List ℕ} {f : File} {d : Tree.Declaration} {t u : TypedDeclaration} → TypesDeclaration text f d t
    → TypesDeclaration text f d u → t ≡ u
once-declaration variable_typed variable_typed = refl
once-declaration array_typed array_typed = refl
once-declaration (function_typed h) (function_typed l) = let e = once-items h l in cc

once-declarations : {text : List ℕ} {f : File} {all : List Tree.Declaration} {ts us : List TypedDeclaration}
    → TypesDeclarations text f all ts → TypesDeclarations text f all us → ts ≡ us
once-declarations all_declared all_declared = refl
once-declarations (more_declared a b) (more_declared c d) = let e = once-declaration a c in let g = once-declarations b d in cc

same : (p q : TypedProgram) → p.functions ≡ q.functions → p.globals ≡ q.globals → p.main ≡ q.main → p ≡ q
same p q e f g =
    ap (λ (x : List TypedFunction). let t : TypedProgram = record { functions = x; globals = p.globals; main = p.main } in t) e
    ∙ ap (λ (x : List Global). let t : TypedProgram = record { functions = q.functions; globals = x; main = p.main } in t) f
    ∙ ap (λ (x : ℕ). let t : TypedProgram = record { functions = q.functions; globals = q.globals; main = x } in t) g

abbrev number : Option Named → ℕ
number (Some (Function n i r)) = n
number _ = 0

pub once-program : (text : List ℕ) (all : List Tree.Declaration) (p q : TypedProgram) → TypesProgram text all p → TypesProgram text all q → p ≡ q
once-program text all p q h l =
    let e : h.declarations ≡ l.declarations = once-declarations h.typed l.typed in
    same p q (h.functions ∙ ap functions_in e ∙ sym l.functions) (h.globals ∙ ap globals_in e ∙ sym l.globals) (ap number (sym h.entry ∙ l.entry))

pub once-spelled : (text : List ℕ) (p q : TypedProgram) → SpellsTyped text p → SpellsTyped text q → p ≡ q
once-spelled text p q s t =
    let same : s.declarations ≡ t.declarations = once text s.declarations t.declarations s.spells t.spells in
    once-program text t.declarations p q (rw same at s.types) t.types
