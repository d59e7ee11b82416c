-- An expression has at most one typed tree.
use Rattle.std.proofs.Common.{◌≡◌, Option, Some, refl, ap}
use Rattle.c_tree.specs.Tree as Tree
use Rattle.c_statements.specs.declared.names.Named.{Named}
use Rattle.c_statements.specs.Names.{Environment}
use Rattle.c_typed.specs.Trees.{TypedExpression, unary, type_of, prefix_type}
use Rattle.c_statements.specs.Types.{Types, constant_typed, local_typed, global_typed, element_typed, unary_typed, binary_typed, conditional_typed}

pub same-named : {m : Option Named} {a b : Named} → m ≡ Some a → m ≡ Some b → a ≡ b
same-named e f = cc

pub once : {scope : Environment} {e : Tree.Expression} {t u : TypedExpression} → Types scope e t → Types scope e u → t ≡ u
once constant_typed constant_typed = refl
once (local_typed e) (local_typed f) = let g = same-named e f in cc
once (local_typed e) (global_typed f) = let g = same-named e f in cc
once (global_typed e) (local_typed f) = let g = same-named e f in cc
once (global_typed e) (global_typed f) = let g = same-named e f in cc
once (element_typed e s) (element_typed f t) = let g = same-named e f in let h = once s t in cc
once (unary_typed {o = o} s) (unary_typed t) = ap (λ (x : TypedExpression). unary o (prefix_type o (type_of x)) x) (once s t)
once (binary_typed {o = o} a b) (binary_typed c d) = let g = once a c in let h = once b d in rw (g, h) refl
once (conditional_typed a b c) (conditional_typed d e f) = let g = once a d in let h = once b e in let i = once c f in rw (g, h, i) refl
