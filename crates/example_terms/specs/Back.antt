-- Each label is read back from its word.
use Rattle.std.proofs.Common.{refl, arith}
use Rattle.term_labels.specs.Codings.{IsCoding}
use Rattle.term_labels.specs.Kinds.{coding_of, AreKinds}
use Rattle.term_labels.proofs.ByKinds.{by_kinds}
use Rattle.example_terms.specs.declared.label.Op.TheVariants.{Constant, Variable, Add, Multiply, Less, Select, Memory, Load, Store}
use Rattle.example_terms.specs.Labels.{op_kinds}

are_kinds : AreKinds op_kinds
are_kinds (Constant n) e = (grind arith, grind arith, omega arith)
are_kinds (Variable v) e = (grind arith, grind arith, omega arith)
are_kinds Add e = (omega arith, refl, omega arith)
are_kinds Multiply e = (omega arith, refl, omega arith)
are_kinds Less e = (omega arith, refl, omega arith)
are_kinds Select e = (omega arith, refl, omega arith)
are_kinds Memory e = (omega arith, refl, omega arith)
are_kinds Load e = (omega arith, refl, omega arith)
are_kinds Store e = (omega arith, refl, omega arith)

pub op_back : IsCoding (coding_of op_kinds)
op_back = by_kinds op_kinds are_kinds
