-- Each label is read back from its word.
use Rattle.std.proofs.Common.{refl, arith}
use Rattle.term_labels.specs.Codings.{IsCoding}
use Rattle.term_labels.specs.Kinds.{coding_of, AreKinds}
use Rattle.term_labels.proofs.ByKinds.{by_kinds}
use Rattle.bench_table.specs.declared.label.Shape.TheVariants.{Leaf, Pair}
use Rattle.bench_table.specs.Labels.{label_kinds}

are_kinds : AreKinds label_kinds
are_kinds (Leaf n) e = (grind arith, grind arith, omega arith)
are_kinds Pair e = (omega arith, refl, omega arith)

pub label_back : IsCoding (coding_of label_kinds)
label_back = by_kinds label_kinds are_kinds
