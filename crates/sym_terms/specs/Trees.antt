-- Terms as plain trees: a label over a list of trees.
use Rattle.term_labels.specs.Trees as trees
pub use Rattle.term_labels.specs.Trees.{node, none, more, leaf, binary, ternary}
use Rattle.sym_terms.specs.declared.label.Label.{Label}

abbrev pub Tree : Type 0
Tree = trees.Tree Label

abbrev pub Trees : Type 0
Trees = trees.Trees Label
