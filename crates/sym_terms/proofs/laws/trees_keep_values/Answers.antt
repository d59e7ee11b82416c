use Rattle.sym_terms.proofs.ValueLaws.{op_tree-value, load_tree-value, store_tree-value}
use Rattle.sym_terms.proofs.laws.trees_keep_values.Goals as goal

pub returns : goal.returns
returns c = record { operations = op_tree-value; loads = load_tree-value; stores = store_tree-value }
