-- What the trees of instructions stand for: the laws by which alone the layers above know them.
use Rattle.std.specs.Prelude.{◌≡◌, ◌<◌, ◌^◌, ℕ}
use Rattle.words.specs.declared.operator.Operator.{Operator}
use Rattle.words.specs.declared.width.Width.{Width}
use Rattle.words.specs.Operators.{op_value}
use Rattle.mips_isa.specs.States.{State, IsWords, load_at, store_at}
use Rattle.sym_terms.specs.Trees.{Tree}
use Rattle.sym_terms.specs.Values.{tree_word, tree_memory}
use Rattle.sym_terms.specs.NormalForms.{op_tree, load_tree, store_tree}

abbrev pub OpTreesHaveValues : Type 0
OpTreesHaveValues = (op : Operator) (a b : Tree) (s : State) (link : ℕ) → IsWords s → link < 2 ^ 32
    → tree_word (op_tree op a b) s link ≡ op_value op (tree_word a s link) (tree_word b s link)

abbrev pub LoadTreesHaveValues : Type 0
LoadTreesHaveValues = (w : Width) (m a : Tree) (s : State) (link : ℕ) → IsWords s → link < 2 ^ 32
    → tree_word (load_tree w m a) s link ≡ load_at w s.mapped (tree_memory m s link) (tree_word a s link)

abbrev pub StoreTreesHaveValues : Type 0
StoreTreesHaveValues = (w : Width) (m a v : Tree) (s : State) (link : ℕ) → IsWords s → link < 2 ^ 32
    → tree_memory (store_tree w m a v) s link ≡ store_at w s.mapped (tree_memory m s link) (tree_word a s link) (tree_word v s link)
