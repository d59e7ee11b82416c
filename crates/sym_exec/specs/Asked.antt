-- The trees that symbolic execution asks a table for. Their parts are asked for with them.
use Rattle.std.specs.Prelude.{ℕ, zero, suc, List, [], ◌∷◌, ◌++◌, map, Contains}
use Rattle.mips_isa.specs.declared.action.Action.{Action}
use Rattle.mips_isa.specs.declared.action.Action.TheVariants.{Computes, Sets, Loads, Stores, Multiplies, Divides, MovesHigh, MovesLow}
use Rattle.mips_isa.specs.Actions.{action_of}
use Rattle.mblock.specs.declared.exit.Exit.{Exit}
use Rattle.mblock.specs.Parts.{BlockParts, OrderParts}
use Rattle.mblock.specs.BlockMeaning.{Shape, exit_shape, Calls, Prints, Halts}
use Rattle.mblock.specs.Clean.{slot_actions}
use Rattle.sym_terms.specs.declared.label.Origin.TheVariants.{Link}
use Rattle.sym_terms.specs.declared.label.Label.TheVariants.{Init}
use Rattle.sym_terms.specs.Trees.{Tree, leaf}
use Rattle.sym_terms.specs.NormalForms.{const_tree, op_tree, load_tree}
use Rattle.term_table.specs.Passes.{PassState}
use Rattle.sym_exec.specs.MipsTerms.{Lacks}
use Rattle.sym_exec.specs.Symbolic.{TreeState, start_trees, register_tree, operand_tree, address_tree, trees_after, all_trees, exit_trees}

-- an action asks for its operands, its address and its results; memory is asked for by loads, and at the end
abbrev pub asked_by : Action → TreeState → List Tree
asked_by (Computes d op a b) t = operand_tree t b ∷ op_tree op (register_tree t a) (operand_tree t b) ∷ []
asked_by (Sets d w) t = const_tree w ∷ []
asked_by (Loads w d base offset) t = address_tree t base offset ∷ load_tree w t.memory (address_tree t base offset) ∷ []
asked_by (Stores w r base offset) t = address_tree t base offset ∷ []
asked_by (Multiplies sign a b) t =
    let u = trees_after (Multiplies sign a b) t in u.hi ∷ u.lo ∷ []
asked_by (Divides sign a b) t =
    let u = trees_after (Divides sign a b) t in u.hi ∷ u.lo ∷ []
asked_by (MovesHigh d) t = []
asked_by (MovesLow d) t = []

abbrev pub asked_by_all : List Action → TreeState → List Tree
asked_by_all [] t = []
asked_by_all (a ∷ rest) t = asked_by a t ++ asked_by_all rest (trees_after a t)

-- what the first n registers hold at the start
abbrev pub first_registers : ℕ → List Tree
first_registers zero = []
first_registers (suc r) = register_tree start_trees r ∷ first_registers r

unfoldable pub asked_first : List Tree
asked_first = start_trees.memory ∷ start_trees.hi ∷ start_trees.lo ∷ first_registers 32

-- what the exit itself writes
abbrev pub asked_by_shape : Shape → List Tree
asked_by_shape (Calls f n) = leaf (Init Link) ∷ []
asked_by_shape (Prints n) = const_tree 1 ∷ []
asked_by_shape Halts = const_tree 10 ∷ []
asked_by_shape _ = []

-- what code asks for that has come as far as some trees
abbrev pub asked_from : TreeState → List Action → Exit → List Action → List Tree
asked_from t acts exit slots =
    let after = exit_trees exit (all_trees acts t) in
    asked_by_all acts t ++ (asked_by_shape (exit_shape exit) ++ (asked_by_all slots after ++ (all_trees slots after).memory ∷ []))

abbrev pub code_asked : List Action → Exit → List Action → List Tree
code_asked acts exit slots = asked_first ++ asked_from start_trees acts exit slots

abbrev pub block_asked : BlockParts → List Tree
block_asked b = code_asked (map action_of b.insts) b.exit []

abbrev pub order_asked : OrderParts → List Tree
order_asked o = code_asked (map action_of o.insts) o.exit (slot_actions o.slot)

-- one of the trees isn't in the table
pub record LacksOne (p : PassState) (xs : List Tree) : Type 0 where
  pub tree : Tree
  pub asked : Contains xs tree
  pub lacks : Lacks p tree
