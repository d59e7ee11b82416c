-- Symbolic execution: the trees that instructions leave, the exit's operands, and what the code relies
-- on (Tristan and Leroy, POPL 2008).
use Rattle.std.specs.Prelude.{ℕ, Bool, List, [], ◌∷◌, map}
use Rattle.words.specs.declared.sign.Sign.{Sign}
use Rattle.words.specs.declared.width.Width.{Width}
use Rattle.words.specs.declared.operator.Operator.TheVariants.{Addu}
use Rattle.words.specs.Operators.{has_quotient}
use Rattle.mips_isa.specs.declared.action.Operand.{Operand}
use Rattle.mips_isa.specs.declared.action.Operand.TheVariants.{Held, Fixed}
use Rattle.mips_isa.specs.declared.action.Action.{Action}
use Rattle.mips_isa.specs.declared.action.Action.TheVariants.{Computes, Sets, Loads, Stores, Multiplies, Divides, MovesHigh, MovesLow}
use Rattle.mips_isa.specs.States.{State, read, put, is_open}
use Rattle.mips_isa.specs.Actions.{action_of, product_high, product_low, quotient_operator, remainder_operator}
use Rattle.mblock.specs.declared.exit.Exit.{Exit}
use Rattle.mblock.specs.Parts.{BlockParts, OrderParts}
use Rattle.mblock.specs.BlockMeaning.{Shape, exit_shape, exit_reads, exit_puts}
use Rattle.mblock.specs.Clean.{slot_actions}
use Rattle.sym_terms.specs.declared.label.Origin.TheVariants.{Register, Hi, Lo, Link}
use Rattle.sym_terms.specs.declared.label.Label.TheVariants.{Init, Mem0}
use Rattle.sym_terms.specs.Trees.{Tree, leaf}
use Rattle.sym_terms.specs.Values.{tree_word}
use Rattle.sym_terms.specs.NormalForms.{const_tree, op_tree, load_tree, store_tree}

-- what a run may rely on: an address of a word or a byte that is mapped, or a division with a value
pub data GuardTree : Type 0 where
  AtAddress : Width → Tree → GuardTree
  AtDivision : Sign → Tree → Tree → GuardTree

-- a guard that holds in a start state
abbrev pub is_good : State → ℕ → GuardTree → Bool
is_good s link (AtAddress w a) = is_open w s.mapped (tree_word a s link)
is_good s link (AtDivision sign a b) = has_quotient sign (tree_word a s link) (tree_word b s link)

-- the trees that the machine's places hold, and the guards so far
pub record TreeState : Type 0 where
  pub regs : ℕ → Tree
  pub hi : Tree
  pub lo : Tree
  pub memory : Tree
  pub guards : List GuardTree

abbrev pub start_trees : TreeState
start_trees = record {
  regs = λ r. leaf (Init (Register r));
  hi = leaf (Init Hi);
  lo = leaf (Init Lo);
  memory = leaf Mem0;
  guards = [];
}

-- register 0 holds the constant 0
abbrev pub register_tree : TreeState → ℕ → Tree
register_tree t r = read (const_tree 0) t.regs r

abbrev pub operand_tree : TreeState → Operand → Tree
operand_tree t (Held r) = register_tree t r
operand_tree t (Fixed w) = const_tree w

abbrev pub address_tree : TreeState → ℕ → ℕ → Tree
address_tree t base offset = op_tree Addu (register_tree t base) (const_tree offset)

abbrev pub trees_after : Action → TreeState → TreeState
trees_after (Computes d op a b) t = record t { regs = put t.regs d (op_tree op (register_tree t a) (operand_tree t b)) }
trees_after (Sets d w) t = record t { regs = put t.regs d (const_tree w) }
trees_after (Loads w d base offset) t =
    record t {
      regs = put t.regs d (load_tree w t.memory (address_tree t base offset));
      guards = AtAddress w (address_tree t base offset)
          ∷ t.guards;
    }
trees_after (Stores w r base offset) t =
    record t {
      memory = store_tree w t.memory (address_tree t base offset) (register_tree t r);
      guards = AtAddress w
          (address_tree t base offset) ∷ t.guards;
    }
trees_after (Multiplies sign a b) t =
    record t {
      hi = op_tree (product_high sign) (register_tree t a) (register_tree t b);
      lo =
          op_tree (product_low sign) (register_tree t a) (register_tree t b);
    }
trees_after (Divides sign a b) t =
    record t {
      hi = op_tree (remainder_operator sign) (register_tree t a) (register_tree t b);
      lo = op_tree (quotient_operator sign) (register_tree t a) (register_tree t b);
      guards = AtDivision sign (register_tree t a) (register_tree t b) ∷ t.guards;
    }
trees_after (MovesHigh d) t = record t { regs = put t.regs d t.hi }
trees_after (MovesLow d) t = record t { regs = put t.regs d t.lo }

abbrev pub all_trees : List Action → TreeState → TreeState
all_trees [] t = t
all_trees (a ∷ rest) t = all_trees rest (trees_after a t)

-- the exit has read its operands and put in its link, or its number of a call to the system
abbrev pub exit_trees : Exit → TreeState → TreeState
exit_trees exit t = record t { regs = exit_puts (leaf (Init Link)) (const_tree 1) (const_tree 10) (exit_shape exit) t.regs }

abbrev pub exit_operands : Exit → TreeState → List Tree
exit_operands exit t = map (register_tree t) (exit_reads exit)

-- all that is compared: what is left at the end, the exit without its registers, and its operands
pub record CodeTrees : Type 0 where
  pub trees : TreeState
  pub shape : Shape
  pub operands : List Tree

-- what code leaves that has come as far as some trees
abbrev pub trees_from : TreeState → List Action → Exit → List Action → CodeTrees
trees_from t acts exit slots = record {
  trees = all_trees slots (exit_trees exit (all_trees acts t));
  shape = exit_shape exit;
  operands = exit_operands exit (all_trees acts t);
}

abbrev pub code_trees : List Action → Exit → List Action → CodeTrees
code_trees acts exit slots = trees_from start_trees acts exit slots

abbrev pub block_trees : BlockParts → CodeTrees
block_trees b = code_trees (map action_of b.insts) b.exit []

abbrev pub order_trees : OrderParts → CodeTrees
order_trees o = code_trees (map action_of o.insts) o.exit (slot_actions o.slot)
