-- The value of a term in a start state.
use Rattle.std.specs.Prelude.{ℕ, Bool}
use Rattle.words.specs.Words.{wrap}
use Rattle.words.specs.Operators.{op_value}
use Rattle.mips_isa.specs.States.{State, load_at, store_at}
use Rattle.sym_terms.specs.declared.label.Origin.{Origin}
use Rattle.sym_terms.specs.declared.label.Origin.TheVariants.{Register, Hi, Lo, Link}
use Rattle.sym_terms.specs.declared.label.Label.{Label}
use Rattle.sym_terms.specs.declared.label.Label.TheVariants.{Init, Const, Op, Load, Store}
use Rattle.sym_terms.specs.Trees.{Tree, node, none, more}

abbrev pub origin_value : Origin → State → ℕ → ℕ
origin_value (Register r) s link = s.regs r
origin_value Hi s link = s.hi
origin_value Lo s link = s.lo
origin_value Link s link = link

abbrev pub leaf_value : Label → State → ℕ → ℕ
leaf_value (Init p) s link = origin_value p s link
leaf_value (Const w) s link = wrap w
leaf_value _ s link = 0

abbrev pub binary_value : Label → (ℕ → Bool) → (ℕ → ℕ) → ℕ → ℕ → ℕ
binary_value (Op op) mapped memory a b = op_value op a b
binary_value (Load w) mapped memory a b = load_at w mapped memory b
binary_value _ mapped memory a b = 0

abbrev pub ternary_memory : Label → (ℕ → Bool) → (ℕ → ℕ) → ℕ → ℕ → ℕ → ℕ
ternary_memory (Store w) mapped memory a v = store_at w mapped memory a v
ternary_memory _ mapped memory a v = memory

abbrev mutual
  -- the word that a tree stands for in a start state, where a call would put in this link; 0 where it
  -- is none. It is total: a load where no word is, and a division without a value, give 0.
  pub tree_word : Tree → State → ℕ → ℕ
  tree_word (node l none) s link = leaf_value l s link
  tree_word (node l (more a none)) s link = 0
  tree_word (node l (more a (more b none))) s link = binary_value l s.mapped (tree_memory a s link) (tree_word a s link)
      (tree_word b s link)
  tree_word (node l (more a (more b (more c rest)))) s link = 0

  -- the memory that a tree stands for; a store where no word is changes nothing
  pub tree_memory : Tree → State → ℕ → ℕ → ℕ
  tree_memory (node l none) s link = s.memory
  tree_memory (node l (more a none)) s link = s.memory
  tree_memory (node l (more a (more b none))) s link = s.memory
  tree_memory (node l (more a (more b (more c none)))) s link =
      ternary_memory l s.mapped (tree_memory a s link) (tree_word b s link) (tree_word c s link)
  tree_memory (node l (more a (more b (more c (more d rest))))) s link = s.memory
