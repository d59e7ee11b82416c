-- How much there is to read in a statement: each call of the walk has less than its caller.
use Rattle.std.proofs.Common.{◌≡◌, ◌≤◌, ◌<◌, ◌+◌, ℕ, suc, zero, List, [], ◌∷◌, length, get_or, ap, arith}
use Rattle.c_tree.specs.declared.tree.Item.{Item}
use Rattle.c_tree.specs.declared.tree.Statement.{Statement as Rust}
use Rattle.c_tree.specs.Shape.{item_of, items_of, statement_of}
use Rattle.c_tree.specs.Tree.{Statement, Item as ItemTree, Items, block, if_then, if_then_else, while_loop, for_loop}
use Rattle.c_tree.specs.Tree.{declare, statement, no_items, more_items}

abbrev mutual
  pub weight : Statement → ℕ
  weight (block all) = weight_all all + 3
  weight (if_then c s) = weight s + 2
  weight (if_then_else c s t) = weight s + weight t + 2
  weight (while_loop c s) = weight s + 2
  weight (for_loop f c l s) = weight s + 2
  weight _ = 0

  pub weight_of : ItemTree → ℕ
  weight_of (declare k x v) = 0
  weight_of (statement s) = weight s + 1

  pub weight_all : Items → ℕ
  weight_all no_items = 0
  weight_all (more_items i rest) = weight_of i + weight_all rest

pub weight-within : (all : List Item) (i : ℕ) (x : Item) → i < length all → x ≡ get_or all i x → weight_of (item_of x) ≤ weight_all (items_of all)
weight-within [] i x l e = omega (arith, l)
weight-within (y ∷ all) zero x l e = let h : weight_of (item_of x) ≡ weight_of (item_of y) = ap (λ (z : Item). weight_of (item_of z)) e in omega (arith, h)
weight-within (y ∷ all) (suc i) x l e = let k : i < length all = omega (arith, l) in let h = weight-within all i x k e in omega (arith, h)

-- the one statement that stands in an `if` or in a loop weighs less than the whole
pub inside-weighs-less : (whole inner held : Rust) → weight (statement_of whole) ≡ weight (statement_of inner) + 2 → held ≡ inner
    → weight (statement_of held) + 1 < weight (statement_of whole)
inside-weighs-less whole inner held is same = omega (arith, is, ap (λ s. weight (statement_of s)) same)
