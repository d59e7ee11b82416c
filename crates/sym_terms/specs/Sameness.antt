-- Whether two labels or two trees are the same, told part by part.
use Rattle.std.specs.Prelude.{Bool, true, false, ◌&&◌, ◌==◌}
use Rattle.sym_terms.specs.declared.label.Origin.{Origin}
use Rattle.sym_terms.specs.declared.label.Origin.TheVariants.{Register, Hi, Lo, Link}
use Rattle.sym_terms.specs.declared.label.Label.{Label}
use Rattle.sym_terms.specs.declared.label.Label.TheVariants.{Init, Mem0, Const, Op, Load, Store}
use Rattle.sym_terms.specs.Labels.{operator_code, width_code}
use Rattle.sym_terms.specs.Trees.{Tree, Trees, node, none, more}

abbrev pub same_origins : Origin → Origin → Bool
same_origins (Register r) (Register q) = r == q
same_origins Hi Hi = true
same_origins Lo Lo = true
same_origins Link Link = true
same_origins _ _ = false

abbrev pub same_labels : Label → Label → Bool
same_labels (Init a) (Init b) = same_origins a b
same_labels Mem0 Mem0 = true
same_labels (Const a) (Const b) = a == b
same_labels (Op a) (Op b) = operator_code a == operator_code b
same_labels (Load a) (Load b) = width_code a == width_code b
same_labels (Store a) (Store b) = width_code a == width_code b
same_labels _ _ = false

abbrev mutual
  pub are_same : Tree → Tree → Bool
  are_same (node l xs) (node m ys) = same_labels l m && all_same xs ys

  pub all_same : Trees → Trees → Bool
  all_same none none = true
  all_same none (more y ys) = false
  all_same (more x xs) none = false
  all_same (more x xs) (more y ys) = are_same x y && all_same xs ys
