-- The trees of lists of items.
use Rattle.std.proofs.Common.{◌≡◌, refl, ap, ◌∙◌}
use Rattle.std.specs.declared.vec.Vec.{Vec}
use Rattle.std.specs.declared.alloc.Global.{Global}
use Rattle.c_tree.specs.declared.tree.Item.{Item}
use Rattle.c_tree.specs.declared.tree.Statement.{Block, Row_of-Item, end_of-Item, more_of-Item, items-the_row-Item, items_hidden-the_row-Item-0}
use Rattle.c_tree.specs.declared.tree.Item.TheBlock.{hidden-the_row-Item-0}
use Rattle.c_tree.specs.Tree.{block, more_items}
use Rattle.c_tree.specs.Shape.{statement_of, item_of, row_of, items_of}

row-is : {n : _} (k : Row_of-Item n) → row_of k ≡ items_of (items-the_row-Item n k)
row-is end_of-Item = refl
row-is (more_of-Item i rest) = ap (more_items (item_of i)) (row-is rest)

pub block-is : (v : Vec Item Global) → statement_of (Block v) ≡ block (items_of v.items)
block-is v = ap block (row-is (hidden-the_row-Item-0 v) ∙ ap items_of (items_hidden-the_row-Item-0 v))
