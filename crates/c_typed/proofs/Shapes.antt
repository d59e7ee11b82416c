-- The statements of a block, as contracts see them.
use Rattle.std.proofs.Common.{◌≡◌, refl, ap, ◌∙◌}
use Rattle.std.specs.declared.vec.Vec.{Vec}
use Rattle.std.specs.declared.alloc.Global.{Global}
use Rattle.c_typed.specs.declared.tree.TypedStatement.{TypedStatement, Block, Row_of-TypedStatement, end_of-TypedStatement, more_of-TypedStatement}
use Rattle.c_typed.specs.declared.tree.TypedStatement.{items-the_row-TypedStatement, items_hidden-the_row-TypedStatement-0}
use Rattle.c_typed.specs.declared.tree.TypedStatement.TheBlock.{hidden-the_row-TypedStatement-0}
use Rattle.c_typed.specs.Shape.{statement_of, row_of, statements_of}
use Rattle.c_typed.specs.Trees.{block, more_statements}

row-is : {n : _} (k : Row_of-TypedStatement n) → row_of k ≡ statements_of (items-the_row-TypedStatement n k)
row-is end_of-TypedStatement = refl
row-is (more_of-TypedStatement s rest) = ap (more_statements (statement_of s)) (row-is rest)

pub block-is : (v : Vec TypedStatement Global) → statement_of (Block v) ≡ block (statements_of v.items)
block-is v = ap block (row-is (hidden-the_row-TypedStatement-0 v) ∙ ap statements_of (items_hidden-the_row-TypedStatement-0 v))
