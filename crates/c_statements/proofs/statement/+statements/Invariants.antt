use Rattle.std.proofs.Common.{◌≡◌, ◌+◌, take}
use Rattle.c_tree.specs.Shape.{statement_of, item_of, items_of}
use Rattle.c_statements.specs.Shape.{scopes_of}
use Rattle.c_statements.specs.Names.{behind_items}
use Rattle.c_statements.proofs.BlockItems.{ItemsSoFar}
use Rattle.c_statements.proofs.Weights.{weight, weight_of, weight_all}
use Rattle.c_statements.proofs.statement.+statements.Given as goal

abbrev pub decreases-statement : goal.decreases-statement
decreases-statement l = weight (statement_of l.s.now)

abbrev pub decreases-block : goal.decreases-block
decreases-block l = weight_all (items_of l.all.now) + 2

abbrev pub decreases-items : goal.decreases-items
decreases-items l = weight_all (items_of l.all.now) + 1

abbrev pub decreases-item : goal.decreases-item
decreases-item l = weight_of (item_of l.one.now)

abbrev pub decreases-if_then : goal.decreases-if_then
decreases-if_then l = weight (statement_of l.first.now) + 1

abbrev pub decreases-if_then_else : goal.decreases-if_then_else
decreases-if_then_else l = weight (statement_of l.first.now) + weight (statement_of l.second.now) + 1

abbrev pub decreases-while_loop : goal.decreases-while_loop
decreases-while_loop l = weight (statement_of l.body.now) + 1

abbrev pub decreases-for_loop : goal.decreases-for_loop
decreases-for_loop l = weight (statement_of l.body.now) + 1

abbrev pub invariant-items-loop-one : goal.invariant-items-loop-one
invariant-items-loop-one l = record {
  so_far : ItemsSoFar l.context.program.now.text.items l.context.gives l.context.in_loop (scopes_of l.fn.scopes) (take l.one-index l.all) l.typed;
  scopes : scopes_of l.scopes ≡ behind_items l.context.program.now.text.items (scopes_of l.fn.scopes) (items_of (take l.one-index l.all));
}
