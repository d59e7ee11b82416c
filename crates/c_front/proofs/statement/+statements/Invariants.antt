use Rattle.std.proofs.Common.{◌+◌, ◌*◌, ◌≤◌, length}
use Rattle.c_tree.specs.Shape.{items_of}
use Rattle.c_front.specs.Grammar.{items}
use Rattle.c_front.proofs.Steps.{GoesOn}
use Rattle.c_front.proofs.Choices.{after_items}
use Rattle.c_front.proofs.statement.+statements.Given as goal

abbrev pub decreases-statement : goal.decreases-statement
decreases-statement l = 4 * length l.tokens.now + 1

abbrev pub decreases-if_then : goal.decreases-if_then
decreases-if_then l = 4 * length l.tokens.now + 1

abbrev pub decreases-while_loop : goal.decreases-while_loop
decreases-while_loop l = 4 * length l.tokens.now + 1

abbrev pub decreases-for_loop : goal.decreases-for_loop
decreases-for_loop l = 4 * length l.tokens.now + 1

abbrev pub decreases-item : goal.decreases-item
decreases-item l = 4 * length l.tokens.now + 2

abbrev pub decreases-items : goal.decreases-items
decreases-items l = 4 * length l.tokens.now + 3

abbrev pub invariant-items-items : goal.invariant-items-items
invariant-items-items l = record { goes : GoesOn items items l.fn.tokens l.rest (after_items (items_of l.all.items)); shorter : length l.rest ≤ length l.fn.tokens }

abbrev pub decreases-items-items : goal.decreases-items-items
decreases-items-items l = length l.rest
