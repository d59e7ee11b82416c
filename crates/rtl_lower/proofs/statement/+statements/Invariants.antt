use Rattle.std.proofs.Common.{◌+◌, ◌-◌, length, drop, Ok}
use Rattle.c_typed.specs.Shape.{statement_of, statements_of}
use Rattle.rtl_emit.specs.Blocks.{spot}
use Rattle.rtl_emit.specs.Emits.{Emits}
use Rattle.rtl_lower.specs.Emits.{statements_code}
use Rattle.rtl_lower.proofs.Sizes.{weight, weight_all}
use Rattle.rtl_lower.proofs.statement.+statements.Given as goal

abbrev pub invariant-statements-loop-done : goal.invariant-statements-loop-done
invariant-statements-loop-done l =
    Emits (statements_code (statements_of (drop (length l.all - l.done) l.all)) l.context (spot l.initial.code)) l.initial.blocks.items l.blocks.items (Ok l.code)

abbrev pub decreases-statement : goal.decreases-statement
decreases-statement l = weight (statement_of l.s.now)

abbrev pub decreases-statements : goal.decreases-statements
decreases-statements l = weight_all (statements_of l.all.now)

abbrev pub decreases-side_block : goal.decreases-side_block
decreases-side_block l = weight (statement_of l.s.now) + 1

abbrev pub decreases-if_statement : goal.decreases-if_statement
decreases-if_statement l = weight (statement_of l.yes.now) + weight (statement_of l.no.now) + 2

abbrev pub decreases-turn_of : goal.decreases-turn_of
decreases-turn_of l = weight (statement_of l.last.now) + 1

abbrev pub decreases-loop_statement : goal.decreases-loop_statement
decreases-loop_statement l = weight (statement_of l.last.now) + weight (statement_of l.body.now) + 2
