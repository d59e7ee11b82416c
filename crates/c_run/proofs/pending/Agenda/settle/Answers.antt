use Rattle.std.proofs.Common.{◌∙◌}
use Rattle.c_typed.specs.declared.tree.TypedStatement.{Break, Continue}
use Rattle.runs.specs.Kept.{places}
use Rattle.c_run.specs.Interpreter.{todos}
use Rattle.c_run.proofs.Turns.{at-head, break_settles, continue_settles, break-shorter, continue-shorter}
use Rattle.c_run.proofs.pending.Agenda.settle.Goals as goal

pub loop-head-smaller-in-Break : goal.loop-head-smaller-in-Break
loop-head-smaller-in-Break c = break-shorter (todos c.loop-head.self) (todos c.take_first.new.self) (todos c.leave_turn.new.self)
    (at-head (todos c.loop-head.self) (todos c.take_first.new.self) c.in_ok-head.head c.in-Statement.s Break c.in_ok-head.ensures c.in-Statement.is
    c.in-Break.is)
    c.leave_turn.ensures

pub loop-head-preserved-in-Break : goal.loop-head-preserved-in-Break
loop-head-preserved-in-Break c = break_settles (todos c.loop-head.self) (todos c.take_first.new.self) (todos c.leave_turn.new.self) (places c.loop-head.locals.items)
    (at-head (todos c.loop-head.self) (todos c.take_first.new.self) c.in_ok-head.head c.in-Statement.s Break c.in_ok-head.ensures c.in-Statement.is
    c.in-Break.is)
    c.leave_turn.ensures ∙ c.loop-head.invariant

pub loop-head-smaller : goal.loop-head-smaller
loop-head-smaller c = continue-shorter (todos c.loop-head.self) (todos c.take_first.new.self) (todos c.to_turn.new.self)
    (at-head (todos c.loop-head.self) (todos c.take_first.new.self) c.in_ok-head.head c.in-Statement.s Continue c.in_ok-head.ensures c.in-Statement.is
    c.in-Continue.is)
    c.to_turn.ensures

pub loop-head-preserved : goal.loop-head-preserved
loop-head-preserved c = continue_settles (todos c.loop-head.self) (todos c.take_first.new.self) (todos c.to_turn.new.self) (places c.loop-head.locals.items)
    (at-head (todos c.loop-head.self) (todos c.take_first.new.self) c.in_ok-head.head c.in-Statement.s Continue c.in_ok-head.ensures c.in-Statement.is
    c.in-Continue.is)
    c.to_turn.ensures ∙ c.loop-head.invariant
