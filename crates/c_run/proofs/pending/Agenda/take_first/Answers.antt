use Rattle.std.proofs.Common.{◌∙◌}
use Rattle.c_run.specs.Interpreter.{todos}
use Rattle.c_run.specs.Sizes.{load}
use Rattle.c_run.proofs.Sizes.{block-less}
use Rattle.c_run.proofs.Turns.{block-opened}
use Rattle.c_run.proofs.pending.Agenda.take_first.Goals as goal

pub loop-s-smaller : goal.loop-s-smaller
loop-s-smaller c = block-less (load c.loop-s.self) (load c.take_one-head.new.self) (load c.put_list.new.self) c.take_one-head.result c.in-Statement.s
    c.in-Block.all c.as_slice.result c.take_one-head.ensures.less c.in-Statement.is c.in-Block.is c.as_slice.ensures.value
    c.in_ok-put_list-in-Block.ensures.more

pub loop-s-preserved : goal.loop-s-preserved
loop-s-preserved c = block-opened (todos c.loop-s.self) (todos c.take_one-head.new.self) (todos c.put_list.new.self) c.take_one-head.result c.in-Statement.s
    c.in-Block.all c.as_slice.result c.take_one-head.ensures.same c.in-Statement.is c.in-Block.is c.as_slice.ensures.value
    c.in_ok-put_list-in-Block.ensures.todo ∙ c.loop-s.invariant
