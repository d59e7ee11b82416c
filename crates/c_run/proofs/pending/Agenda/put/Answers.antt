use Rattle.std.proofs.lemmas.Result.{on_ok_weaker}
use Rattle.c_run.specs.Interpreter.{todos}
use Rattle.c_run.proofs.Turns.{block-put}
use Rattle.c_run.proofs.pending.Agenda.put.Goals as goal

pub returns-in-Block : goal.returns-in-Block
returns-in-Block c = on_ok_weaker c.put_list.result
    (block-put (todos c.args.self.now) (todos c.put_list.new.self) c.args.s c.in-Block.all c.as_slice.result c.in-Block.is c.as_slice.ensures.value)
    c.put_list.ensures.todo
