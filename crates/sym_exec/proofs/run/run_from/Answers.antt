use Rattle.sym_exec.specs.Asked.{asked_first}
use Rattle.sym_exec.specs.Symbolic.{start_trees}
use Rattle.sym_exec.proofs.Tickets.{on_err_weaker, lacks_right}
use Rattle.sym_exec.proofs.run.run_from.Goals as goal

pub returns-clause-absent : goal.returns-clause-absent
returns-clause-absent c =
    on_err_weaker c.finish.result (lacks_right asked_first) (c.finish.ensures.absent start_trees (c.begin-registers.ensures.tracks _ c.requires.start))
