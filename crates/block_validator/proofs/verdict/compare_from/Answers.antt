use Rattle.sym_exec.specs.Symbolic.{block_trees, order_trees}
use Rattle.block_validator.proofs.Comparing.{by_trees}
use Rattle.block_validator.proofs.verdict.compare_from.Goals as goal

pub returns-in-Ok-clause-exact : goal.returns-in-Ok-clause-exact
returns-in-Ok-clause-exact c =
    let block = rw c.in-Ok.is at c.in_ok-first.ensures.block in
    let order = rw c.in-Ok.is at c.in_ok-first.ensures.order in
    by_trees c.run_both_from.new.pass c.in_ok-first.ensures.runs.legal c.in-Ok.first c.in-Ok.second (block_trees c.args.block.now)
    (order_trees c.args.order.now) block order c.first_difference.result c.first_difference.ensures
