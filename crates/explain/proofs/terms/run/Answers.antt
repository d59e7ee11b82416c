use Rattle.sym_exec.specs.Symbolic.{block_trees, order_trees}
use Rattle.explain.proofs.Readers.{seen_run}
use Rattle.explain.proofs.terms.run.Goals as goal

pub returns-in-Block-clause-seen : goal.returns-in-Block-clause-seen
returns-in-Block-clause-seen c = seen_run c.run_block.new.pass c.run_block.result (block_trees c.in-Block.block.now) c.run_block.ensures.trees

pub returns-in-Order-clause-seen : goal.returns-in-Order-clause-seen
returns-in-Order-clause-seen c = seen_run c.run_order.new.pass c.run_order.result (order_trees c.in-Order.order.now) c.run_order.ensures.trees
