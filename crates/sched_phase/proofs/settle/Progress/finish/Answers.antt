use Rattle.sched_phase.proofs.Settled.{are_orders}
use Rattle.sched_phase.proofs.settle.Progress.finish.Goals as goal

pub of-requires-clause-orders : goal.of-requires-clause-orders
of-requires-clause-orders g c = are_orders c.args.unit.now.blocks c.args.self.orders.items c.requires.all c.requires.done.serve
