use Rattle.std.proofs.Common.{rules, ◌≤◌, length}
use Rattle.mblock.specs.declared.limits.TheConstants.{BLOCK_INSTS}
use Rattle.sched_phase.proofs.Serving.{serves_same}
use Rattle.sched_phase.proofs.settle.checked_order.Goals as goal

pub returns-clause-serves : goal.returns-clause-serves
returns-clause-serves c =
    let made = c.into_order.ensures in
    let few : length c.args.block.now.insts ≤ BLOCK_INSTS = search rules in
    serves_same c.args.block.now c.args.checked.block c.into_order.result c.requires few made.fits made.exit made.means
