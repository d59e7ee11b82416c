use Rattle.std.proofs.Common.{rules}
use Rattle.counterexample.specs.Views.{start_of}
use Rattle.counterexample.specs.declared.difference.Difference.TheVariants.{Stuck}
use Rattle.counterexample.proofs.Refuting.{refuted, no_meaning}
use Rattle.counterexample.proofs.verdict.refute.Goals as goal

pub returns-in-None-clause-means : goal.returns-in-None-clause-means
returns-in-None-clause-means c =
    refuted c.args.block.now c.args.order.now (start_of c.args.start.now) c.args.link Stuck (search rules)

pub returns-clause-means : goal.returns-clause-means
returns-clause-means c =
    no_meaning c.args.block.now c.args.order.now (start_of c.args.start.now) c.args.link c.difference_of.result (search rules)
