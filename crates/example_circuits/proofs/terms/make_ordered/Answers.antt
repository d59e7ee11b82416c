use Rattle.example_circuits.proofs.Swapped.{swapped}
use Rattle.example_circuits.proofs.terms.make_ordered.Goals as goal

pub returns-clause-means : goal.returns-clause-means
returns-clause-means c = λ f g. swapped c.make.new.pass c.args.gate c.in_order-low.result c.make.result f g c.requires.commutes c.in_order-low.ensures.same c.make.ensures.means
