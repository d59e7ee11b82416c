use Rattle.std.proofs.Common.{[], ◌∷◌}
use Rattle.term_table.proofs.Meanings.{still_means, none_mean, first_means}
use Rattle.example_circuits.proofs.terms.invert.Goals as goal

pub returns-clause-means : goal.returns-clause-means
returns-clause-means c = λ f mean. c.make.ensures.means (λ e. f e ∷ []) (first_means (still_means c.read-node.ensures.extends mean) none_mean)
