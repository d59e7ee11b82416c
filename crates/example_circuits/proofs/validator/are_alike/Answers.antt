use Rattle.term_table.proofs.Meanings.{still_means, same_means}
use Rattle.example_circuits.proofs.validator.are_alike.Goals as goal

pub returns : goal.returns
returns c = same_means c.same_term.ensures.same (still_means c.encode-2.ensures.extends c.in_ok-first.ensures.means) c.in_ok-second.ensures.means
