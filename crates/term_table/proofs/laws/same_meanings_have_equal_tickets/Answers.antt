use Rattle.term_table.proofs.Meanings.{one_ticket}
use Rattle.term_table.proofs.laws.same_meanings_have_equal_tickets.Goals as goal

pub returns : goal.returns
returns g c = λ a is separate p t u f f'. one_ticket is separate
