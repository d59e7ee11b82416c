use Rattle.term_table.proofs.Meanings.{equal_mean}
use Rattle.term_table.proofs.laws.equal_tickets_mean_the_same.Goals as goal

pub returns : goal.returns
returns g c = λ a is p t u f f' h k same. equal_mean is h (rw same k)
