use Rattle.term_table.proofs.Meanings.{interned_means, read_means}
use Rattle.term_table.proofs.laws.labels_make_meanings.Goals as goal

pub returns : goal.returns
returns g c = λ a. record { interned = λ p q l ts t fs. interned_means; read = λ p q l ts t f. read_means }
