use Rattle.term_table.proofs.Meanings.{still_means, learns_means}
use Rattle.term_table.proofs.laws.meaning_lasts.Goals as goal

pub returns : goal.returns
returns g c = λ a. record { still = λ p q t f. still_means; learns = λ p q t f. learns_means }
