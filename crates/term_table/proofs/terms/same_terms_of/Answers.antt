use Rattle.term_table.proofs.TermCallers.{same_terms}
use Rattle.term_table.proofs.terms.same_terms_of.Goals as goal

pub returns : goal.returns
returns g c = λ p t u x y legal h k. same_terms {c = g.L.Label.coding} {p = p} {t = t} {u = u} {x = x} {y = y} g.met.L.Label.back legal h k
