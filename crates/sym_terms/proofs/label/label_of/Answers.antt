use Rattle.std.proofs.Common.{rules, ◌∙◌}
use Rattle.sym_terms.specs.Back.{only_label}
use Rattle.sym_terms.proofs.label.label_of.Goals as goal

pub returns-in_ok-operator-in-4-clause-value : goal.returns-in_ok-operator-in-4-clause-value
returns-in_ok-operator-in-4-clause-value c = search rules

pub returns-in_ok-operator-in-4-clause-only : goal.returns-in_ok-operator-in-4-clause-only
returns-in_ok-operator-in-4-clause-only c = λ l e f. returns-in_ok-operator-in-4-clause-value c ∙ only_label c.args.word l e f
