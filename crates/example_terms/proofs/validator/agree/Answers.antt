use Rattle.std.proofs.Common.{ap₂}
use Rattle.example_terms.specs.Meaning.{Value}
use Rattle.term_table.proofs.Meanings.{still_means, learns_means, same_means}
use Rattle.example_terms.proofs.validator.agree.Goals as goal

pub returns-then-same_term : goal.returns-then-same_term
returns-then-same_term c = λ yes e.
    let learns = c.meet.ensures.second_learns in
    let later = c.meet.ensures.extends.1 in
    let first = c.requires.first in
    let second = c.requires.second in
    let words = same_means c.same_term.ensures.same (learns_means learns first.value)
    (still_means later second.value) c.if-same_term.true e in
    let memories = same_means c.same_term-then-same_term.ensures.same (learns_means learns first.memory)
    (still_means later second.memory) yes e in
    ap₂ (λ (x y : Value). record { word = x.word; memory = y.memory }) words memories
