use Rattle.std.proofs.Common.{[], sym, subst}
use Rattle.std.specs.Prelude.{IfSome}
use Rattle.term_table.specs.Meanings.{Means}
use Rattle.term_table.proofs.Meanings.{still_means, none_mean}
use Rattle.example_circuits.specs.Meaning.{output, gates}
use Rattle.example_circuits.proofs.validator.+encode.Goals as goal

pub returns-in-Level-clause-means : goal.returns-in-Level-clause-means
returns-in-Level-clause-means t c =
    subst (λ x. IfSome c.make.result (λ t'. Means gates c.make.new.pass t' (output x))) (sym c.in-Level.is) (c.make.ensures.means (λ e. []) none_mean)

pub returns-in-Input-clause-means : goal.returns-in-Input-clause-means
returns-in-Input-clause-means t c =
    subst (λ x. IfSome c.make-in-Input.result (λ t'. Means gates c.make-in-Input.new.pass t' (output x))) (sym c.in-Input.is)
    (c.make-in-Input.ensures.means (λ e. []) none_mean)

pub returns-in_ok-input-in-Not-clause-means : goal.returns-in_ok-input-in-Not-clause-means
returns-in_ok-input-in-Not-clause-means t c =
    let input = subst (λ x. Means gates c.encode.new.pass c.in_ok-input-in-Not.input (output x)) c.deref.ensures c.in_ok-input-in-Not.ensures.means in
    subst (λ x. IfSome c.invert.result (λ t'. Means gates c.invert.new.pass t' (output x))) (sym c.in-Not.is)
    (c.invert.ensures.means (output c.in-Not.input.value) input)

pub returns-in_ok-second-in-And-clause-means : goal.returns-in_ok-second-in-And-clause-means
returns-in_ok-second-in-And-clause-means t c =
    let first = subst (λ x. Means gates c.encode-in-And.new.pass c.in_ok-first-in-And.first (output x)) c.deref-in-And.ensures
    c.in_ok-first-in-And.ensures.means in
    let second = subst (λ x. Means gates c.encode-in-And-2.new.pass c.in_ok-second-in-And.second (output x)) c.deref-in-And-2.ensures
    c.in_ok-second-in-And.ensures.means in
    subst (λ x. IfSome c.make_ordered.result (λ t'. Means gates c.make_ordered.new.pass t' (output x))) (sym c.in-And.is)
    (c.make_ordered.ensures.means (output c.in-And.first.value) (output c.in-And.second.value) (still_means c.encode-in-And-2.ensures.extends first) second)

pub returns-in_ok-second-in-Or-clause-means : goal.returns-in_ok-second-in-Or-clause-means
returns-in_ok-second-in-Or-clause-means t c =
    let first = subst (λ x. Means gates c.encode-in-Or.new.pass c.in_ok-first-in-Or.first (output x)) c.deref-in-Or.ensures
    c.in_ok-first-in-Or.ensures.means in
    let second = subst (λ x. Means gates c.encode-in-Or-2.new.pass c.in_ok-second-in-Or.second (output x)) c.deref-in-Or-2.ensures
    c.in_ok-second-in-Or.ensures.means in
    subst (λ x. IfSome c.make_ordered-in-Or.result (λ t'. Means gates c.make_ordered-in-Or.new.pass t' (output x))) (sym c.in-Or.is)
    (c.make_ordered-in-Or.ensures.means (output c.in-Or.first.value) (output c.in-Or.second.value) (still_means c.encode-in-Or-2.ensures.extends first) second)
