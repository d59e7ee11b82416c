use Rattle.std.proofs.Common.{◌≡◌, sym, subst}
use Rattle.std.specs.Prelude.{IfSome}
use Rattle.term_table.proofs.Meanings.{still_all_mean, means_as, none_mean, interned_means}
use Rattle.example_terms.specs.Meaning.{Environment, just, made}
use Rattle.example_terms.proofs.symbolic.make.Goals as goal

pub returns-in-Some-clause-value : goal.returns-in-Some-clause-value
returns-in-Some-clause-value c = λ fs mean.
    let word = subst (λ r. IfSome r (λ n. (e : Environment) → made c.args.op e (fs e) ≡ just e n)) c.in-Some.is
    (c.fold_constants.ensures.word fs mean) in
    means_as (λ e. sym (word e)) (interned_means c.in_ok-intern.ensures.tree (none_mean {p = c.fold_constants.new.pass}))

pub returns-clause-value : goal.returns-clause-value
returns-clause-value c = λ fs mean. interned_means c.in_ok-intern-2.ensures.tree (still_all_mean c.fold_constants.ensures.extends mean)
