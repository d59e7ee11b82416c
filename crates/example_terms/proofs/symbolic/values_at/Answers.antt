use Rattle.std.proofs.Common.{[], ◌∷◌, ◌++◌, ◌+◌, take, get_or, sym, subst, arith}
use Rattle.std.proofs.lemmas.List.{take_more}
use Rattle.example_terms.specs.Standing.{AreAt}
use Rattle.example_terms.proofs.Standing.{one_more}
use Rattle.example_terms.proofs.symbolic.values_at.Goals as goal

pub loop-i-preserved : goal.loop-i-preserved
loop-i-preserved c =
    let all = c.args.values.now in
    let places = c.args.places.now in
    let i = c.loop-i.i in
    let found = c.loop-i.found.items in
    let ticket = c.in_ok-value_at.field-0 in
    let there = one_more all (take i places) found
    (get_or places i 0) ticket c.loop-i.invariant.0 c.in_ok-value_at.ensures.0 c.in_ok-value_at.ensures.1 in
    let more = subst (λ ks. AreAt all ks (found ++ ticket ∷ [])) (sym (take_more places i 0 c.loop-i-test.true)) there in
    (subst (AreAt all (take (i + 1) places)) (sym c.in-Ok.ensures.ok) more, omega (arith, c.in-Ok.ensures.len, c.loop-i.invariant.1))
