use Rattle.std.proofs.Common.{◌≡◌, [], ◌∷◌, length, sym, ap₂, subst, ◌∙◌, arith}
use Rattle.std.specs.Prelude.{IfSome}
use Rattle.std.proofs.lemmas.List.{get_or_default}
use Rattle.term_table.proofs.Meanings.{still_means, means_seen, all_seen_mean, all_mean_length, two_values}
use Rattle.example_terms.specs.Meaning.{Environment, Value, just, nothing, made, op_algebra}
use Rattle.example_terms.proofs.Standing.{there_means}
use Rattle.example_terms.proofs.symbolic.fold_constants.Goals as goal

pub known-second-requires-clause-seen : goal.known-second-requires-clause-seen
known-second-requires-clause-seen c =
    let long : length c.args.operands.now ≡ 2 = c.if-operands-ne2.false in
    let at_1 = c.index-operands-1.is ∙ get_or_default c.args.operands.now 1 _ 0 (omega (arith, long)) in
    let mean = all_seen_mean {a = op_algebra} c.args.operands.now c.requires.seen in
    means_seen (still_means c.known-first.ensures.extends (there_means mean.1 (at_1, omega (arith, long))))

pub returns-clause-word : goal.returns-clause-word
returns-clause-word c = λ fs mean.
    let long : length c.args.operands.now ≡ 2 = c.if-operands-ne2.false in
    let at_0 = c.index-operands-0.is ∙ get_or_default c.args.operands.now 0 _ 0 (omega (arith, long)) in
    let at_1 = c.index-operands-1.is ∙ get_or_default c.args.operands.now 1 _ 0 (omega (arith, long)) in
    let x = c.in_ok-first.ensures.word _ (there_means mean (at_0, omega (arith, long))) in
    let y = c.in_ok-second.ensures.word _ (still_means c.known-first.ensures.extends (there_means mean (at_1, omega (arith, long)))) in
    let words : (e : Environment) → just e c.in_ok-first.field-0 ∷ just e c.in_ok-second.field-0 ∷ [] ≡ fs e
    = λ e. ap₂ (λ v w. v ∷ w ∷ []) (sym (x e)) (sym (y e)) ∙ two_values nothing (fs e) (all_mean_length mean e ∙ long) in
    subst (λ (f : Environment → Value). IfSome c.word.result (λ n. (e : Environment) → f e ≡ just e n))
    (λ i. λ e. made c.args.op e (words e i)) c.word.ensures
