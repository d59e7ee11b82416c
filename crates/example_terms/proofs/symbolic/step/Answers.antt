use Rattle.std.proofs.Common.{List, sym, subst}
use Rattle.std.specs.Prelude.{map}
use Rattle.term_table.specs.Terms.{HasSeenTerms}
use Rattle.term_table.specs.Meanings.{AllMean}
use Rattle.term_table.proofs.Meanings.{all_mean_seen}
use Rattle.example_terms.specs.Labels.{op_coding}
use Rattle.example_terms.specs.Meaning.{Environment, Value, at, values_in, op_algebra}
use Rattle.example_terms.specs.Standing.{AreAt}
use Rattle.example_terms.proofs.Standing.{picked, stand_more}
use Rattle.example_terms.proofs.symbolic.step.Goals as goal

pub make-requires-clause-seen : goal.make-requires-clause-seen
make-requires-clause-seen c =
    let there = subst
    (λ ks. AreAt c.args.values.now ks c.in_ok-operands.operands.items) c.as_slice.ensures.value c.in_ok-operands.ensures.0 in
    let mean = picked c.args.instruction.now.operands.items c.in_ok-operands.operands.items c.requires.stands there in
    subst (HasSeenTerms op_coding c.args.pass.now) (sym c.as_slice-2.ensures) (all_mean_seen mean)

pub returns-clause-stands : goal.returns-clause-stands
returns-clause-stands c =
    let there = subst
    (λ ks. AreAt c.args.values.now ks c.in_ok-operands.operands.items) c.as_slice.ensures.value c.in_ok-operands.ensures.0 in
    let mean = picked c.args.instruction.now.operands.items c.in_ok-operands.operands.items c.requires.stands there in
    let values : Environment → List Value = λ e. map (at (values_in c.args._done.now e)) c.args.instruction.now.operands.items in
    let value = c.in_ok-make.ensures.value values
    (subst (λ ts. AllMean op_algebra c.args.pass.now ts values) (sym c.as_slice-2.ensures) mean) in
    stand_more c.args._done.now c.args.instruction.now c.make.ensures.extends c.requires.stands value
