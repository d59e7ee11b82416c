use Rattle.std.proofs.Common.{◌≡◌, [], ◌∷◌, ◌++◌, ◌+◌, take, sym, ap, subst, ◌∙◌}
use Rattle.std.proofs.lemmas.List.{take_all, take_more}
use Rattle.term_table.proofs.Meanings.{none_mean}
use Rattle.example_terms.specs.Standing.{StandFor}
use Rattle.example_terms.proofs.Standing.{there_means}
use Rattle.example_terms.proofs.symbolic.run.Goals as goal

pub loop-i-init : goal.loop-i-init
loop-i-init c = (
  c.requires,
  subst (λ ts. StandFor c.args.pass ts []) (sym c.new-values.ensures.items) none_mean,
)

pub loop-i-preserved : goal.loop-i-preserved
loop-i-preserved c =
    let q = c.step.new.pass in
    let code = c.as_slice-code.result.now in
    let i = c.loop-i.i in
    let done = c.index-code-i.result in
    let value = c.in_ok-value.value in
    let next : take i code ++ done ∷ [] ≡ take (i + 1) code
    = ap (λ x. take i code ++ x ∷ []) c.index-code-i.is ∙ sym (take_more code i done c.loop-i-test.true) in
    let there = subst (λ ts. StandFor q (ts ++ value ∷ [])
    (take i code ++ done ∷ [])) c.as_slice.ensures.value c.in_ok-value.ensures.stands in
    let more = subst (StandFor q (c.loop-i.values.items ++ value ∷ [])) next there in
    (c.step.ensures.own, subst (λ ts. StandFor q ts (take (i + 1) code)) (sym c.in-Ok.ensures.items) more)

pub returns : goal.returns
returns c =
    let code = c.args.block.now.instructions.items in
    let stands = subst (StandFor c.loop-i.pass c.loop-i.values.items)
    (take_all c.loop-i.i c.as_slice-code.result.now c.loop-i-test.false ∙ c.as_slice-code.ensures.value) c.loop-i.invariant.1 in
    record {
      own = c.loop-i.invariant.0;
      value = there_means (subst (λ ts. StandFor c.loop-i.pass ts code) (sym c.as_slice-2.ensures.value) stands) c.in_ok-value-2.ensures;
      memory = there_means (subst (λ ts. StandFor c.loop-i.pass ts code) (sym c.as_slice-3.ensures.value) stands) c.in_ok-memory.ensures;
    }
