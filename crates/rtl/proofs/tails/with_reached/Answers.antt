use Rattle.std.proofs.Common.{◌≡◌, ◌-◌, ◌<◌, suc, true, false, get_or, length, refl, sym, ap, ◌∙◌, arith}
use Rattle.std.proofs.Math.ListN.{length-set}
use Rattle.std.proofs.lemmas.List.{drop_all}
use Rattle.std.proofs.lemmas.Grind.{common_steps}
use Rattle.rtl.specs.Tails.{is_reached, empty_code}
use Rattle.rtl.proofs.Kept.{reached_named, unreached, kept_before, empty_before, kept_all}
use Rattle.rtl.proofs.tails.with_reached.Goals as goal

pub loop-number-preserved : goal.loop-number-preserved
loop-number-preserved c =
    let was = c.args.blocks.items in
    let now = c.loop-number.blocks.items in
    let n = c.loop-number.number in
    let i = c.loop-number.invariant in
    let next : n ≡ suc (n - 1) = omega (arith, c.loop-number-test.true) in
    let lt : n - 1 < length was = omega (arith, c.loop-number-test.true, c.loop-number.auto.number) in
    let lt' : n - 1 < length now = omega (arith, lt, i.2) in
    let marked : get_or c.in_ok-marks.marks.items (n - 1) false ≡ true = grind (arith, common_steps) in
    let named = reached_named was (n - 1) (sym (i.4 (n - 1) lt) ∙ marked) in
    let kept = kept_before (is_reached was) n (n - 1) was now next named i.0 i.1 lt lt' in
    (kept.0, kept.1, i.2, i.3, i.4)

pub loop-number-init : goal.loop-number-init
loop-number-init c =
    let all = c.args.blocks.items in
    let marks = rw c.as_slice.ensures.value at c.in_ok-marks.ensures in
    rw (drop_all c.len-number.result all (omega (arith, c.len-number.ensures))) (refl, tt, refl, marks.0, marks.1)

pub returns : goal.returns
returns c =
    let i = c.loop-number.invariant in
    kept_all (is_reached c.args.blocks.items) c.loop-number.number c.args.blocks.items c.loop-number.blocks.items c.loop-number-test.false
    (omega (arith, c.loop-number.auto.number, c.len-number.ensures)) i.2 refl i.0 i.1

pub loop-number-preserved-then-not-index : goal.loop-number-preserved-then-not-index
loop-number-preserved-then-not-index c =
    let was = c.args.blocks.items in
    let now = c.loop-number.blocks.items in
    let n = c.loop-number.number in
    let i = c.loop-number.invariant in
    let next : n ≡ suc (n - 1) = omega (arith, c.loop-number-test.true) in
    let lt : n - 1 < length was = omega (arith, c.loop-number-test.true, c.loop-number.auto.number, c.len-number.ensures) in
    let lt' : n - 1 < length now = omega (arith, lt, i.2) in
    let none = sym (i.4 (n - 1) lt) ∙ sym (rw c.if-not-index.true at c.index.ensures) in
    let named = unreached was (n - 1) (omega (arith, c.loop-number-test.true)) none in
    let is = c.clear.ensures ∙ ap empty_code c.index_mut.ensures.value in
    let kept = empty_before (is_reached was) n (n - 1) was now c.clear.new.block c.index_mut.result.now next named is i.0 i.1 lt lt' in
    (kept.0, kept.1, length-set now (n - 1) c.clear.new.block ∙ i.2, i.3, i.4)
