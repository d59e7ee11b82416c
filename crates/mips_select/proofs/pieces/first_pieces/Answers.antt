use Rattle.std.proofs.Common.{◌≡◌, ◌+◌, refl, arith}
use Rattle.std.proofs.lemmas.Grind.{common_steps}
use Rattle.mips_select.specs.Split.{total, firsts, count_of}
use Rattle.mips_select.proofs.Lists.{drop_item, made_more, all_made}
use Rattle.mips_select.proofs.pieces.first_pieces.Goals as goal

pub loop-block-preserved : goal.loop-block-preserved
loop-block-preserved c =
    let long = c.args.long.now in
    let i = c.loop-block.block-index in
    let b = c.block-item.result in
    let lt = c.loop-block-test.true in
    let sizes = drop_item (total 512) long i lt c.block-item.is in
    let count : count_of 512 b ≡ 1 + c.count_more-more.result = omega (arith, c.count_more-more.ensures.value) in
    record {
      few = grind (arith, common_steps);
      counts = omega (arith, sizes, count, c.loop-block.invariant.counts);
      numbers = rw (c.in_ok-push.ensures, c.number.ensures)
          (made_more (firsts 512 c.loop-block.k) long i _ _ _ lt c.block-item.is (rw count) c.loop-block.invariant.numbers);
    }

pub returns-then-is_beyond-clause-limit : goal.returns-then-is_beyond-clause-limit
returns-then-is_beyond-clause-limit c = λ _.
    let sizes = drop_item (total 512) c.args.long.now c.loop-block.block-index c.loop-block-test.true c.block-item.is in
    let over = c.is_beyond.ensures.0 c.if-is_beyond.true in
    omega (arith, sizes, c.count_more-more.ensures.value, c.loop-block.invariant.counts, over)

pub returns-clause-numbers : goal.returns-clause-numbers
returns-clause-numbers c =
    all_made (firsts 512 c.loop-block.k) c.args.long.now c.loop-block.block-index c.loop-block-test.false refl c.loop-block.invariant.numbers
