use Rattle.std.proofs.Common.{refl, ◌∙◌, arith}
use Rattle.std.proofs.lemmas.Option.{slice_get_read}
use Rattle.mips_select.specs.Whole.{functions_size, numbers_from}
use Rattle.mips_select.proofs.Blocks.{named_here, named_long}
use Rattle.mips_select.proofs.Lists.{drop_item, made_more, all_made}
use Rattle.mips_select.proofs.numbers.number_each.Goals as goal

pub bounds-namings-i : goal.bounds-namings-i
bounds-namings-i c = omega (arith, named_long _ _ c.requires.named, c.loop-i-test.true)

pub push_numbers-requires : goal.push_numbers-requires
push_numbers-requires c =
    let i = c.loop-i.i in
    let lt = c.loop-i-test.true in
    let sizes = drop_item functions_size c.args.functions.now i lt c.index-functions-i.is in
    record {
      few = c.requires.few i c.index-functions-i.result (slice_get_read _ _ i _ refl lt c.index-functions-i.is);
      named = c.as_slice-table.ensures.value ∙ named_here _ _ i _ _ c.requires.named lt c.index-functions-i.is c.index-namings-i.is;
      number = omega (arith, sizes, c.loop-i.invariant.0, c.requires.number);
    }

pub loop-i-preserved : goal.loop-i-preserved
loop-i-preserved c =
    let funcs = c.args.functions.now in
    let i = c.loop-i.i in
    let lt = c.loop-i-test.true in (
      omega (arith, c.in_ok-size.ensures.size, drop_item functions_size funcs i lt c.index-functions-i.is, c.loop-i.invariant.0),
      rw (c.in_ok-size.ensures.numbers, c.in_ok-size.ensures.size)
          (made_more (numbers_from c.loop-i.k) funcs i _ _ _ lt c.index-functions-i.is refl c.loop-i.invariant.1),
    )

pub overflow_add-k : goal.overflow_add-k
overflow_add-k c =
    let sizes = drop_item functions_size c.args.functions.now c.loop-i.i c.loop-i-test.true c.index-functions-i.is in
    omega (arith, sizes, c.loop-i.invariant.0, c.requires.number, c.in_ok-size.ensures.size)

pub returns : goal.returns
returns c = all_made (numbers_from c.loop-i.k) c.args.functions.now c.loop-i.i c.loop-i-test.false refl c.loop-i.invariant.1
