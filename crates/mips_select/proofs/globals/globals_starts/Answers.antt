use Rattle.std.proofs.Common.{refl, ap, arith}
use Rattle.std.proofs.lemmas.List.Sums.{sum_by-drop_more}
use Rattle.rtl.specs.Programs.{word_count}
use Rattle.mips_select.specs.Data.{starts_from}
use Rattle.mips_select.proofs.Lists.{made_more, all_made}
use Rattle.mips_select.proofs.globals.globals_starts.Goals as goal

pub loop-global-preserved : goal.loop-global-preserved
loop-global-preserved c =
    let n = c.loop-global.n in
    let i = c.loop-global.global-index in
    let words = c.words_of.ensures in
    let sizes = sum_by-drop_more word_count c.args.globals.now i c.global-item.result c.loop-global-test.true in
    let one = ap word_count c.global-item.is in (
      omega (arith, c.loop-global.invariant.0, words, sizes, one),
      rw (c.in_ok-push.ensures, words)
          (made_more (starts_from n) c.args.globals.now i _ _ _ c.loop-global-test.true c.global-item.is refl c.loop-global.invariant.1),
    )

pub returns : goal.returns
returns c = all_made (starts_from c.loop-global.n) c.args.globals.now c.loop-global.global-index c.loop-global-test.false refl c.loop-global.invariant.1

pub overflow_add-n : goal.overflow_add-n
overflow_add-n c =
    let sizes = sum_by-drop_more word_count c.args.globals.now c.loop-global.global-index c.global-item.result c.loop-global-test.true in
    omega (arith, c.loop-global.invariant.0, c.words_of.ensures, sizes, ap word_count c.global-item.is)

pub overflow_mul-n : goal.overflow_mul-n
overflow_mul-n c =
    let sizes = sum_by-drop_more word_count c.args.globals.now c.loop-global.global-index c.global-item.result c.loop-global-test.true in
    omega (arith, c.loop-global.invariant.0, c.words_of.ensures, sizes, ap word_count c.global-item.is)
