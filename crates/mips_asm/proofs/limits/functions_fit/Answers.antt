use Rattle.std.proofs.Common.{true≢false, refl, sym, arith}
use Rattle.std.specs.Prelude.{slice_index}
use Rattle.mips_asm.proofs.Counting.{no_counts, step_counts, step_too_many, read_start}
use Rattle.mips_asm.proofs.limits.functions_fit.Goals as goal

pub returns-then-words-gt-FUNCTION_WORDS-clause-fit : goal.returns-then-words-gt-FUNCTION_WORDS-clause-fit
returns-then-words-gt-FUNCTION_WORDS-clause-fit c =
    let start = read_start c.args.owner.now c.loop-k.k _ _ _ _ (omega (arith, c.loop-k-test.true, c.requires.length)) c.index-owner-k.is
    c.number-first.ensures.value c.words_before.ensures.value in
    let value = c.size.ensures.value in
    let gt = c.if-words-gt-FUNCTION_WORDS.true in (
      λ e. absurd (true≢false (sym e)),
      λ fit.
          absurd (step_too_many _ (slice_index c.args.owner.now) c.requires.functions c.args.orders.now c.index-orders-k.result c.loop-k.k refl
          c.loop-k-test.true c.index-orders-k.is c.loop-k.words c.words_before.result c.loop-k.invariant.0 start (omega arith) fit),
    )

pub returns-then-words-gt-FUNCTION_WORDS-clause-many : goal.returns-then-words-gt-FUNCTION_WORDS-clause-many
returns-then-words-gt-FUNCTION_WORDS-clause-many c = λ e.
    omega (arith, c.words_before.ensures.small, c.size.ensures.small, c.loop-k.invariant.1, c.loop-k-test.true, c.if-words-gt-FUNCTION_WORDS.true)

pub loop-k-init : goal.loop-k-init
loop-k-init c = (no_counts (slice_index c.args.owner.now), omega arith)

pub loop-k-preserved : goal.loop-k-preserved
loop-k-preserved c =
    let start = read_start c.args.owner.now c.loop-k.k _ _ _ _ (omega (arith, c.loop-k-test.true, c.requires.length)) c.index-owner-k.is
    c.number-first.ensures.value c.words_before.ensures.value in
    let value = c.size.ensures.value in
    let le = c.if-words-gt-FUNCTION_WORDS.false in (
      rw value (step_counts _ (slice_index c.args.owner.now) c.requires.functions c.args.orders.now c.index-orders-k.result c.loop-k.k refl
          c.loop-k-test.true c.index-orders-k.is c.loop-k.words c.words_before.result c.loop-k.invariant.0 start (omega arith)),
      omega (arith, c.words_before.ensures.small, c.size.ensures.small, c.loop-k.invariant.1),
    )
