use Rattle.std.proofs.Common.{arith, sym, slice_index_or}
use Rattle.c_tokens.proofs.Decimals.{spells-more, digit-low}
use Rattle.c_tokens.proofs.constants.first_digits.Goals as goal

pub digits-preserved : goal.digits-preserved
digits-preserved c =
    let low = digit-low (slice_index_or c.args.text.now c.digits.n 0) (sym c.if-not-is_digit.ensures) in (
      spells-more _ _ _ c.digits-test.true (sym c.if-not-is_digit.ensures) c.digits.invariant.0,
      omega (arith, low, c.if-value-ge100000000.false),
    )
