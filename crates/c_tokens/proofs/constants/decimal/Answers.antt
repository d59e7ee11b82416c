use Rattle.std.proofs.Common.{◌<◌, ◌≤◌, arith, refl, sym, slice_index_or}
use Rattle.c_tokens.proofs.Decimals.{no-zero, plain-constant, suffixed-constant}
use Rattle.c_tokens.proofs.constants.decimal.Goals.{then-n-text+then-is_suffix, else-n-text}
use Rattle.c_tokens.proofs.constants.decimal.Goals as goal

pub returns-clause-same : goal.returns-clause-same
returns-clause-same c =
    let some : 0 < c.first_digits-value.result.1 = omega (arith, c.if-n-eq0.false) in
    let first = no-zero (slice_index_or c.args.text.now 0 0) c.if-text-eq48.false in
    let low : c.first_digits-value.result.0 ≤ 2147483647 = omega (arith, c.first_digits-value.ensures.low) in
    let end = c.if-not-run_ends.ensures refl in
    elim c.if-n-text.branch [
      | then-n-text+then-is_suffix w ↦ rw w.integer_type-is (suffixed-constant c.args.text.now c.first_digits-value.result.1 c.first_digits-value.result.0
          some first low c.first_digits-value.ensures.spells w.if-n-text.true (sym w.if-is_suffix.ensures) (rw w.integer_type-is at end))
      | else-n-text w ↦ rw w.integer_type-is (plain-constant c.args.text.now c.first_digits-value.result.1 c.first_digits-value.result.0
          some first low c.first_digits-value.ensures.spells (rw w.integer_type-is at end))
    ]
