use Rattle.std.proofs.Common.{length, ◌≡◌, ◌≤◌}
use Rattle.c_tokens.specs.Digits.{digits_of, up_to}
use Rattle.c_tokens.proofs.constants.number.Given as goal

abbrev pub invariant-digits : goal.invariant-digits
invariant-digits l = (up_to l.limit (digits_of l.base l.n l.rest) ≡ up_to l.limit (digits_of l.base 0 l.fn.digits)) × (l.n ≤ l.limit)

abbrev pub decreases-digits : goal.decreases-digits
decreases-digits l = length l.rest
