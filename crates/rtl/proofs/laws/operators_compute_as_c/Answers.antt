use Rattle.rtl.proofs.Computing.{sum-is, difference-is, product-is, quotient-is, remainder-is, negation-is, left_shift-is, right_shift-is}
use Rattle.rtl.proofs.Computing.{below-is, not_above-is, complement-is}
use Rattle.rtl.proofs.laws.operators_compute_as_c.Goals as goal

pub returns : goal.returns
returns c = record {
  sum = sum-is;
  difference = difference-is;
  product = product-is;
  quotient = quotient-is;
  remainder = remainder-is;
  negation = negation-is;
  left_shift = left_shift-is;
  right_shift = right_shift-is;
  below = below-is;
  not_above = not_above-is;
  complement = complement-is;
}
