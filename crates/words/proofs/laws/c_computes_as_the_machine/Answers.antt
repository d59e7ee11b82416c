use Rattle.words.proofs.OfC.{sum_agrees, difference_agrees, product_agrees, quotient_agrees, remainder_agrees, negation_agrees}
use Rattle.words.proofs.OfC.{left_shift_agrees, right_shift_agrees, complement_agrees}
use Rattle.words.proofs.laws.c_computes_as_the_machine.Goals as goal

pub returns : goal.returns
returns c = record {
  sum = sum_agrees;
  difference = difference_agrees;
  product = product_agrees;
  quotient = quotient_agrees;
  remainder = remainder_agrees;
  negation = negation_agrees;
  left_shift = left_shift_agrees;
  right_shift = right_shift_agrees;
  complement = complement_agrees;
}
