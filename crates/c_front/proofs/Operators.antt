-- The operators, as rules for a search.
use Rattle.c_front.specs.Grammar.{multiply, divide, remainder, add, subtract, shift_left, shift_right, less, greater, less_or_equal, greater_or_equal}
use Rattle.c_front.specs.Grammar.{equal, not_equal, bit_and, bit_xor, bit_or, logical_and, logical_or, negate, identity, complement, not}

pub ruleset arithmetic = (multiply, divide, remainder, add, subtract, shift_left, shift_right)

pub ruleset comparisons = (less, greater, less_or_equal, greater_or_equal, equal, not_equal)

pub ruleset operators = (arithmetic, comparisons, bit_and, bit_xor, bit_or, logical_and, logical_or)

pub ruleset prefixes = (negate, identity, complement, not)
