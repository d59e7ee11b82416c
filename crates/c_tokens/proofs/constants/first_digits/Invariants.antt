use Rattle.std.proofs.Common.{◌<◌, ◌-◌, ◌^◌, length}
use Rattle.c_tokens.specs.Fronts.{SpellsSoFar}
use Rattle.c_tokens.proofs.constants.first_digits.Given as goal

abbrev pub invariant-digits : goal.invariant-digits
invariant-digits l = (SpellsSoFar l.text l.n l.value) × (l.value < 10 ^ 9)

abbrev pub decreases-digits : goal.decreases-digits
decreases-digits l = length l.text - l.n
