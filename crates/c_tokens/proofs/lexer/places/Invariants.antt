use Rattle.std.proofs.Common.{length}
use Rattle.c_tokens.proofs.Placing.{PlacesGo}
use Rattle.c_tokens.proofs.lexer.places.Given as goal

abbrev pub invariant-lexemes : goal.invariant-lexemes
invariant-lexemes l = PlacesGo l.fn.text l.rest l.at l.places.items

abbrev pub decreases-lexemes : goal.decreases-lexemes
decreases-lexemes l = length l.rest
