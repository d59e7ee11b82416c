use Rattle.std.proofs.Common.{◌+◌, ◌-◌, ◌≤◌, length, drop, vec_len, vec_capacity}
use Rattle.c_tokens.proofs.Going.{LexGoes}
use Rattle.c_tokens.proofs.lexer.tokens.Given as goal

abbrev pub invariant-lexemes : goal.invariant-lexemes
invariant-lexemes l = record {
  going : LexGoes l.fn.text (drop l.at l.fn.text) l.at l.tokens.items l.sizes;
  within : l.at ≤ length l.fn.text;
  room : vec_len l.tokens + (length l.fn.text - l.at) ≤ vec_capacity l.tokens;
}

abbrev pub decreases-lexemes : goal.decreases-lexemes
decreases-lexemes l = length l.fn.text - l.at
