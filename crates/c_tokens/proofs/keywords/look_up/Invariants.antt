use Rattle.std.proofs.Common.{◌≡◌, drop, map}
use Rattle.c_tokens.specs.Lexing.{entry_in}
use Rattle.c_tokens.specs.Keywords.{keyword_of}
use Rattle.c_tokens.proofs.keywords.look_up.Given as goal

abbrev pub invariant-loop-entry : goal.invariant-loop-entry
invariant-loop-entry l = entry_in (map keyword_of l.fn.table) l.fn.word ≡ entry_in (map keyword_of (drop l.entry-index l.fn.table)) l.fn.word
