-- The keywords that a table of the program holds.
use Rattle.std.specs.Prelude.{ℕ, List}
use Rattle.std.specs.Borrow.{Bor}
use Rattle.c_tokens.specs.declared.keywords.Reserved.{Reserved}

abbrev pub keyword_of : Bor (List ℕ) × Reserved → List ℕ × Reserved
keyword_of k = (k.0.now, k.1)
