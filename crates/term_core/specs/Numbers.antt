-- The numbers of words that the constants of src/lib.rt are.
use Rattle.std.specs.Prelude.{◌≡◌}
use Rattle.term_core.specs.declared.TheConstants.{MAX_CHILDREN, CONTENT_WORDS, LAST_WORD, NODE_WORDS}

abbrev pub CountsAreTheseNumbers : Type 0
CountsAreTheseNumbers = (MAX_CHILDREN ≡ 3) × (CONTENT_WORDS ≡ 4) × (LAST_WORD ≡ 3) × (NODE_WORDS ≡ 5)
