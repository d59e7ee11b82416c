-- What `break` and `continue` skip.
use Rattle.std.specs.Prelude.{List, [], ◌∷◌}
use Rattle.c_typed.specs.Meaning.{Todo, Do, Next}

-- past the end of the turn that is nearest
abbrev pub past_turn : List Todo → List Todo
past_turn [] = []
past_turn (Do s ∷ k) = past_turn k
past_turn (Next last again ∷ k) = k

-- at the end of the turn that is nearest
abbrev pub at_turn : List Todo → List Todo
at_turn [] = []
at_turn (Do s ∷ k) = at_turn k
at_turn (Next last again ∷ k) = Next last again ∷ k
