-- What a tree takes from its text, and what is told of a place in it.
use Rattle.std.specs.Prelude.{ℕ, List, ◌++◌, codes, decimal, take, drop}

-- the spelling of a name: its bytes in the text
abbrev pub spelling_of : List ℕ → ℕ → ℕ → List ℕ
spelling_of text at n = take n (drop at text)

-- what a fault with a place prints: its number, its name and its offset
abbrev pub placed_fault_text : (number : ℕ) → (name : List ℕ) → (at : ℕ) → List ℕ
placed_fault_text number name at = codes "fault " ++ decimal number ++ codes " " ++ name ++ codes " at " ++ decimal at
