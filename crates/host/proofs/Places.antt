-- Where the lines of a text begin.
use Rattle.std.proofs.Common.{◌≡◌, ℕ, ◌+◌, ◌-◌, ◌<◌, suc, true, false, List, [], ◌∷◌, length, get_or, drop, codes, refl, ◌≤◌, add-one, drop-cons, arith}
use Rattle.std.proofs.lemmas.List.{drop_all}
use Rattle.std.proofs.lemmas.Bool.{eq-eqb, ne_eqb}
use Rattle.host.specs.Places.{column_at, is_line_feed, line_at, line_start, lines_length}

no_lines : (text : List ℕ) → lines_length 0 text ≡ 0
no_lines [] = refl
no_lines (byte ∷ rest) = refl

-- a loop counts the lines that have begun, until it comes to a line
module _ (text : List ℕ) (line k ends : ℕ) where
  pub offset_found : line ≤ ends → k + lines_length (line - ends) (drop k text) ≡ k
  offset_found le =
      let none : line - ends ≡ 0 = omega arith in
      let e : lines_length (line - ends) (drop k text) ≡ 0 = rw none (no_lines (drop k text)) in
      omega (arith, e)

  pub offset_past : length text ≤ k → k ≤ length text → k + lines_length (line - ends) (drop k text) ≡ length text
  offset_past low high =
      let e : lines_length (line - ends) (drop k text) ≡ 0 = rw (drop_all k text low) refl in
      omega (arith, e)

  -- a byte of a line before it, which maybe ends that line
  module _ (within : k < length text) (more : ends < line) where
    split : drop k text ≡ get_or text k 0 ∷ drop (k + 1) text
    split = rw add-one (drop-cons text k 0 within)

    pub offset_ends : (next : ℕ) → get_or text k 0 ≡ 10 → next ≡ ends + 1
        → k + lines_length (line - ends) (drop k text) ≡ k + 1 + lines_length (line - next) (drop (k + 1) text)
    offset_ends next e is =
        let feed : is_line_feed (get_or text k 0) ≡ true = eq-eqb (get_or text k 0) 10 e in
        let left : line - ends ≡ suc (line - next) = omega arith in
        rw (split, left, feed) (omega arith)

    pub offset_goes : (next : ℕ) → (get_or text k 0 ≡ 10 → ⊥) → next ≡ ends
        → k + lines_length (line - ends) (drop k text) ≡ k + 1 + lines_length (line - next) (drop (k + 1) text)
    offset_goes next other is =
        let no : is_line_feed (get_or text k 0) ≡ false = ne_eqb (get_or text k 0) 10 other in
        let left : line - ends ≡ suc (line - ends - 1) = omega arith in
        let same : line - next ≡ suc (line - ends - 1) = omega arith in
        rw (split, left, no, same) (omega arith)

-- after the last line feed a line begins at the text's end
pub rows : (line_start (codes "a\nbc\n") 2 ≡ 2) × (line_start (codes "a\nbc\n") 3 ≡ 5) × (line_at (codes "a\nbc\n") 4 ≡ 2)
    × (column_at (codes "a\nbc\n") 4 ≡ 3) × (column_at (codes "a\nbc\n") 5 ≡ 1)
rows = (refl, refl, refl, refl, refl)
