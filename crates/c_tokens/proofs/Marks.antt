-- A mark that is found from the first bytes is what stands at the front, and so is a blank.
use Rattle.std.proofs.Common.{◌≡◌, ℕ, List, [], ◌∷◌, true, false, Option, Some, refl, sym, ap, nat_eq, get_or}
use Rattle.std.proofs.lemmas.Bool.{eqb-true, false_from_ne_true, and_left}
use Rattle.c_tokens.specs.declared.token.Mark.{Mark}
use Rattle.c_tokens.specs.declared.token.Token.TheVariants.{The}
use Rattle.c_tokens.specs.declared.lexer.Lexeme.TheVariants.{Sign, Separator}
use Rattle.c_tokens.specs.declared.lexer.Step.TheVariants.{Skip, Take}
use Rattle.c_tokens.specs.Lexing.{is_space, is_front, entry_in, signs}
use Rattle.c_tokens.specs.Fronts.{mark_of, sign_of, sign_lexeme, lexeme_of}
use Rattle.c_tokens.specs.Texts.{IsStep}
use Rattle.c_tokens.proofs.Finding.{operator-begins}
use Rattle.c_tokens.proofs.Pieces.{found}
use Rattle.c_tokens.proofs.Signs.{sign-none}

-- an operator that does not begin with `/` begins as no white space, word, number or comment does
pub mark-there : (text : List ℕ) (mark : Mark) (n : ℕ) → sign_of text ≡ Some (mark, n) → (get_or text 0 0 ≡ 47 → ⊥) → lexeme_of text ≡ Sign mark n
mark-there [] mark n h d = cc
mark-there (b ∷ bs) mark n h d = by (entry_in signs (b ∷ [])) refl
  where
    by : (x : Option (Option Mark)) → entry_in signs (b ∷ []) ≡ x → lexeme_of (b ∷ bs) ≡ Sign mark n
    by (Some (Some m)) e =
        let q = operator-begins b [] (Some m) e in
        let apart = false_from_ne_true (nat_eq 47 b) (λ k. d (sym (eqb-true 47 b k))) in
        let no-comment : (c : ℕ) → is_front (47 ∷ c ∷ []) (b ∷ bs) ≡ false = λ c. and_left (nat_eq 47 b) (is_front (c ∷ []) bs) apart in
        rw (q.space, q.letter, q.digit, no-comment 42, no-comment 47) (ap sign_lexeme h)
    by _ e = let f = sign-none b bs (ap mark_of e) in cc

pub mark-step : (at : ℕ) (text : List ℕ) (mark : Mark) (n : ℕ) → lexeme_of text ≡ Sign mark n → IsStep at text (Take (The mark) n)
mark-step at text mark n h = record { lexeme = Sign mark n; next = rw h at (found text); step = refl }

pub blank-step : (at b : ℕ) (bs : List ℕ) → is_space b ≡ true → IsStep at (b ∷ bs) (Skip 1)
blank-step at b bs h = record { lexeme = Separator 1; next = rw h at (found (b ∷ bs)); step = refl }
