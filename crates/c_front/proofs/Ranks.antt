-- How tightly the token after some operands would bind them.
use Rattle.std.proofs.Common.{◌≡◌, ◌≢◌, ℕ, suc, [], ◌∷◌, Option, Some, None, refl, ap}
use Rattle.c_tokens.specs.declared.token.Token.{Token}
use Rattle.c_tokens.specs.declared.token.Token.TheVariants.{The}
use Rattle.c_tokens.specs.declared.token.Mark.{Mark}
use Rattle.c_tokens.specs.declared.token.Mark.TheVariants.{LeftParen, LeftBracket, Question, Plus, Minus, Star, Slash, Percent, BarBar, AndAnd, Bar}
use Rattle.c_tokens.specs.declared.token.Mark.TheVariants.{Caret, Ampersand, EqualEqual, BangEqual, LessSign, GreaterSign, LessEqual, GreaterEqual}
use Rattle.c_tokens.specs.declared.token.Mark.TheVariants.{LessLess, GreaterGreater}
use Rattle.c_tree.specs.declared.tree.BinaryOp.{BinaryOp}
use Rattle.c_front.specs.Grammar.{the, Level, unary_expressions, above, operands, more_operands, T, N, Operator, multiply, operands_end, operands_more}
use Rattle.c_front.specs.Choosing.{operator_at, more_choice, one_choice, EndsOperands}

-- an index or an argument binds tightest, then each level of operators, then a condition, then all that ends an expression
abbrev pub rank_of : Option Token → ℕ
rank_of (Some (The LeftParen)) = 0
rank_of (Some (The LeftBracket)) = 0
rank_of (Some (The Star)) = 1
rank_of (Some (The Slash)) = 1
rank_of (Some (The Percent)) = 1
rank_of (Some (The Plus)) = 2
rank_of (Some (The Minus)) = 2
rank_of (Some (The LessLess)) = 3
rank_of (Some (The GreaterGreater)) = 3
rank_of (Some (The LessSign)) = 4
rank_of (Some (The GreaterSign)) = 4
rank_of (Some (The LessEqual)) = 4
rank_of (Some (The GreaterEqual)) = 4
rank_of (Some (The EqualEqual)) = 5
rank_of (Some (The BangEqual)) = 5
rank_of (Some (The Ampersand)) = 6
rank_of (Some (The Caret)) = 7
rank_of (Some (The Bar)) = 8
rank_of (Some (The AndAnd)) = 9
rank_of (Some (The BarBar)) = 10
rank_of (Some (The Question)) = 11
rank_of _ = 12

abbrev pub rank : Level → ℕ
rank unary_expressions = 1
rank (above l) = suc (rank l)

pub operator-rank : {l : Level} {o : BinaryOp} {t : Mark} → Operator l o t → rank_of (Some (The t)) ≡ rank l
operator-rank multiply = refl
operator-rank _ = refl

pub operator-found : {l : Level} {o : BinaryOp} {t : Mark} (r : Operator l o t) → operator_at l t ≡ Some (o, r)
operator-found multiply = refl
operator-found _ = refl

pub chosen-operator : {l : Level} {o : BinaryOp} {t : Mark} (r : Operator l o t) →
    one_choice (more_operands l) (Some (The t)) ≡ Some (T (the t) ∷ N (operands l) ∷ N (more_operands l) ∷ [], operands_more r)
chosen-operator {l = l} {t = t} r = ap (λ (x : Option ((o : BinaryOp) × Operator l o t)). Some (more_choice l t x)) (operator-found r)

pub none-operating : (l : Level) (t : Mark) → ((o : BinaryOp) → Operator l o t → ⊥) → EndsOperands l (Some (The t))
none-operating l t h = elim (operator_at l t) as (λ x. Some (more_choice l t x) ≡ Some ([], operands_end)) [ None ↦ refl | Some r ↦ absurd (h r.0 r.1) ]

-- a token of another rank ends the operands of a level
pub ends-operands : (l : Level) (next : Option Token) → rank_of next ≢ rank l → EndsOperands l next
ends-operands l (Some (The t)) h = none-operating l t (λ o r. h (operator-rank r))
ends-operands l _ h = refl
