-- The ways through the parser of expressions, each as a step of the grammar.
use Rattle.std.proofs.Common.{◌≡◌, ◌≢◌, ◌<◌, ◌≤◌, ℕ, suc, zero, List, [], ◌∷◌, length, Option, Some, None, refl, sym, ap, ◌∙◌, arith, ◌⊎◌, inl, inr}
use Rattle.c_tokens.specs.declared.token.Token.{Token}
use Rattle.c_tokens.specs.declared.token.Token.TheVariants.{The}
use Rattle.c_tokens.specs.declared.token.Mark.{Mark}
use Rattle.c_tokens.specs.declared.token.Mark.TheVariants.{LeftParen, Plus, Minus, Bang, Tilde}
use Rattle.c_tree.specs.declared.tree.UnaryOp.{UnaryOp}
use Rattle.c_tree.specs.declared.tree.BinaryOp.{BinaryOp}
use Rattle.c_front.specs.Grammar.{the, Level, unary_expressions, above, operands, more_operands, T, N, Operator, Prefix, negate}
use Rattle.c_front.specs.Grammar.{operands_rule, operands_end, operands_more, operand_unary, grouping_of, first}
use Rattle.c_front.specs.Reading.{read_nothing}
use Rattle.c_front.specs.Choosing.{chosen_rule, EndsOperands}
use Rattle.c_front.specs.declared.cursor.ParseStop.{ParseStop}
use Rattle.c_tree.specs.Tree.{Expression, binary}
use Rattle.c_front.specs.Parsing.{level_of, EndsBelow, IsRead, IsStuck, StartsWithOperator, IsNoPrefix}
use Rattle.c_front.proofs.Steps.{followed, mark, whole, past, within, inside, GoesOn, goes-first, goes-more}
use Rattle.c_front.proofs.Reading.{same-symbols}
use Rattle.c_front.proofs.Ranks.{chosen-operator, rank, operator-rank, ends-operands}

-- a place within the operands of a level: `left` was read
abbrev pub GoesOnOperands : Level → List Token → List Token → Expression → Type 0
GoesOnOperands l ts middle left = GoesOn (operands (above l)) (more_operands l) ts middle (grouping_of left)

goes-on-first : {l : Level} {ts middle : List Token} {left : Expression} → IsRead (operands l) ts middle left → GoesOnOperands l ts middle left
goes-on-first d = goes-more goes-first operands_rule refl (λ z. z) d (λ m. refl)

operands-end : {l : Level} {ts middle : List Token} {left : Expression} → GoesOnOperands l ts middle left → EndsOperands l (first middle)
    → IsRead (operands (above l)) ts middle left
operands-end {middle = middle} g e = g.reads middle [] (whole operands_end e read_nothing)

split-at : (c k : ℕ) → c ≤ suc k → (c ≡ suc k) ⊎ (c ≤ k)
split-at c k h = grind (arith, h)

-- the levels between end where they are, so what was read is an operand of a level further out
rise : (k : ℕ) (c : ℕ) (ts middle : List Token) (left : Expression) → GoesOnOperands (level_of c) ts middle left → c ≤ k → EndsBelow k (first middle)
    → GoesOnOperands (level_of k) ts middle left
rise zero c ts middle left g h e = let q : c ≡ 0 = omega (arith, h) in rw q at g
rise (suc k) c ts middle left g h e = elim (split-at c k h) [
  | inl q ↦ rw q at g
  | inr q ↦ goes-on-first (operands-end (rise k c ts middle left g q (λ j i. e j (omega (arith, i)))) (e k (omega arith)))
]

-- a place in precedence climbing: the current level, and that no operator of a tighter one stands here
pub record Climbs (level : ℕ) (ts middle : List Token) (left : Expression) : Type 0 where
  pub current : ℕ
  pub within : current < level
  pub tighter : EndsBelow current (first middle)
  pub goes : GoesOnOperands (level_of current) ts middle left
  pub shorter : length middle < length ts

pub climbs-first : (level : ℕ) (ts middle : List Token) (left : Expression) → level ≢ 0 → IsRead (operands unary_expressions) ts middle left
    → length middle < length ts → Climbs level ts middle left
climbs-first level ts middle left z d h = record {
  current = 0;
  within = omega (arith, z);
  tighter = λ k i. absurd (omega (arith, i));
  goes = goes-on-first d;
  shorter = h;
}

rank-level : (k : ℕ) → rank (level_of k) ≡ suc k
rank-level zero = refl
rank-level (suc k) = ap suc (rank-level k)

-- an operator of one level ends the operands of the others
other-ends : (j k : ℕ) (o : BinaryOp) (middle after : List Token) → StartsWithOperator (level_of k) o middle after → j ≢ k
    → EndsOperands (level_of j) (first middle)
other-ends j k o middle after s h =
    rw s.2 (ends-operands (level_of j) (Some (The s.0)) (λ e. h (omega (arith, operator-rank s.1, rank-level j, rank-level k, e))))

not-ended : {l : Level} {o : BinaryOp} {t : Mark} → Operator l o t → EndsOperands l (Some (The t)) → ⊥
not-ended r e = let bad : _ ∷ _ ≡ [] = same-symbols (sym (chosen-operator r) ∙ e) in cc

-- the operator that stands there isn't of a level that has ended, so what was read is its left operand
at-operator : (level k : ℕ) (o : BinaryOp) (ts middle after : List Token) (left : Expression) → Climbs level ts middle left
    → StartsWithOperator (level_of k) o middle after → GoesOnOperands (level_of k) ts middle left
at-operator level k o ts middle after left g s =
    let no : (k < g.current) → ⊥ = λ h. not-ended s.1 (rw s.2 at g.tighter k h) in
    rise k g.current ts middle left g.goes (omega (arith, no)) (λ j i. other-ends j k o middle after s (λ e. omega (arith, i, e)))

pub climbs-more : (level k : ℕ) (ts middle after next : List Token) (left right : Expression) (o : BinaryOp) → Climbs level ts middle left
    → StartsWithOperator (level_of k) o middle after → k < level →
    IsRead (operands (level_of k)) after next right → EndsBelow k (first next) → length next < length ts → Climbs level ts next (binary o left right)
climbs-more level k ts middle after next left right o g s h d e i = record {
  current = k;
  within = h;
  tighter = e;
  goes = goes-more (at-operator level k o ts middle after left g s) (operands_more s.1) (rw s.2 (chosen-operator s.1)) (λ z. z)
      (followed (mark s.2) d) (λ m. refl);
  shorter = i;
}

pub climbs-end : (level : ℕ) (ts middle : List Token) (left : Expression) → Climbs level ts middle left → EndsBelow level (first middle)
    → IsRead (operands (level_of level)) ts middle left
climbs-end zero ts middle left g e = let w = g.within in absurd (omega (arith, w))
climbs-end (suc k) ts middle left g e =
    let w = g.within in
    operands-end (rise k g.current ts middle left g.goes (omega (arith, w)) (λ j i. e j (omega (arith, i)))) (e k (omega arith))

-- an operator further out ends these operands
pub further-out : (level k : ℕ) (o : BinaryOp) (middle after : List Token) → StartsWithOperator (level_of k) o middle after → level ≤ k
    → EndsBelow level (first middle)
further-out level k o middle after s h = λ j i. other-ends j k o middle after s (λ e. omega (arith, h, i, e))

-- what gets stuck in operands of a level gets stuck in those of one further out
pub lifted : (k j : ℕ) (ts : List Token) (s : ParseStop) → j ≤ k → IsStuck (operands (level_of j)) ts s → IsStuck (operands (level_of k)) ts s
lifted zero j ts s h q = let e : j ≡ 0 = omega (arith, h) in rw e at q
lifted (suc k) j ts s h q = elim (split-at j k h) [
  | inl e ↦ rw e at q
  | inr i ↦ inside operands_rule refl (λ z. z) (within _ (lifted k j ts s i q))
]

pub climbs-more-stuck : (level k : ℕ) (ts middle after : List Token) (left : Expression) (o : BinaryOp) (s : ParseStop) → Climbs level ts middle left
    → StartsWithOperator (level_of k) o middle after → k < level →
    IsStuck (operands (level_of k)) after s → IsStuck (operands (level_of level)) ts s
climbs-more-stuck level k ts middle after left o s g op h q =
    lifted level (suc k) ts s (omega (arith, h)) ((at-operator level k o ts middle after left g op).stuck s
    (inside (operands_more op.1) (rw op.2 (chosen-operator op.1)) (λ z. z) (past (mark op.2) (within _ q))))

pub chosen-prefix : {o : UnaryOp} {t : Mark} (r : Prefix o t) (after : Option Token)
    → chosen_rule (operands unary_expressions) (Some (The t)) after ≡ Some (T (the t) ∷ N (operands unary_expressions) ∷ [], operand_unary r)
chosen-prefix negate after = refl
chosen-prefix _ after = refl

pub no-operand : (t : Mark) → IsNoPrefix t → t ≢ LeftParen → (after : Option Token) → chosen_rule (operands unary_expressions) (Some (The t)) after ≡ None
no-operand Minus p c after = absurd (p.0 refl)
no-operand Plus p c after = absurd (p.1 refl)
no-operand Tilde p c after = absurd (p.2 refl)
no-operand Bang p c after = absurd (p.3 refl)
no-operand LeftParen p c after = absurd (c refl)
no-operand _ p c after = refl
