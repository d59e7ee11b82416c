use Rattle.std.proofs.Common.{◌≡◌, sym, refl, arith}
use Rattle.c_tokens.specs.declared.token.Mark.{Mark}
use Rattle.c_tree.specs.declared.tree.BinaryOp.{BinaryOp}
use Rattle.c_front.specs.Grammar.{Level, Operator, multiply}
use Rattle.c_front.proofs.Ranks.{none-operating}
use Rattle.c_front.proofs.expression.operator_of.Goals.{In_default}
use Rattle.c_front.proofs.expression.operator_of.Goals as goal

-- a mark that is none of the operators' operates at no level
none-operates : (c : In_default) {l : Level} {o : BinaryOp} {t : Mark} → Operator l o t → t ≡ c.args.mark → ⊥
none-operates c multiply e = c.in_default.not-Star (sym e)
none-operates c _ e = grind arith

pub returns-in_default-clause-none : goal.returns-in_default-clause-none
returns-in_default-clause-none c = λ l. none-operating l _ (λ o r. none-operates (goal.at.returns-in_default-clause-none c).In_default r refl)
