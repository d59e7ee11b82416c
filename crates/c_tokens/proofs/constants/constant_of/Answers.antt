use Rattle.std.proofs.Common.{ap, ◌∙◌, length}
use Rattle.c_tokens.specs.declared.lexer.Lexeme.TheVariants.{Numeral}
use Rattle.c_tokens.specs.declared.token.IntegerType.{IntegerType}
use Rattle.c_tokens.proofs.Limits.{constant-is}
use Rattle.c_tokens.proofs.constants.constant_of.Goals as goal

pub returns-in-Some-clause-same : goal.returns-in-Some-clause-same
returns-in-Some-clause-same c =
    ap (λ (k : IntegerType). Numeral (record { value = c.in-Some.value; integer_type = k }) (length c.args.run.now)) c.constant_type.ensures
    ∙ constant-is c.args.run.now _ _ _ c.in-Some.ensures c.greatest.ensures.same c.digits.ensures

pub returns-in-None-clause-same : goal.returns-in-None-clause-same
returns-in-None-clause-same c = constant-is c.args.run.now _ _ _ c.in-None.ensures c.greatest.ensures.same c.digits.ensures
