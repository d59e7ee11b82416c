use Rattle.std.proofs.lemmas.List.{take_all}
use Rattle.c_statements.specs.Shape.{scopes_of}
use Rattle.c_statements.specs.Names.{environment_in}
use Rattle.c_statements.proofs.Arguments.{none-so-far, one-so-far}
use Rattle.c_statements.proofs.simple.arguments.Goals as goal

pub loop-one-init : goal.loop-one-init
loop-one-init c = none-so-far (environment_in c.args.program.now.text.items (scopes_of c.args.scopes.now)) _ c.in_ok-with_capacity.ensures.items

pub loop-one-preserved : goal.loop-one-preserved
loop-one-preserved c =
    one-so-far _ _ _ c.loop-one-test.true c.one-item.is c.loop-one.invariant c.expression.ensures c.with_one-typed.ensures.ok c.with_one-typed.ensures.err

pub returns : goal.returns
returns c = rw (take_all c.loop-one.one-index c.args.all.now c.loop-one-test.false) at c.loop-one.invariant
