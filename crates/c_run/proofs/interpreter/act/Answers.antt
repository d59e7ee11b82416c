use Rattle.std.proofs.Common.{◌≡◌, ap, refl, rules}
use Rattle.c_typed.specs.Shape.{statement_of, typed_expression_of}
use Rattle.c_types.specs.Shape.{program_of}
use Rattle.c_typed.specs.Trees.{if_else}
use Rattle.c_run.proofs.Acts.{acted, acted-here}
use Rattle.c_run.proofs.interpreter.act.Goals as goal

pub returns-in-Assign : goal.returns-in-Assign
returns-in-Assign c = acted-here (program_of c.args.program.now) c.args.depth c.args.s.now _ c.args.interpreter.now c.assign_to.new.interpreter
    c.assign_to.result (ap statement_of c.in-Assign.is) c.assign_to.ensures

pub returns-in-Store : goal.returns-in-Store
returns-in-Store c = acted-here (program_of c.args.program.now) c.args.depth c.args.s.now _ c.args.interpreter.now c.store_at.new.interpreter c.store_at.result
    (ap statement_of c.in-Store.is) c.store_at.ensures

pub returns-in-Output : goal.returns-in-Output
returns-in-Output c = acted (program_of c.args.program.now) c.args.depth c.args.s.now _ c.args.interpreter.now c.write_out.new.interpreter c.write_out.result
    (ap statement_of c.in-Output.is) c.write_out.ensures

pub returns-in-If : goal.returns-in-If
returns-in-If c =
    let is : statement_of c.args.s.now ≡ if_else (typed_expression_of c.in-If.test) (statement_of c.deref-in-If.result.now)
    (statement_of c.deref-in-If-2.result.now) = search rules in
    acted (program_of c.args.program.now) c.args.depth c.args.s.now _ c.args.interpreter.now c.branch_on.new.interpreter c.branch_on.result is
    c.branch_on.ensures

pub returns-in-Return : goal.returns-in-Return
returns-in-Return c = acted-here (program_of c.args.program.now) c.args.depth c.args.s.now _ c.args.interpreter.now c.return_word.new.interpreter
    c.return_word.result (ap statement_of c.in-Return.is) c.return_word.ensures

pub returns-in-Loop : goal.returns-in-Loop
returns-in-Loop c = acted (program_of c.args.program.now) c.args.depth c.args.s.now _ c.args.interpreter.now c.repeat.new.interpreter c.repeat.result refl
    c.repeat.ensures
