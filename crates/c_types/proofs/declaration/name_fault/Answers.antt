use Rattle.c_tree.specs.Shape.{declaration_of}
use Rattle.c_types.specs.Files.{file_of}
use Rattle.c_types.proofs.Declared.{again-stops, kind-stops, limit-stops, no-stop}
use Rattle.c_types.proofs.declaration.name_fault.Goals as goal

pub returns-then-declares-clause-err : goal.returns-then-declares-clause-err
returns-then-declares-clause-err c =
    again-stops c.args.program.now.text.items (file_of c.args.scopes.now c.args.tally.now) (declaration_of c.args.declaration.now)
    _ _ c.declared_name-name.ensures c.declares.ensures _ c.if-declares.true c.misuse.ensures

pub returns-then-is_other_kind-clause-err : goal.returns-then-is_other_kind-clause-err
returns-then-is_other_kind-clause-err c =
    kind-stops c.args.program.now.text.items (file_of c.args.scopes.now c.args.tally.now) (declaration_of c.args.declaration.now)
    _ _ c.declared_name-name.ensures c.declares.ensures _ c.if-declares.false
    (c.is_other_kind.ensures.yes c.if-is_other_kind.true) c.misuse-then-is_other_kind.ensures

pub returns-then-exceeded_by-clause-err : goal.returns-then-exceeded_by-clause-err
returns-then-exceeded_by-clause-err c =
    limit-stops c.args.program.now.text.items (file_of c.args.scopes.now c.args.tally.now) (declaration_of c.args.declaration.now)
    _ _ c.declared_name-name.ensures c.declares.ensures _ c.if-declares.false
    (c.is_other_kind.ensures.no c.if-is_other_kind.false) (c.exceeded_by.ensures.yes c.if-exceeded_by.true) c.misuse-then-exceeded_by.ensures

pub returns-clause-none : goal.returns-clause-none
returns-clause-none c =
    no-stop c.args.program.now.text.items (file_of c.args.scopes.now c.args.tally.now) (declaration_of c.args.declaration.now)
    _ _ c.declared_name-name.ensures c.declares.ensures c.if-declares.false
    (c.is_other_kind.ensures.no c.if-is_other_kind.false) (c.exceeded_by.ensures.no c.if-exceeded_by.false)
