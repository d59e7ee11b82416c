use Rattle.std.proofs.Common.{rules, sym, ◌∙◌}
use Rattle.c_statements.proofs.Joins.{answers-err}
use Rattle.c_tree.specs.Shape.{items_of}
use Rattle.c_statements.specs.Shape.{scopes_of}
use Rattle.c_types.proofs.Functions.{back, body-told}
use Rattle.c_types.proofs.program.function.Goals as goal

pub returns-in_err-body-clause-typed : goal.returns-in_err-body-clause-typed
returns-in_err-body-clause-typed c =
    let told = body-told _ c.args.f.now.result c.args.f.now.name _ _ c.is_some.ensures c.requires c.in_ok-enter.ensures.scopes c.in_ok-fault.ensures.scopes
    c.in_ok-fault.ensures.faults c.items.ensures.typed in
    let was = rw c.in_ok-typed.ensures.ok.0 at (sym c.both.ensures ∙ c.in_err-body.was) in
    answers-err c.in_err-body.field-0.0 (search rules) (rw (← c.as_slice.ensures.value, ← c.as_slice-2.ensures.value) (rw was at told).err)

pub returns-in_err-body-clause-scopes : goal.returns-in_err-body-clause-scopes
returns-in_err-body-clause-scopes c =
    λ m. back c.args.program.now.text.items (scopes_of c.args.scopes.now) (scopes_of c.enter.new.self) (scopes_of c.parameters.new.scopes)
    (scopes_of c.items.new.scopes) (scopes_of c.leave.new.self) (scopes_of c.start_function.new.self)
    c.as_slice.result.now (items_of c.as_slice-2.result.now) c.requires c.in_ok-enter.ensures.scopes c.in_ok-fault.ensures.scopes
    (c.items.ensures.scopes c.in_ok-typed.ensures.ok.1) c.leave.ensures c.start_function.ensures

pub returns-clause-scopes : goal.returns-clause-scopes
returns-clause-scopes c =
    λ m. back c.args.program.now.text.items (scopes_of c.args.scopes.now) (scopes_of c.enter.new.self) (scopes_of c.parameters.new.scopes)
    (scopes_of c.items.new.scopes) (scopes_of c.leave.new.self) (scopes_of c.start_function.new.self)
    c.as_slice.result.now (items_of c.as_slice-2.result.now) c.requires c.in_ok-enter.ensures.scopes c.in_ok-fault.ensures.scopes
    (c.items.ensures.scopes c.in_ok-typed.ensures.ok.1) c.leave.ensures c.start_function.ensures

pub returns-clause-typed : goal.returns-clause-typed
returns-clause-typed c = record { ok = search rules; none = search rules; err = tt }
