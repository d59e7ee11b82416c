use Rattle.std.proofs.Common.{rules, refl, sym, ◌∙◌}
use Rattle.c_statements.proofs.Joins.{answers-err, answers-of}
use Rattle.c_types.proofs.Declarations.{declaration-told}
use Rattle.c_types.proofs.program.declaration.Goals as goal

pub returns-in_err-typed-2-clause-typed : goal.returns-in_err-typed-2-clause-typed
returns-in_err-typed-2-clause-typed c =
    let name = answers-of c.name_fault-fault.ensures.none c.name_fault-fault.ensures.err in
    let told = declaration-told refl c.in_ok-declare.ensures.scopes c.declared_name.ensures c.next_named.ensures name c.body.ensures.typed in
    let was = rw c.in_ok-typed.ensures.ok.0 at (sym c.both.ensures ∙ c.in_err-typed-2.was) in
    answers-err c.in_err-typed-2.field-0.0 (search rules) (rw was at told).err
