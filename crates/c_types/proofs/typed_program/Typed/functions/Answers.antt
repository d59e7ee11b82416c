use Rattle.std.proofs.Common.{sym}
use Rattle.c_types.specs.Shape.{TypedParts, program_of}
use Rattle.c_types.proofs.FitsPrograms.{each-typed-program-is-well-formed}
use Rattle.c_types.proofs.typed_program.Typed.functions.Goals as goal

pub returns-clause-fits : goal.returns-clause-fits
returns-clause-fits c =
    let parts : TypedParts = record { functions = c.self.inside.functions.items; globals = c.self.inside.globals.items; main = c.self.inside.main } in
    rw (sym c.self.view_is) (each-typed-program-is-well-formed (program_of parts) c.self.invariant)
