use Rattle.std.proofs.Common.{sym}
use Rattle.c_types.specs.Shape.{TypedParts}
use Rattle.c_types.proofs.FitsPrograms.{main-there}
use Rattle.c_types.proofs.typed_program.Typed.main.Goals as goal

pub returns-clause-there : goal.returns-clause-there
returns-clause-there c =
    let parts : TypedParts = record { functions = c.self.inside.functions.items; globals = c.self.inside.globals.items; main = c.self.inside.main } in
    rw (sym c.self.view_is) (main-there parts c.self.invariant)
