use Rattle.std.proofs.Common.{◌≡◌, drop, false}
use Rattle.command_line.specs.Parts.{app_with, command_app}
use Rattle.command_line.proofs.parts.command_of.Given as goal

abbrev pub invariant-loop-part : goal.invariant-loop-part
invariant-loop-part g l =
    (app_with (g.C.CommandBuilder.app l.command) (drop l.part-index l.parts.parts.now) ≡ command_app l.parts)
    × (g.C.CommandBuilder.has_globals l.command ≡ false)
