use Rattle.std.proofs.Common.{◌≡◌, drop}
use Rattle.command_line.specs.Parts.{app_over}
use Rattle.command_line.proofs.parts.with_commands.Given as goal

abbrev pub invariant-loop-parts : goal.invariant-loop-parts
invariant-loop-parts g l =
    app_over (g.C.CommandBuilder.app l.whole) (drop l.parts-index l.commands) ≡ app_over (g.C.CommandBuilder.app l.fn.command) l.commands
