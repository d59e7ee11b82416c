use Rattle.std.proofs.Common.{sym, ◌∙◌}
use Rattle.std.proofs.lemmas.List.{at_drop_all}
use Rattle.command_line.specs.Parts.{app_over}
use Rattle.command_line.proofs.parts.with_commands.Goals as goal

pub returns : goal.returns
returns g c =
    sym (at_drop_all (app_over (g.C.CommandBuilder.app c.loop-parts.whole)) c.args.commands.now c.loop-parts.parts-index c.loop-parts-test.false)
    ∙ c.loop-parts.invariant
