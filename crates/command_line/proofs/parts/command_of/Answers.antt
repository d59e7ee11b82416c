use Rattle.std.proofs.Common.{sym, ◌∙◌}
use Rattle.std.proofs.lemmas.List.{at_drop_all}
use Rattle.command_line.specs.Parts.{app_with}
use Rattle.command_line.proofs.parts.command_of.Goals as goal

pub returns-clause-app : goal.returns-clause-app
returns-clause-app g c =
    sym (at_drop_all (app_with (g.C.CommandBuilder.app c.loop-part.command)) c.args.parts.now.parts.now c.loop-part.part-index c.loop-part-test.false)
    ∙ c.loop-part.invariant.0
