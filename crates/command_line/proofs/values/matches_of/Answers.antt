use Rattle.std.proofs.Common.{refl}
use Rattle.command_line.specs.Commands.{mcc_app}
use Rattle.command_line.proofs.Moves.{refused_of, kinds_of}
use Rattle.command_line.proofs.values.matches_of.Goals as goal

pub returns-clause-kinds : goal.returns-clause-kinds
returns-clause-kinds c = kinds_of _ mcc_app _ _ c.in_ok-command.ensures refl c.try_get_matches_from.ensures.kinds

pub returns-clause-refused : goal.returns-clause-refused
returns-clause-refused c = refused_of _ mcc_app _ _ c.in_ok-command.ensures c.try_get_matches_from.ensures.passes
