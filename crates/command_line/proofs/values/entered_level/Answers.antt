use Rattle.std.proofs.Common.{◌∙◌, sym, codes}
use Rattle.clap.specs.Words.{first_of, found_of, rows_of}
use Rattle.clap.proofs.WalkLemmas.{first_value-rows}
use Rattle.command_line.specs.declared.command.Level.TheVariants as levels
use Rattle.command_line.specs.Commands.{level_name}
use Rattle.command_line.proofs.Names.{named_none, named_some}
use Rattle.command_line.proofs.values.entered_level.Goals as goal

pub returns-in_default-clause-level : goal.returns-in_default-clause-level
returns-in_default-clause-level c =
    named_none level_name levels.C (first_of (codes "at") (rows_of (found_of c.args.values.now)))
    (sym (first_value-rows (found_of c.args.values.now) (codes "at")) ∙ sym c.in_default.ensures)

pub returns-in-Some-level_named-clause-level : goal.returns-in-Some-level_named-clause-level
returns-in-Some-level_named-clause-level c =
    named_some level_name levels.C c.in-Some-level_named.level (first_of (codes "at") (rows_of (found_of c.args.values.now))) c.in-Some.name.now
    (sym (first_value-rows (found_of c.args.values.now) (codes "at")) ∙ sym c.in-Some.ensures) c.in-Some-level_named.ensures.level

pub returns-in-None-clause-none : goal.returns-in-None-clause-none
returns-in-None-clause-none c =
    (sym (first_value-rows (found_of c.args.values.now) (codes "at")) ∙ sym c.in-Some.ensures, c.in-None.ensures.none)
