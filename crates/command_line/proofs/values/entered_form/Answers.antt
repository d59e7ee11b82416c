use Rattle.std.proofs.Common.{◌∙◌, sym, codes}
use Rattle.clap.specs.Words.{first_of, found_of, rows_of}
use Rattle.clap.proofs.WalkLemmas.{first_value-rows}
use Rattle.host.specs.declared.numbers.WordForm.TheVariants as forms
use Rattle.command_line.specs.Commands.{form_name}
use Rattle.command_line.proofs.Names.{named_none, named_some}
use Rattle.command_line.proofs.values.entered_form.Goals as goal

pub returns-in_default-clause-form : goal.returns-in_default-clause-form
returns-in_default-clause-form c =
    named_none form_name forms.Unsigned (first_of (codes "as") (rows_of (found_of c.args.values.now)))
    (sym (first_value-rows (found_of c.args.values.now) (codes "as")) ∙ sym c.in_default.ensures)

pub returns-in-Some-form_named-clause-form : goal.returns-in-Some-form_named-clause-form
returns-in-Some-form_named-clause-form c =
    named_some form_name forms.Unsigned c.in-Some-form_named.form (first_of (codes "as") (rows_of (found_of c.args.values.now))) c.in-Some.name.now
    (sym (first_value-rows (found_of c.args.values.now) (codes "as")) ∙ sym c.in-Some.ensures) c.in-Some-form_named.ensures.form

pub returns-in-None-clause-none : goal.returns-in-None-clause-none
returns-in-None-clause-none c =
    (sym (first_value-rows (found_of c.args.values.now) (codes "as")) ∙ sym c.in-Some.ensures, c.in-None.ensures.none)
