use Rattle.std.proofs.Common.{◌∙◌, sym, refl, codes, arith}
use Rattle.clap.specs.Words.{found_of}
use Rattle.clap.proofs.WalkLemmas.{first_value-rows}
use Rattle.command_line.proofs.values.entered_run.Goals as goal

pub returns : goal.returns
returns c = (
  refl,
  sym (first_value-rows (found_of c.args.values.now) (codes "IMAGE")) ∙ sym c.in_ok-image.ensures,
  c.in_ok-steps.ensures,
  omega arith,
  c.in-Ok.ensures.form,
  c.flag.ensures,
)
