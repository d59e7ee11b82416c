use Rattle.std.proofs.Common.{◌∙◌, sym, refl, codes}
use Rattle.clap.specs.Words.{found_of}
use Rattle.clap.proofs.WalkLemmas.{first_value-rows}
use Rattle.command_line.proofs.values.entered_build.Goals as goal

pub returns : goal.returns
returns c = (
  refl,
  sym (first_value-rows (found_of c.args.values.now) (codes "SOURCE")) ∙ sym c.in_ok-source.ensures,
  sym (first_value-rows (found_of c.args.values.now) (codes "IMAGE")) ∙ sym c.in_ok-image.ensures,
  c.flag-plain.ensures,
  c.in_ok-depth.ensures,
  c.in_ok-workers.ensures,
  c.in_ok-nodes.ensures,
  c.in_ok-heads.ensures,
)
