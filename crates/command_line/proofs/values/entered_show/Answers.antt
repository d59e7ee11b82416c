use Rattle.std.proofs.Common.{◌∙◌, sym, refl, codes}
use Rattle.clap.specs.Words.{found_of}
use Rattle.clap.proofs.WalkLemmas.{first_value-rows}
use Rattle.command_line.proofs.values.entered_show.Goals as goal

pub returns : goal.returns
returns c =
    let first = first_value-rows (found_of c.args.values.now) in (
      refl,
      sym (first (codes "SOURCE")) ∙ sym c.in_ok-source.ensures,
      sym (first (codes "stage")) ∙ sym c.get_str-stage.ensures,
      sym (first (codes "function")) ∙ sym c.get_str-function.ensures,
      c.in_ok-block.ensures,
      c.flag-dot.ensures,
    )
