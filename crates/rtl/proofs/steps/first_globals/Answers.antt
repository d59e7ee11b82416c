use Rattle.std.proofs.Common.{map, ap, ◌∙◌}
use Rattle.std.proofs.lemmas.List.{take_all}
use Rattle.rtl.specs.Meaning.{first_values}
use Rattle.rtl.proofs.steps.first_globals.Goals as goal

pub returns : goal.returns
returns c = c.loop-global.invariant ∙ ap (map first_values) (take_all c.loop-global.global-index c.args.globals.now
    c.loop-global-test.false)
