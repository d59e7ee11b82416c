use Rattle.std.proofs.Common.{ap, ◌∙◌}
use Rattle.c_tokens.specs.Digits.{is_suffix}
use Rattle.c_tokens.proofs.Limits.{last-at}
use Rattle.c_tokens.proofs.constants.is_suffixed.Goals as goal

pub returns : goal.returns
returns c = c.is_suffix.ensures ∙ ap is_suffix (last-at _ 0 c.requires)
