use Rattle.std.proofs.Common.{refl}
use Rattle.clap.proofs.OnLiterals.{clap_on_literals}
use Rattle.command_line.proofs.laws.some_words_are_taken.Goals as goal

pub returns-clause-run : goal.returns-clause-run
unfolding clap_on_literals
returns-clause-run c = refl

pub returns-clause-check : goal.returns-clause-check
unfolding clap_on_literals
returns-clause-check c = refl

pub returns-clause-build : goal.returns-clause-build
unfolding clap_on_literals
returns-clause-build c = refl
