use Rattle.std.proofs.Common.{◌∙◌}
use Rattle.block_text.specs.Spelling.{exit_name_text}
use Rattle.block_text.specs.declared.names.TheConstants.{EXIT_NAMES}
use Rattle.block_text.proofs.Named.{found, exit_found_by}
use Rattle.block_text.proofs.names.exit_named.Goals as goal

pub returns-clause-found : goal.returns-clause-found
returns-clause-found c = found (λ n. exit_name_text n) c.args.word.now EXIT_NAMES.now _ c.first_named.ensures

pub returns-clause-only : goal.returns-clause-only
returns-clause-only c = λ n e. c.first_named.ensures ∙ exit_found_by c.args.word.now n e
