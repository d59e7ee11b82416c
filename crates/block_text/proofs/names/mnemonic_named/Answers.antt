use Rattle.std.proofs.Common.{◌∙◌}
use Rattle.mips_isa.specs.Texts.{mnemonic_text}
use Rattle.block_text.specs.declared.names.TheConstants.{MNEMONICS}
use Rattle.block_text.proofs.Named.{found, found_by}
use Rattle.block_text.proofs.names.mnemonic_named.Goals as goal

pub returns-clause-found : goal.returns-clause-found
returns-clause-found c = found (λ n. mnemonic_text n) c.args.word.now MNEMONICS.now _ c.first_named.ensures

pub returns-clause-only : goal.returns-clause-only
returns-clause-only c = λ n e. c.first_named.ensures ∙ found_by c.args.word.now n e
