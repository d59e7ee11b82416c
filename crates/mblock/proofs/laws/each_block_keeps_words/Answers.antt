use Rattle.mblock.proofs.StateWords.{block_words}
use Rattle.mblock.proofs.laws.each_block_keeps_words.Goals as goal

pub returns : goal.returns
returns c = block_words
