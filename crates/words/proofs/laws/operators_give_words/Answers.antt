use Rattle.words.proofs.Bounds.{op_words}
use Rattle.words.proofs.laws.operators_give_words.Goals as goal

pub returns : goal.returns
returns c = op_words
