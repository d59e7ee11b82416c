use Rattle.mblock.proofs.PlainMeans.{plain_means}
use Rattle.mblock.proofs.laws.each_plain_order_means_its_block.Goals as goal

pub returns : goal.returns
returns c = plain_means
