use Rattle.mblock.proofs.PlainMeans.{clean_plain}
use Rattle.mblock.proofs.laws.each_plain_order_is_clean.Goals as goal

pub returns : goal.returns
returns c = clean_plain
