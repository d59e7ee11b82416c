use Rattle.mblock.proofs.PlainMeans.{each_plain_unit_has_its_orders}
use Rattle.mblock.proofs.laws.each_plain_unit_has_its_orders.Goals as goal

pub returns : goal.returns
returns c = each_plain_unit_has_its_orders
