use Rattle.block_validator.proofs.Meaning.{each_checked_order_means_its_block}
use Rattle.block_validator.proofs.verdict.checked_orders_mean_their_blocks.Goals as goal

pub returns : goal.returns
returns c = each_checked_order_means_its_block
