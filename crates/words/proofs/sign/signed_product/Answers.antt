use Rattle.words.proofs.Products.{product_fits, product_kept}
use Rattle.words.proofs.sign.signed_product.Goals as goal

pub overflow_mul-result : goal.overflow_mul-result
overflow_mul-result c = product_fits c.from.result c.from-2.result c.args.a c.args.b c.ranges.a c.ranges.b c.from.ensures c.from-2.ensures

pub returns : goal.returns
returns c = product_kept c.from.result c.from-2.result c.args.a c.args.b c.ranges.a c.ranges.b c.from.ensures c.from-2.ensures
