use Rattle.std.proofs.Common.{refl}
use Rattle.rtl.proofs.Computing.{product-is}
use Rattle.rtl_emit.proofs.operation.form_of.Goals as goal

pub returns-in-Multiply-clause-form : goal.returns-in-Multiply-clause-form
returns-in-Multiply-clause-form c =
    rw (c.in-Multiply.is, c.straight_op.ensures) (record { both = λ l r. refl; by = λ x y v a b e. product-is _ x y v a b e })
