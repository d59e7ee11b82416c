use Rattle.std.proofs.Common.{refl}
use Rattle.rtl_lower.proofs.Functions.{global_code}
use Rattle.rtl_lower.proofs.function.global.Goals as goal

pub returns-clause-is : goal.returns-clause-is
returns-clause-is c =
    global_code c.args.g (record { width = c.args.g.width; length = c.args.g.length; first = c.in_ok-first.first }) refl refl
    (c.in_ok-first.ensures.items_if_clones_equal (λ y e. e))
