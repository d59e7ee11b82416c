use Rattle.std.proofs.Common.{◌≡◌, Some, rules}
use Rattle.c_typed.specs.declared.tree.Destination.TheVariants.{Global as Variable}
use Rattle.rtl_emit.specs.Blocks.{spot}
use Rattle.rtl_lower.proofs.Emitting.{sealed, to_variable_emits}
use Rattle.rtl_lower.proofs.simple.receiver_of.Goals as goal

pub returns-in_ok-block-in-Some-Global : goal.returns-in_ok-block-in-Some-Global
returns-in_ok-block-in-Some-Global c =
    let join = c.in_ok-block-in-Some-Global.ensures in
    let result = c.in_ok-result-in-Some-Global.ensures in
    let index = c.in_ok-index-in-Some-Global.ensures in
    let is : c.args.to ≡ Some (Variable c.in-Some-Global.x) = search rules in
    to_variable_emits _ c.in_ok-last-in-Some-Global.last c.in_ok-code-in-Some-Global.code (spot c.args.after) is
    c.in_ok-global-in-Some-Global.ensures.is result.is result.within index.is index.within c.in_ok-last-in-Some-Global.ensures
    c.in_ok-code-in-Some-Global.ensures (sealed _ join.grows join.count join.insts join.sound join.lands)
