use Rattle.rtl_emit.specs.Blocks.{spot}
use Rattle.rtl_lower.proofs.Emitting.{local_emits, variable_emits}
use Rattle.rtl_lower.proofs.simple.assignment.Goals as goal

pub returns-in_ok-local-in-Local : goal.returns-in_ok-local-in-Local
returns-in_ok-local-in-Local c =
    local_emits _ _ _ _ _ _ _ (spot c.args.after) _ c.in-Local.is c.in_ok-local-in-Local.ensures.is c.in_ok-local-in-Local.ensures.within
    c.value_into.ensures

pub returns-in_ok-middle-in-Global : goal.returns-in_ok-middle-in-Global
returns-in_ok-middle-in-Global c =
    let place = c.in_ok-place-in-Global.ensures in
    let index = c.in_ok-index-in-Global.ensures in
    variable_emits _ _ _ _ _ _ _ _ _ _ c.in_ok-last-in-Global.last c.in_ok-middle-in-Global.middle (spot c.args.after) _ c.in-Global.is
    c.in_ok-global-in-Global.ensures.is place.place place.room index.is index.within c.in_ok-last-in-Global.ensures c.in_ok-middle-in-Global.ensures
    c.operand_into.ensures
