use Rattle.std.proofs.Common.{◌≡◌, Some, arith, subst, ap}
use Rattle.term_table.specs.Passes.{PassState, linked}
use Rattle.block_validator.specs.Verdicts.{IsVerdict}
use Rattle.driver.proofs.verdicts.judge.Goals as goal

same_some : {A : Type 0} (x y : A) → Some x ≡ Some y → x ≡ y
same_some x y e = cc

pub returns-in-Full : goal.returns-in-Full
returns-in-Full c =
    let o = c.in-Ok.ensures.ok.1 in
    let pass = same_some _ _ (o.each 0 (omega arith)) in
    let none : linked c.in-Ok.opened.1 ≡ 0 = ap (λ (p : PassState). linked p) pass in
    let full = c.validate.ensures.full c.in-Full.is in
    let grows = c.validate.ensures.grows in
    let nodes = c.validate.ensures.table.2 in
    (subst (IsVerdict c.args.block.now c.args.order) c.in-Full.is c.validate.ensures.exact, omega (arith, none, full, grows, nodes, o.nodes_are))
