use Rattle.std.proofs.Common.{rules, ◌≡◌, ◌<◌, Some, slice_get, get_or, refl, subst, length}
use Rattle.std.proofs.lemmas.Option.{slice_get_read}
use Rattle.sched_phase.specs.Settling.{AreRightFrom}
use Rattle.sched_phase.proofs.Runs.{right_first, right_rest}
use Rattle.sched_phase.proofs.phase.settle_run.Goals as goal

pub settle-requires-clause-fits : goal.settle-requires-clause-fits
settle-requires-clause-fits g c =
    let proposes = g.R.Reorder.proposes c.args.reorder.now in
    let blocks = c.args.unit.now.blocks in
    let next = length c.loop-verdict.progress.orders.items in
    let inside : next < length blocks = search rules in
    let is : c.index-blocks-next.result ≡ get_or blocks next c.index-blocks-next.result = search rules in
    let at : slice_get blocks next ≡ Some c.index-blocks-next.result = slice_get_read blocks (length blocks) next _ refl inside is in
    right_first proposes blocks next _ _ (subst (AreRightFrom proposes blocks next) c.in-Some.ensures.steps.0 c.loop-verdict.invariant.0) _ at

pub loop-verdict-preserved : goal.loop-verdict-preserved
loop-verdict-preserved g c =
    let proposes = g.R.Reorder.proposes c.args.reorder.now in
    let blocks = c.args.unit.now.blocks in
    let was = c.loop-verdict.invariant in
    let next = length c.loop-verdict.progress.orders.items in
    let given = c.in_ok-settle.ensures in (
      right_rest proposes blocks next _ _ _ given.more (subst (AreRightFrom proposes blocks next) c.in-Some.ensures.steps.0 was.0),
      given.done,
      search rules,
      was.3,
    )
