use Rattle.std.proofs.Common.{◌∙◌, ◌+◌, map, drop, take, true, false, arith, sym, ap, length-take}
use Rattle.mips_isa.specs.Actions.{nop, action_of}
use Rattle.sym_exec.specs.Growth.{growth_by_all, all_stores}
use Rattle.sym_exec.proofs.Tracking.{nop_is, needed_more, needed_few, actions_here}
use Rattle.sym_exec.proofs.Tickets.{goes_on, goes_more, err_always, lacks_left, lacks_right}
use Rattle.sym_exec.specs.Asked.{asked_by}
use Rattle.sym_exec.proofs.run.steps.Goals as goal

pub loop-inst-preserved-then-is_nop : goal.loop-inst-preserved-then-is_nop
loop-inst-preserved-then-is_nop c =
    let was = c.loop-inst.invariant in
    let is = sym c.is_nop.ensures ∙ c.if-is_nop.true in
    let here = actions_here c.args.insts.now c.loop-inst.inst-index c.loop-inst-test.true c.inst-item.is (sym (ap action_of (nop_is _ is))) in record {
      known = was.known;
      goes = was.goes;
      grows = omega (arith, rw here at was.grows);
      stores = rw here at was.stores;
      chain = was.chain;
      room = was.room;
      guards = omega (arith, was.guards, needed_more c.args.insts.now c.loop-inst.inst-index true c.loop-inst-test.true c.inst-item.is is);
      capacity = was.capacity;
      tracks = λ t h. let far = rw here at (was.tracks t h) in
          (far.0, far.1, far.2, λ p lacks. far.3 p (lacks_right (asked_by (action_of nop) far.0) lacks));
    }

pub step-requires-clause-few : goal.step-requires-clause-few
step-requires-clause-few c =
    let k = c.loop-inst.inst-index in
    let was = c.loop-inst.invariant in
    omega (arith, was.guards, was.capacity, needed_few (take k c.args.insts.now), length-take k c.args.insts.now, c.loop-inst-test.true, c.requires.few)

pub loop-inst-preserved : goal.loop-inst-preserved
loop-inst-preserved c =
    let was = c.loop-inst.invariant in
    let here = actions_here c.args.insts.now c.loop-inst.inst-index c.loop-inst-test.true c.inst-item.is c.action.ensures in
    let after = map action_of (drop (c.loop-inst.inst-index + 1) c.args.insts.now) in
    let is = c.in_ok-step.ensures.stores in record {
      known = c.in_ok-step.ensures.known;
      goes = goes_more was.goes (goes_on c.in_ok-step.ensures.pass);
      grows = omega (arith, rw here at was.grows, c.in_ok-step.ensures.grows, ap (growth_by_all after) is);
      stores = ap (all_stores after) is ∙ rw here at was.stores;
      chain = c.in_ok-step.ensures.chain;
      room = c.in_ok-step.ensures.room;
      guards = let one = needed_more c.args.insts.now c.loop-inst.inst-index false c.loop-inst-test.true c.inst-item.is
          (sym c.is_nop.ensures ∙ c.if-is_nop.false) in
          omega (arith, was.guards, c.in_ok-step.ensures.guards, one);
      capacity = c.in_ok-step.ensures.capacity ∙ was.capacity;
      tracks = λ t h. let far = rw here at (was.tracks t h) in
          (_, c.in_ok-step.ensures.tracks far.0 far.1, far.2, λ p lacks. far.3 p (lacks_right (asked_by c.action.result far.0) lacks));
    }

pub returns-in_err-step-clause-absent : goal.returns-in_err-step-clause-absent
returns-in_err-step-clause-absent c = λ t h.
    let here = actions_here c.args.insts.now c.loop-inst.inst-index c.loop-inst-test.true c.inst-item.is c.action.ensures in
    let far = rw here at (c.loop-inst.invariant.tracks t h) in
    err_always _ (far.3 c.step.new.terms.pass.now (lacks_left _ (c.in_err-step.ensures.absent far.0 far.1)))
