use Rattle.std.proofs.Common.{drop, length, refl, ap, arith}
use Rattle.std.proofs.lemmas.List.{drop_all}
use Rattle.std.proofs.lemmas.Result.{IfOk-weaker}
use Rattle.mips_homes.proofs.Seeing.{seen_step, seen_end}
use Rattle.mips_homes.proofs.locals.see_block.Goals as goal

pub loop-inst-preserved : goal.loop-inst-preserved
loop-inst-preserved c =
    seen_step c.args.k _ c.loop-inst.sights.items _ c.args.block.now.insts.items _ c.loop-inst.inst-index _ _ c.args.block.now
    c.as_slice-inst-items.ensures.value c.loop-inst-test.true refl c.in_ok-see_inst.ensures c.loop-inst.invariant

pub returns-clause-first : goal.returns-clause-first
returns-clause-first c =
    let long = ap length c.as_slice-inst-items.ensures.value in
    let past = c.loop-inst-test.false in
    IfOk-weaker c.see_exit.result _ _ (λ r h. seen_end c.args.k _ c.loop-inst.sights.items _ (drop c.loop-inst.inst-index
    c.args.block.now.insts.items) c.args.block.now
    (drop_all c.loop-inst.inst-index c.args.block.now.insts.items (omega (arith, long, past))) h c.loop-inst.invariant) c.see_exit.ensures

pub returns-clause-late : goal.returns-clause-late
returns-clause-late c = IfOk-weaker c.see_exit.result _ _ (λ r h. h.late c.loop-inst.invariant.late) c.see_exit.ensures
