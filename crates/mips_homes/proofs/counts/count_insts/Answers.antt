use Rattle.std.proofs.Common.{refl}
use Rattle.rtl.specs.Names.{inst_names, insts_names}
use Rattle.mips_homes.proofs.Counting.{counts_step, counts_end}
use Rattle.mips_homes.proofs.counts.count_insts.Goals as goal

pub loop-inst-preserved : goal.loop-inst-preserved
loop-inst-preserved c =
    counts_step insts_names inst_names
    (λ x xs. refl) c.args.insts.now c.loop-inst.inst-index _ _ _ _ _ c.loop-inst-test.true refl c.in_ok-count_inst.ensures c.loop-inst.invariant

pub returns : goal.returns
returns c = counts_end insts_names refl c.args.insts.now c.loop-inst.inst-index _ _ c.loop-inst-test.false c.loop-inst.invariant
