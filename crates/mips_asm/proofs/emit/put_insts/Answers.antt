use Rattle.std.proofs.lemmas.List.{append-nil, drop_all}
use Rattle.mips_asm.proofs.emit.put_insts.Goals as goal

pub returns-clause-word : goal.returns-clause-word
returns-clause-word c = rw (drop_all c.loop-inst.inst-index c.args.plain.now c.loop-inst-test.false, append-nil) at c.loop-inst.invariant.0

pub returns-clause-fit : goal.returns-clause-fit
returns-clause-fit c = c.loop-inst.invariant.1 (rw (drop_all c.loop-inst.inst-index c.args.plain.now c.loop-inst-test.false) tt)
