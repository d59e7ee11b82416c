use Rattle.mips_emit.specs.Locations.{facts_of}
use Rattle.mips_emit.specs.Code.{context_of}
use Rattle.mips_emit.specs.Prefixes.{emission}
use Rattle.mips_emit.proofs.Emitted.{AreEmitted}
use Rattle.mips_emit.proofs.inst.emit_insts.Given as goal

abbrev pub invariant-loop-inst : goal.invariant-loop-inst
invariant-loop-inst l = AreEmitted (context_of l.setting) l.asked l.insts (emission (facts_of l.fn.facts) l.fn.code.items) l.inst-index l.left
    (emission (facts_of l.facts) l.code.items)
