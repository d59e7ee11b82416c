use Rattle.std.proofs.Common.{◌≡◌, ◌++◌, map, drop}
use Rattle.mips_isa.specs.declared.inst.Inst.TheVariants as I
use Rattle.mips_code.specs.Words.{inst_word}
use Rattle.mips_asm.specs.Emitted.{Fit}
use Rattle.mips_asm.proofs.emit.put_insts.Given as goal

abbrev pub invariant-loop-inst : goal.invariant-loop-inst
invariant-loop-inst l =
    (l.code.items ++ map inst_word (map I.Plain (drop l.inst-index l.plain)) ≡ l.fn.code.items ++ map inst_word (map I.Plain l.plain))
    × (Fit (map I.Plain (drop l.inst-index l.plain)) → Fit (map I.Plain l.plain))
