use Rattle.std.proofs.Common.{take, subst}
use Rattle.mips_isa.specs.Texts.{instruction_text}
use Rattle.text.specs.Shown.{shown_text}
use Rattle.text.specs.Written.{Writes}
use Rattle.block_text.specs.Spelling.{insts_text}
use Rattle.block_text.proofs.Writing.{insts_more, writes_on}
use Rattle.block_text.proofs.lines.put_insts.Goals as goal

pub loop-inst-preserved : goal.loop-inst-preserved
loop-inst-preserved c =
    let margin = c.args.margin.now in
    let end = c.args.end.now in
    let insts = c.args.insts.now in
    let i = c.loop-inst.inst-index in
    let inst = c.inst-item.result in
    let line = writes_on _ _ _ margin _ c.text.ensures (writes_on _ _ _ (instruction_text inst) end c.put.ensures.written c.text-in-loop-inst.ensures) in
    subst (λ text. Writes c.args.out.now (shown_text text) c.text-in-loop-inst.new.self)
    (insts_more margin end insts i inst c.loop-inst-test.true c.inst-item.is)
    (writes_on _ _ _ (insts_text margin end (take i insts)) _ c.loop-inst.invariant line)
