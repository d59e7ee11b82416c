use Rattle.std.proofs.Common.{codes, ◌∙◌, append-nil, sym}
use Rattle.mips_isa.specs.Texts.{instruction_text}
use Rattle.block_text.specs.Spelling.{exit_text, insts_text}
use Rattle.block_text.proofs.Writing.{writes_on}
use Rattle.block_text.proofs.lines.put_order.Goals as goal

pub returns-in-Some : goal.returns-in-Some
returns-in-Some c =
    let margin = c.args.margin.now in
    let end = c.args.end.now in
    let slot = writes_on _ _ _ margin _ c.text-in-Some.ensures (writes_on _ _ _ (codes "slot ") _ c.text-in-Some-2.ensures
    (writes_on _ _ _ (instruction_text c.in-Some.slot) end c.put-in-Some.ensures.written c.text-in-Some-3.ensures)) in
    let exit = writes_on _ _ _ margin _ c.text.ensures (writes_on _ _ _ (exit_text c.exit.result) _ c.put.ensures.written
    (writes_on _ _ _ end _ c.text-2.ensures slot)) in
    rw (sym c.slot.ensures.value ∙ c.in-Some.is, sym c.insts.ensures.value, sym c.exit.ensures)
    (writes_on _ _ _ (insts_text margin end c.insts.result.now) _ c.put_insts.ensures exit)

pub returns-in_default : goal.returns-in_default
returns-in_default c =
    let margin = c.args.margin.now in
    let end = c.args.end.now in
    let exit = writes_on _ _ _ margin _ c.text.ensures (writes_on _ _ _ (exit_text c.exit.result) end c.put.ensures.written c.text-2.ensures) in
    rw (sym c.slot.ensures.value ∙ c.in_default.is, sym c.insts.ensures.value, sym c.exit.ensures, append-nil end)
    (writes_on _ _ _ (insts_text margin end c.insts.result.now) _ c.put_insts.ensures exit)
