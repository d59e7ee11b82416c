use Rattle.mips_select.proofs.code.block_for.Goals as goal

pub returns : goal.returns
returns c = rw (c.new.ensures, c.in_ok-exit.ensures.code, c.in_ok-emit_head.ensures, c.in_ok-insts.ensures.items, c.in_ok-exit.ensures.exit)
