use Rattle.std.proofs.Common.{take}
use Rattle.text.specs.Shown.{shown_text}
use Rattle.text.specs.Written.{Writes}
use Rattle.block_text.specs.Spelling.{insts_text}
use Rattle.block_text.proofs.lines.put_insts.Given as goal

abbrev pub invariant-loop-inst : goal.invariant-loop-inst
invariant-loop-inst l = Writes l.fn.out (shown_text (insts_text l.margin l.end (take l.inst-index l.insts))) l.out
