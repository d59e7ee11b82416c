use Rattle.std.proofs.Common.{drop}
use Rattle.mips_homes.proofs.Seeing.{IsSeenTo}
use Rattle.mips_homes.proofs.locals.see_block.Given as goal

abbrev pub invariant-loop-inst : goal.invariant-loop-inst
invariant-loop-inst l = IsSeenTo l.k l.fn.sights.items l.sights.items (drop l.inst-index l.block.insts.items) l.block
