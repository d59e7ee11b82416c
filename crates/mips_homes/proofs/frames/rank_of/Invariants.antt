use Rattle.std.proofs.Common.{◌≡◌, drop}
use Rattle.mips_homes.specs.HomedRun.{is_in}
use Rattle.mips_homes.proofs.frames.rank_of.Given as goal

abbrev pub invariant-loop-j : goal.invariant-loop-j
invariant-loop-j l = is_in (drop l.j l.best) l.x ≡ is_in l.best l.x
