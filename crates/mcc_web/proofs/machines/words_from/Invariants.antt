use Rattle.std.proofs.Common.{◌≡◌, length}
use Rattle.mips_machine.specs.Views.{machine_of}
use Rattle.mcc_web.specs.Machines.{HoldsWords}
use Rattle.mcc_web.proofs.machines.words_from.Given as goal

abbrev pub invariant-loop-k : goal.invariant-loop-k
invariant-loop-k l = (length l.words ≡ 32) × HoldsWords (machine_of l.machine) l.address l.k l.words
