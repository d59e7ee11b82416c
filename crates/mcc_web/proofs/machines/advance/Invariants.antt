use Rattle.std.proofs.Common.{◌≡◌, Some}
use Rattle.mips_code.specs.Machines.{words_code}
use Rattle.mips_machine.specs.Views.{machine_of}
use Rattle.mcc_web.specs.Machines.{WasNotAt, behind}
use Rattle.mcc_web.proofs.machines.advance.Given as goal

-- so many words ran, of the same code
abbrev pub invariant-loop-k : goal.invariant-loop-k
invariant-loop-k l = record {
  ran : behind (words_code l.fn.machine.code.words.now) l.k (machine_of l.fn.machine) ≡ Some (machine_of l.machine);
  code : l.machine.code ≡ l.fn.machine.code;
  passed : WasNotAt (words_code l.fn.machine.code.words.now) (machine_of l.fn.machine) l.stretch.from l.stretch.stop l.k;
}
