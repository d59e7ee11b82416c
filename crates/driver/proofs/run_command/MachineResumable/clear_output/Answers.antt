use Rattle.mips_code.specs.Machines.{words_code}
use Rattle.mips_machine.specs.Views.{machine_of}
use Rattle.mips_machine.proofs.Going.{output_before}
use Rattle.driver.proofs.run_command.MachineResumable.clear_output.Goals as goal

pub returns : goal.returns
returns c = λ n.
    let old = c.args.self.now in
    let new = c.clear_output.ensures in
    rw (new.machine, new.code) (output_before (words_code old.code.words.now) n (machine_of old))
