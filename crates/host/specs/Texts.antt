-- What the faults of files and memory print.
use Rattle.std.specs.Prelude.{ℕ, List, codes}
use Rattle.host.specs.declared.fault.HostFault.{HostFault}
use Rattle.host.specs.declared.fault.HostFault.TheVariants as faults

abbrev pub host_fault_text : HostFault → List ℕ
host_fault_text faults.CannotRead = codes "fault 60 CannotRead"
host_fault_text faults.CannotWrite = codes "fault 61 CannotWrite"
host_fault_text faults.NoMemory = codes "fault 30 NoMemory"
