-- What the fault of a C text prints.
use Rattle.std.specs.Prelude.{ℕ, List}
use Rattle.c_front.specs.Messages.{fault_text as front_fault_text}
use Rattle.c_statements.specs.Faults.{fault_text as type_fault_text}
use Rattle.messages.specs.declared.fault.SourceFault.{SourceFault}
use Rattle.messages.specs.declared.fault.SourceFault.TheVariants.{Front, Types}

abbrev pub source_fault_text : SourceFault → List ℕ
source_fault_text (Front fault) = front_fault_text fault
source_fault_text (Types fault) = type_fault_text fault
