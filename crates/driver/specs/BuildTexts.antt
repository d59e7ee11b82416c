-- What the faults of a build print.
use Rattle.std.specs.Prelude.{ℕ, List, codes}
use Rattle.messages.specs.Texts.{source_fault_text}
use Rattle.driver.specs.declared.builds.BuildFault.{BuildFault}
use Rattle.driver.specs.declared.builds.BuildFault.TheVariants as build_faults

abbrev pub build_fault_text : BuildFault → List ℕ
build_fault_text (build_faults.Source fault) = source_fault_text fault
build_fault_text (build_faults.Limit limit) = codes "fault 20 Limit"
build_fault_text build_faults.NoMemory = codes "fault 30 NoMemory"
