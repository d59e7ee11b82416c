-- What the answers to a check text and its faults print.
use Rattle.std.specs.Prelude.{◌≢◌, ◌≤◌, ℕ, List, ◌++◌, codes}
use Rattle.mips_isa.specs.Texts.{register_text}
use Rattle.mblock.specs.Texts.{unclean_text}
use Rattle.block_text.specs.declared.fault.PairFault.TheVariants.{Line}
use Rattle.block_text.specs.Faults.{pair_fault_text}
use Rattle.block_validator.specs.declared.place.Place.{Place}
use Rattle.block_validator.specs.declared.place.Place.TheVariants as places
use Rattle.driver.specs.declared.verdicts.CheckAnswer.{CheckAnswer}
use Rattle.driver.specs.declared.verdicts.CheckAnswer.TheVariants as answers
use Rattle.driver.specs.declared.verdicts.CheckFault.{CheckFault}
use Rattle.driver.specs.declared.verdicts.CheckFault.TheVariants as check_faults

abbrev pub place_text : Place → List ℕ
place_text (places.Register r) = register_text r
place_text places.Hi = codes "hi"
place_text places.Lo = codes "lo"
place_text places.Memory = codes "mem"
place_text places.Exit = codes "exit"
place_text places.Guards = codes "guards"

abbrev pub answer_text : CheckAnswer → List ℕ
answer_text answers.Same = codes "same"
answer_text (answers.Unclean rule) = codes "unclean " ++ unclean_text rule
answer_text (answers.Differs place) = codes "differs " ++ place_text place
answer_text answers.Full = codes "full"

-- the status with which the program ends
abbrev pub exit_status : CheckAnswer → ℕ
exit_status answers.Same = 0
exit_status _ = 3

-- a status with which a check may end: 1 for a fault, or that of an answer; never 2, as for wrong words
abbrev pub IsCheckStatus : ℕ → Type 0
IsCheckStatus status = (status ≤ 3) × (status ≢ 2)

abbrev pub check_fault_text : CheckFault → List ℕ
check_fault_text check_faults.Size = codes "fault 5 Size"
check_fault_text (check_faults.Line n) = pair_fault_text (Line n)
check_fault_text check_faults.NoMemory = codes "fault 30 NoMemory"
