-- What `mcc check` asks of its file, prints and ends by.
use Rattle.std.specs.Prelude.{◌≡◌, ◌⊎◌, ℕ, List, [], ◌∷◌, ◌++◌, All, Bool, true, false}
use Rattle.text.specs.Shown.{IsShown}
use Rattle.host.specs.OneFile.{FileMeaning}
use Rattle.host.specs.declared.fault.HostFault.{HostFault}
use Rattle.host.specs.declared.fault.HostFault.TheVariants.{CannotWrite, NoMemory}
use Rattle.driver.specs.Checks.{IsAnswerTo, IsCheckFault}
use Rattle.driver.specs.CheckTexts.{answer_text, check_fault_text, exit_status}
use Rattle.driver.specs.declared.verdicts.CheckAnswer.{CheckAnswer}
use Rattle.driver.specs.declared.verdicts.CheckFault.{CheckFault}

-- what stands after an answer's line: with `--explain` lines of printable ASCII, else nothing
abbrev pub IsMore : (explain : Bool) → List ℕ → Type 0
IsMore true more = All IsShown more
IsMore false more = more ≡ []

-- what is printed of an answer
abbrev pub PrintsAnswer : (explain : Bool) → CheckAnswer → List ℕ → Type 0
PrintsAnswer explain answer printed = (more : List ℕ) × (printed ≡ (answer_text answer ++ 10 ∷ []) ++ more) × IsMore explain more

-- why an answer was left unprinted: standard output was refused, or memory for its explanation
abbrev pub IsUnprinted : (explain : Bool) → HostFault → Type 0
IsUnprinted explain fault = (fault ≡ CannotWrite) ⊎ ((explain ≡ true) × (fault ≡ NoMemory))

-- the command; it tells nothing beside an answer
abbrev pub checking : (explain : Bool) → FileMeaning CheckAnswer CheckFault
checking explain = record {
  Answers = IsAnswerTo;
  Faults = IsCheckFault;
  Prints = PrintsAnswer explain;
  status_of = exit_status;
  Remarks = λ text status told. told ≡ [];
  line = check_fault_text;
  Unprinted = IsUnprinted explain;
  streams = false;
}
