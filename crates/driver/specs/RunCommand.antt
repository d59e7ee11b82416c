-- What the command `run` asks of its file, prints, tells and ends by.
use Rattle.std.specs.Prelude.{◌≡◌, ◌⊎◌, ℕ, List, [], ◌∷◌, ◌++◌, ◌==◌, decimal, All, Bool, Option, codes, nat_lt, if◌then◌else◌, true}
use Rattle.std.specs.List.{flat_map}
use Rattle.image.specs.Texts.{image_fault_text}
use Rattle.image.specs.Images.{IsImageFault}
use Rattle.image.specs.declared.fault.ImageFault.{ImageFault}
use Rattle.mips_code.specs.Machines.{MachineOutcome}
use Rattle.runs.specs.Runs.{RunOutcome}
use Rattle.runs.specs.Portions.{behind}
use Rattle.host.specs.Numbers.{word_text}
use Rattle.host.specs.declared.numbers.WordForm.{WordForm}
use Rattle.host.specs.OneFile.{FileMeaning, IsRefused, TookPrint}
use Rattle.host.specs.declared.one_file.Broken.{Broken}
use Rattle.host.specs.declared.one_file.Broken.TheVariants.{Faulty, Unprinted, Midway}
use Rattle.text.specs.Shown.{IsShown}
use Rattle.driver.specs.RunTexts.{ending_text, ending_status}
use Rattle.driver.specs.ImageRuns.{IsImageRun, IsWordCount}

-- each word of output in its form on a line, by default in decimal
abbrev pub words_in : WordForm → List ℕ → List ℕ
words_in form words = flat_map (λ w. word_text form w ++ 10 ∷ []) words

-- what is printed of a run: its output, and how it ended
abbrev pub PrintsRun : {E : Type 0} → (E → List ℕ) → WordForm → RunOutcome E → List ℕ → Type 0
PrintsRun end_text form o printed = printed ≡ words_in form o.output ++ (end_text o.end ++ 10 ∷ [])

-- the lines of the first words of an output
pub record AreFirstLines (form : WordForm) (output printed : List ℕ) : Type 0 where
  pub first : List ℕ
  pub rest : List ℕ
  pub all : output ≡ first ++ rest
  pub lines : printed ≡ words_in form first

-- what a run leaves that is cut off: standard output refused what it was asked last, or took the lines of the first words
abbrev pub CutsOff : {F : Type 0} → WordForm → (output : List ℕ) → (old new : Option (List ℕ)) → (refused : Type 0) → Broken F → Type 0
CutsOff form output old new refused (Faulty fault) = ⊥
CutsOff form output old new refused (Unprinted fault) = IsRefused fault × refused
CutsOff form output old new refused Midway = TookPrint old new (AreFirstLines form output)

-- a run ends so behind a portion that came to this end, if any: at once, and after all that are left
abbrev pub IsLast : {S E : Type 0} → (S → ℕ → RunOutcome E) → S → Option E → (left : ℕ) → E → Type 0
IsLast comes_to now end left last =
    (n : ℕ) → (n ≡ 0) ⊎ (n ≡ left) → behind comes_to end now n ≡ record { end = last; output = (comes_to now 0).output }

-- how many words or steps ran
abbrev pub count_text : (unit : List ℕ) → ℕ → List ℕ
count_text unit count = unit ++ (codes " " ++ decimal count)

-- after the end `more`: which option goes on
abbrev pub more_hint : (most : ℕ) → List ℕ
more_hint most = if nat_lt most 4294967295 then codes ": --steps 4294967295 goes on" else []

abbrev pub more_text : (unit : List ℕ) → (most : ℕ) → List ℕ
more_text unit most =
    codes "more: the " ++ (decimal most ++ (codes " " ++ (unit ++ (codes " of --steps are used up" ++ more_hint most))))

-- what is told with a run: how many ran, if that is asked for, the option that goes on after `more`, and why it is stuck or wrong. All is
-- lines of printable ASCII
pub record IsRunRemark (unit : List ℕ) (count most : ℕ) (counts : Bool) (status : ℕ) (told : List (List ℕ)) : Type 0 where
  pub reason : List (List ℕ)
  pub all : told ≡ (if counts then (count_text unit count ++ 10 ∷ []) ∷ [] else [])
      ++ ((if status == 4 then (more_text unit most ++ 10 ∷ []) ∷ [] else []) ++ reason)
  pub shown : All (All IsShown) reason
  pub only : (status ≡ 3 → ⊥) → reason ≡ []

-- the same where this counts what ran
abbrev pub IsCountedRemark : (unit : List ℕ) → (most : ℕ) → (counts : Bool) → (HasRun : ℕ → Type 0) → (status : ℕ) → List (List ℕ) → Type 0
IsCountedRemark unit most counts HasRun status told = (count : ℕ) × HasRun count × IsRunRemark unit count most counts status told

-- the command
abbrev pub running : (steps : ℕ) → WordForm → (counts : Bool) → FileMeaning MachineOutcome ImageFault
running steps form counts = record {
  Answers = λ bytes o. IsImageRun bytes steps o;
  Faults = IsImageFault;
  Prints = PrintsRun ending_text form;
  status_of = λ o. ending_status o.end;
  Remarks = λ bytes. IsCountedRemark (codes "words") steps counts (IsWordCount bytes steps);
  line = image_fault_text;
  Unprinted = IsRefused;
  streams = true;
}
