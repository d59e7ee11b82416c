-- What each command of the program asks of its files, prints, tells and ends by; the program does what that of its words does
-- (command_line/specs/Programs.antt).
use Rattle.std.specs.Prelude.{◌≡◌, ◌≢◌, ◌≤◌, ◌⊎◌, ℕ, List, [], Bool, true, false, All, map}
use Rattle.std.specs.declared.vec.Vec.{Vec}
use Rattle.std.specs.declared.alloc.Global.{Global}
use Rattle.std.specs.Borrow.{Bor}
use Rattle.image.specs.Texts.{image_fault_text}
use Rattle.image.specs.Images.{IsImageFault}
use Rattle.image.specs.declared.fault.ImageFault.{ImageFault}
use Rattle.clap.specs.Words.{fault_of, takes}
use Rattle.host.specs.Requests.{Asks, Does, HostState, IsSent, Meaning, Relations, Request, StopsMidway}
use Rattle.host.specs.OneFile.{FileMeaning, IsRefused, file_meaning}
use Rattle.text.specs.Shown.{IsShown}
use Rattle.driver.specs.CheckCommand.{checking}
use Rattle.driver.specs.Several.{BreaksOff, ChecksAll, ChecksEach}
use Rattle.driver.specs.SourceFaults.{IsFaultless}
use Rattle.driver.specs.BuildCommand.{build_meaning}
use Rattle.driver.specs.RunCommand.{running}
use Rattle.command_line.specs.Commands.{IsCommand, mcc_app}
use Rattle.command_line.specs.Programs.{EndsUntaken, HasMistake, IsAnswered, IsStopped}
use Rattle.command_line.specs.declared.command.AskedBuild.{AskedBuild}
use Rattle.command_line.specs.declared.command.Command.{Command}
use Rattle.command_line.specs.declared.command.Command.TheVariants.{Check, CheckEach, Interp, Build, Run, List as Listing, NoChoice, Show}
use Rattle.driver.specs.Texts.{no_choice_text}
use Rattle.driver.specs.Levels.{interpreting}
use Rattle.driver.specs.Listings.{IsListing, IsOfImage}
use Rattle.driver.specs.Stages.{IsStagesFault, stages_fault_text}
use Rattle.driver.specs.declared.show_commands.StagesFault.{StagesFault}

-- what is printed of an image: its listing, or with `--asm` its source. Of the source no more is said than that it is lines of printable
-- ASCII
abbrev pub IsImagePage : Bool → (bytes page : List ℕ) → Type 0
IsImagePage false bytes page = IsListing bytes page
IsImagePage true bytes page = IsOfImage bytes × All IsShown page

-- `mcc list IMAGE`, with `--asm` or without
abbrev pub listing_image : (asm : Bool) → FileMeaning (List ℕ) ImageFault
listing_image asm = record {
  Answers = IsImagePage asm;
  Faults = IsImageFault;
  Prints = λ page printed. printed ≡ page;
  status_of = λ _. 0;
  Remarks = λ bytes status told. told ≡ [];
  line = image_fault_text;
  Unprinted = IsRefused;
  streams = false;
}

-- `mcc show SOURCE`: the text spells a program without faults. Of what is printed no more is said than that it is lines of
-- printable ASCII
abbrev pub showing : FileMeaning (List ℕ) StagesFault
showing = record {
  Answers = λ text page. IsFaultless text × All IsShown page;
  Faults = IsStagesFault;
  Prints = λ page printed. printed ≡ page;
  status_of = λ _. 0;
  Remarks = λ text status told. told ≡ [];
  line = stages_fault_text;
  Unprinted = IsRefused;
  streams = false;
}

-- what each command means
abbrev pub meaning_of : Command → Meaning
meaning_of (Check file explain) = file_meaning (checking explain) file.now
meaning_of (CheckEach files explain) = record {
  Answers = ChecksEach explain (map (λ s. s.now) files.items);
  Stops = BreaksOff explain (map (λ s. s.now) files.items);
  Begins = λ requests printed. ⊥;
}
meaning_of (Interp asked) =
    file_meaning (interpreting asked.level asked.depth asked.steps asked.form asked.count) asked.source.now
meaning_of (Build asked) = build_meaning asked
meaning_of (Run asked) = file_meaning (running asked.steps asked.form asked.count) asked.image.now
meaning_of (Listing image asm) = file_meaning (listing_image asm) image.now
meaning_of (Show source stage function block dot) = file_meaning showing source.now
meaning_of (NoChoice choice value) = record {
  Answers = λ status requests printed told. ⊥;
  Stops = λ silent refused requests told. (requests ≡ []) × (told ≡ no_choice_text) × silent;
  Begins = λ requests printed. ⊥;
}

abbrev pub Answers : Command → (status : ℕ) → List Request → (printed : List ℕ) → (told : List (List ℕ)) → Type 0
Answers command = (meaning_of command).Answers

abbrev pub Stops : Command → (silent refused : Type 0) → List Request → List ℕ → Type 0
Stops command = (meaning_of command).Stops

abbrev pub Begins : Command → List Request → List ℕ → Type 0
Begins command = (meaning_of command).Begins

-- the words are such a command
abbrev pub IsBegun : List (List ℕ) → List Request → List ℕ → Type 0
IsBegun words requests printed = (command : Command) × IsCommand words command × Begins command requests printed

-- the words ask for a build whose image has the source's name
abbrev pub NamesOneFile : List (List ℕ) → Type 0
NamesOneFile words = (b : AskedBuild) × IsCommand words (Build b) × (b.source.now ≡ b.image.now)

-- the program: its words ask for a check of several files. One of these had a fault, and all have their lines, which were sent on
pub record HasFaultyFile {F W E : Type 0} (by : Relations F W E) (old new : HostState F W E) (words : List (List ℕ)) : Type 0 where
  pub files : Vec (Bor (List ℕ)) Global
  pub explain : Bool
  pub entered : IsCommand words (CheckEach files explain)
  pub checked : ChecksAll by old new explain (map (λ s. s.now) files.items) 1
  pub sent : IsSent by.sends new.out

-- what the program did with its words, by its status
pub record RanWords {F W E : Type 0} (by : Relations F W E) (old new : HostState F W E) (words : List (List ℕ)) (status : ℕ) : Type 0 where
  pub most : status ≤ 4
  -- what their command asks, prints and tells, if clap takes them and there was no fault; only a build onto its source ends by 2 then
  pub taken : takes mcc_app words ≡ true → status ≡ 2 → NamesOneFile words
  pub answered : takes mcc_app words ≡ true → status ≢ 1 → Does by old new (IsAnswered Answers words status)
  pub sent : status ≢ 1 → status ≢ 2 → IsSent by.sends new.out
  -- a fault of the command, or a check of several files one of which has a fault, or memory that was refused to a run
  pub stopped : status ≡ 1 → Asks by old new (IsStopped Stops words) ⊎ HasFaultyFile by old new words ⊎ StopsMidway by old new (IsBegun words)
  -- wrong words, and words that ask for help
  pub wrong : status ≡ 2 → (new.files ≡ old.files) × (new.out ≡ old.out) × (HasMistake (fault_of mcc_app words) ⊎ NamesOneFile words)
  pub untaken : fault_of mcc_app words ≢ [] → (new.files ≡ old.files) × EndsUntaken (fault_of mcc_app words) status
