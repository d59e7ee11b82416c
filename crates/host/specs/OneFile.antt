-- What a command over one file asks of its files, prints and tells. It prints once it has its answer, or while it works.
use Rattle.std.specs.Prelude.{◌≡◌, ◌≢◌, ◌≤◌, ℕ, List, [], ◌∷◌, ◌++◌, Bool, true, Option}
use Rattle.std.specs.Io.KnownBytes.{Appends}
use Rattle.host.specs.Requests.{LeavesOutput, Meaning, Request, reading_fault}
use Rattle.host.specs.Requests.Request.{Read, NotRead}
use Rattle.host.specs.Texts.{host_fault_text}
use Rattle.host.specs.declared.files.FileFault.{FileFault}
use Rattle.host.specs.declared.fault.HostFault.{HostFault}
use Rattle.host.specs.declared.fault.HostFault.TheVariants.{CannotWrite}
use Rattle.host.specs.declared.one_file.Broken.{Broken}
use Rattle.host.specs.declared.one_file.Broken.TheVariants.{Faulty, Unprinted, Midway}

-- standard output was refused
abbrev pub IsRefused : HostFault → Type 0
IsRefused fault = fault ≡ CannotWrite

-- a status with which a command may end that has its answer: neither that of a fault nor that of wrong words
abbrev pub IsAnswerStatus : ℕ → Type 0
IsAnswerStatus status = (status ≤ 4) × (status ≢ 1) × (status ≢ 2)

-- standard output took what is printed of an answer
abbrev pub TookPrint : Option (List ℕ) → Option (List ℕ) → (List ℕ → Type 0) → Type 0
TookPrint old new Prints = (printed : List ℕ) × Appends old new printed × Prints printed

-- A command's own parts: the answers and faults that bytes may have, what an answer prints, its status, and a fault's line.
-- Besides: what is told beside the bytes' answer, by its status, why an answer may be left unprinted, and whether it prints while it works.
pub record FileMeaning (A B : Type 0) : Type 1 where
  pub Answers : List ℕ → A → Type 0
  pub Faults : List ℕ → B → Type 0
  pub Prints : A → List ℕ → Type 0
  pub status_of : A → ℕ
  pub Remarks : (bytes : List ℕ) → (status : ℕ) → List (List ℕ) → Type 0
  pub line : B → List ℕ
  pub Unprinted : HostFault → Type 0
  pub streams : Bool

module _ {A B : Type 0} (m : FileMeaning A B) where
  -- standard output took all that is printed of the bytes' answer, and the status is the answer's
  pub record TookAnswer (bytes : List ℕ) (old new : Option (List ℕ)) (status : ℕ) : Type 0 where
    pub answer : A
    pub answered : m.Answers bytes answer
    pub took : TookPrint old new (m.Prints answer)
    pub ends : status ≡ m.status_of answer

  -- this is a beginning of what is printed of the bytes' answer
  pub record IsBeginning (bytes printed : List ℕ) : Type 0 where
    pub answer : A
    pub answered : m.Answers bytes answer
    pub rest : List ℕ
    pub prints : m.Prints answer (printed ++ rest)

  -- what it left that broke off. By a fault of the bytes nothing was printed. Where memory was refused while it printed, standard output
  -- took a beginning
  abbrev pub BreaksBy : (bytes : List ℕ) → (old new : Option (List ℕ)) → (silent refused : Type 0) → Broken B → Type 0
  BreaksBy bytes old new silent refused (Faulty fault) = m.Faults bytes fault × silent
  BreaksBy bytes old new silent refused (Unprinted fault) =
      ((answer : A) × m.Answers bytes answer) × m.Unprinted fault × LeavesOutput fault silent refused
  BreaksBy bytes old new silent refused Midway = (m.streams ≡ true) × TookPrint old new (IsBeginning bytes)

  -- once it has an answer: the file was read and nothing else asked, and what is printed, the status and what is told are the answer's
  pub record AnswersFile (file : List ℕ) (status : ℕ) (requests : List Request) (printed : List ℕ) (told : List (List ℕ)) : Type 0 where
    pub bytes : List ℕ
    pub asked : requests ≡ Read file bytes ∷ []
    pub answer : A
    pub answered : m.Answers bytes answer
    pub prints : m.Prints answer printed
    pub ends : status ≡ m.status_of answer
    pub remarks : m.Remarks bytes status told

  -- the same where it ended by a fault, with the text that was told. The fault is of the file or of its bytes, and standard output is as
  -- it was, or of what an answer was printed on
  pub data StopsFile (file : List ℕ) (silent refused : Type 0) : List Request → List ℕ → Type 0 where
    unread : (fault : FileFault) → silent
        → StopsFile file silent refused (NotRead file fault ∷ []) (host_fault_text (reading_fault fault))
    faulty : (bytes : List ℕ) (fault : B) → m.Faults bytes fault → silent
        → StopsFile file silent refused (Read file bytes ∷ []) (m.line fault)
    untold : (bytes : List ℕ) (answer : A) → m.Answers bytes answer → (fault : HostFault) → m.Unprinted fault
        → LeavesOutput fault silent refused → StopsFile file silent refused (Read file bytes ∷ []) (host_fault_text fault)

  -- the file was read and nothing else asked, and this is a beginning of what is printed of it
  pub record BeginsFile (file : List ℕ) (requests : List Request) (printed : List ℕ) : Type 0 where
    pub bytes : List ℕ
    pub asked : requests ≡ Read file bytes ∷ []
    pub streams : m.streams ≡ true
    pub begins : IsBeginning bytes printed

  -- the command
  abbrev pub file_meaning : (file : List ℕ) → Meaning
  file_meaning file = record { Answers = AnswersFile file; Stops = StopsFile file; Begins = BeginsFile file }
