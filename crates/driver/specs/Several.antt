-- What `mcc check FILE FILE ..` asks of its files, prints and ends by.
use Rattle.std.specs.Prelude.{◌≡◌, ◌⊎◌, ◌==◌, ◌||◌, if◌then◌else◌, ℕ, List, [], ◌∷◌, ◌++◌, All, Bool, true}
use Rattle.std.specs.Prelude.{◌+◌, map, fold, length, max, codes, decimal}
use Rattle.std.specs.List.{FoldsTo, flat_map}
use Rattle.std.specs.Io.KnownBytes.{Appends}
use Rattle.host.specs.Requests.{HostState, Relations, Request, TellsLine, reading_fault}
use Rattle.host.specs.Requests.Request.{Read, NotRead}
use Rattle.text.specs.Shown.{shown_name}
use Rattle.host.specs.Texts.{host_fault_text}
use Rattle.host.specs.declared.files.FileFault.{FileFault}
use Rattle.host.specs.declared.fault.HostFault.TheVariants.{CannotWrite, NoMemory}
use Rattle.driver.specs.Checks.{IsAnswerTo, IsCheckFault}
use Rattle.driver.specs.CheckCommand.{IsMore}
use Rattle.driver.specs.CheckTexts.{answer_text, check_fault_text, exit_status}
use Rattle.driver.specs.declared.several.Said.{Said}
use Rattle.driver.specs.declared.several.Said.TheVariants as says
use Rattle.driver.specs.declared.verdicts.CheckAnswer.{CheckAnswer}
use Rattle.driver.specs.declared.verdicts.CheckAnswer.TheVariants as answers
use Rattle.driver.specs.declared.several.Totals.{Totals}

-- what the line of a file says after its name, the status of that, and the lines of faults that are told of it
abbrev pub said_text : Said → List ℕ
said_text (says.Answer answer) = answer_text answer
said_text (says.Text fault) = check_fault_text fault
said_text (says.Host fault) = host_fault_text fault

abbrev pub said_status : Said → ℕ
said_status (says.Answer answer) = exit_status answer
said_status _ = 1

abbrev pub told_of : Said → List (List ℕ)
told_of (says.Answer answer) = []
told_of (says.Text fault) = check_fault_text fault ∷ []
told_of (says.Host fault) = host_fault_text fault ∷ []

-- one of the files: its name, what was asked for it, what its line says, and the lines after that
pub record CheckedFile : Type 0 where
  pub name : List ℕ
  pub request : Request
  pub said : Said
  pub more : List ℕ

-- what may be said after such a request: the answer to the text that was read, or its fault. Or memory was refused for the lines of the
-- answer, or the file couldn't be read
abbrev pub IsSaid : (explain : Bool) → (name : List ℕ) → Request → (more : List ℕ) → Said → Type 0
IsSaid explain name request more (says.Answer answer) =
    (text : List ℕ) × (request ≡ Read name text) × IsAnswerTo text answer × IsMore explain more
IsSaid explain name request more (says.Text fault) =
    (text : List ℕ) × (request ≡ Read name text) × IsCheckFault text fault × (more ≡ [])
IsSaid explain name request more (says.Host fault) =
    (more ≡ []) × (((fault ≡ NoMemory) × (explain ≡ true)
    × ((text : List ℕ) × (answer : CheckAnswer) × (request ≡ Read name text) × IsAnswerTo text answer))
    ⊎ ((why : FileFault) × (fault ≡ reading_fault why) × (request ≡ NotRead name why)))

abbrev pub IsRight : (explain : Bool) → CheckedFile → Type 0
IsRight explain file = IsSaid explain file.name file.request file.more file.said

abbrev pub status_of : CheckedFile → ℕ
status_of file = said_status file.said

abbrev pub faults_of : CheckedFile → List (List ℕ)
faults_of file = told_of file.said

-- its lines on standard output
abbrev pub line_text : (name : List ℕ) → Said → (more : List ℕ) → List ℕ
line_text name said more = shown_name name ++ (codes ": " ++ (said_text said ++ 10 ∷ more))

abbrev pub lines_of : CheckedFile → List ℕ
lines_of file = line_text file.name file.said file.more

-- the worse of two statuses: a fault's 1 before any other, else the greater
abbrev pub worse : ℕ → ℕ → ℕ
worse a b = if a == 1 || b == 1 then 1 else max a b

-- the totals of no file
abbrev pub no_totals : Totals
no_totals = record { status = 0; same = 0; unclean = 0; differs = 0; full = 0; faulty = 0 }

-- the counts with one more file, of which this is said
abbrev pub count_said : (one_more : ℕ → ℕ) → Said → Totals → Totals
count_said one_more (says.Answer answers.Same) t = record t { same = one_more t.same }
count_said one_more (says.Answer (answers.Unclean rule)) t = record t { unclean = one_more t.unclean }
count_said one_more (says.Answer (answers.Differs place)) t = record t { differs = one_more t.differs }
count_said one_more (says.Answer answers.Full) t = record t { full = one_more t.full }
count_said one_more _ t = record t { faulty = one_more t.faulty }

-- the totals with one more file
abbrev pub totals_after : (one_more : ℕ → ℕ) → Totals → Said → Totals
totals_after one_more t said = record (count_said one_more said t) { status = worse t.status (said_status said) }

abbrev pub totals_by : (one_more : ℕ → ℕ) → Totals → List CheckedFile → Totals
totals_by one_more t files = fold (λ u file. totals_after one_more u file.said) t files

abbrev pub totals_of : List CheckedFile → Totals
totals_of files = totals_by (λ n. n + 1) no_totals files

-- the line of the totals of so many files
abbrev pub totals_text : ℕ → Totals → List ℕ
totals_text n t =
    decimal n ++ (codes " files: " ++ (decimal t.same ++ (codes " same, " ++ (decimal t.unclean ++ (codes " unclean, "
    ++ (decimal t.differs ++ (codes " differs, " ++ (decimal t.full ++ (codes " full, " ++ (decimal t.faulty ++ codes " faulty"))))))))))

-- each of the files was read, in order. Standard output took the lines of each, and standard error was told its fault, if it has one, and
-- last the totals. The status is the worst
pub record ChecksAll {F W E : Type 0} (by : Relations F W E) (old new : HostState F W E) (explain : Bool) (names : List (List ℕ))
    (status : ℕ) : Type 0 where
  pub files : List CheckedFile
  pub right : All (IsRight explain) files
  pub named : map (λ file. file.name) files ≡ names
  pub asked : FoldsTo by.answers old.files (map (λ file. file.request) files) new.files
  pub took : Appends (by.contents old.out) (by.contents new.out) (flat_map lines_of files)
  pub told : (mid : E) × FoldsTo (TellsLine by.tells) old.err (flat_map faults_of files) mid
      × by.tells mid (totals_text (length names) (totals_of files) ++ 10 ∷ []) new.err
  pub ends : status ≡ fold worse 0 (map status_of files)

-- the same as an answer, where no file has a fault: what was asked and printed, and the totals that were told
pub record ChecksEach (explain : Bool) (names : List (List ℕ)) (status : ℕ) (requests : List Request) (printed : List ℕ)
    (told : List (List ℕ)) : Type 0 where
  pub files : List CheckedFile
  pub right : All (IsRight explain) files
  pub named : map (λ file. file.name) files ≡ names
  pub asked : requests ≡ map (λ file. file.request) files
  pub prints : printed ≡ flat_map lines_of files
  pub totals : told ≡ (totals_text (length names) (totals_of files) ++ 10 ∷ []) ∷ []
  pub ends : status ≡ fold worse 0 (map status_of files)

-- the first line that was told
abbrev pub first_told : List (List ℕ) → List ℕ
first_told [] = host_fault_text CannotWrite
first_told (line ∷ lines) = line

-- standard output refused the lines of one of the files, or to send them on. The files up to it were read, and none after it. The first
-- line that was told is that of the first fault of these files, or of that refusal
pub data BreaksOff (explain : Bool) (names : List (List ℕ)) (silent refused : Type 0) : List Request → List ℕ → Type 0 where
  breaks : (files : List CheckedFile) (rest : List (List ℕ)) → All (IsRight explain) files → map (λ file. file.name) files ++ rest ≡ names → refused
      → BreaksOff explain names silent refused (map (λ file. file.request) files) (first_told (flat_map faults_of files))
