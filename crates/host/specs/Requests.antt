-- What a program asks of its files and its streams.
use Rattle.std.specs.Prelude.{◌≡◌, ◌≢◌, ◌⊎◌, ℕ, List, [], ◌∷◌, ◌++◌, All, Option}
use Rattle.std.specs.List.{FoldsTo}
use Rattle.std.specs.Io.KnownBytes.{Appends}
use Rattle.host.specs.declared.files.FileFault.{FileFault}
use Rattle.host.specs.declared.files.FileFault.TheVariants as file_faults
use Rattle.host.specs.declared.fault.HostFault.{HostFault}
use Rattle.host.specs.declared.fault.HostFault.TheVariants as host_faults
use Rattle.text.specs.Shown.{IsTold}
use Rattle.host.specs.Texts.{host_fault_text}

-- one request with its answer: the bytes that were read, or that were written; or why it was refused
pub data Request : Type 0 where
  Read : (name bytes : List ℕ) → Request
  NotRead : (name : List ℕ) (fault : FileFault) → Request
  Written : (name bytes : List ℕ) → Request
  NotWritten : (name bytes : List ℕ) (fault : FileFault) → Request

-- what a command tells of a read that was refused, and of a write
abbrev pub reading_fault : FileFault → HostFault
reading_fault file_faults.Failed = host_faults.CannotRead
reading_fault file_faults.NoMemory = host_faults.NoMemory

abbrev pub writing_fault : FileFault → HostFault
writing_fault file_faults.Failed = host_faults.CannotWrite
writing_fault file_faults.NoMemory = host_faults.NoMemory

-- what a host's parts have of their own: how files answer a request, and how standard error takes what it is told. Of standard output it is
-- what it holds, when it sends that on, and when it refuses
pub record Relations (F W E : Type 0) : Type 1 where
  pub answers : F → Request → F → Type 0
  pub contents : W → Option (List ℕ)
  pub sends : W → W → Type 0
  pub refuses : W → W → Type 0
  pub tells : E → List ℕ → E → Type 0

-- its files and its streams before a command, or after it
pub record HostState (F W E : Type 0) : Type 0 where
  pub files : F
  pub out : W
  pub err : E

abbrev pub relations : {F W E : Type 0} → (F → Request → F → Type 0) → (W → Option (List ℕ)) → (sends refuses : W → W → Type 0)
    → (E → List ℕ → E → Type 0) → Relations F W E
relations answers contents sends refuses tells =
    record { answers = answers; contents = contents; sends = sends; refuses = refuses; tells = tells }

abbrev pub host_of : {F W E : Type 0} → F → W → E → HostState F W E
host_of files out err = record { files = files; out = out; err = err }

-- what a command did: all that it asked of its files, in order, the bytes that its standard output took, and what its standard error was
-- told. They are as Means says
pub record Does {F W E : Type 0} (by : Relations F W E) (old new : HostState F W E)
    (Means : List Request → (printed : List ℕ) → (told : List (List ℕ)) → Type 0) : Type 0 where
  pub requests : List Request
  pub printed : List ℕ
  pub told : List (List ℕ)
  pub asked : FoldsTo by.answers old.files requests new.files
  pub took : Appends (by.contents old.out) (by.contents new.out) printed
  pub heard : FoldsTo by.tells old.err told new.err
  pub means : Means requests printed told

-- standard output was asked to send on what it had taken, and nothing was written after that
abbrev pub IsSent : {W : Type 0} → (W → W → Type 0) → W → Type 0
IsSent {W} sends out = (kept : W) × sends kept out

-- standard output refused what it was asked last
abbrev pub WasRefused : {W : Type 0} → (W → W → Type 0) → W → Type 0
WasRefused {W} refuses out = (kept : W) × refuses kept out

-- what a fault of the host says of standard output: 61 comes only where it refused, and any other leaves it as it was
abbrev pub LeavesOutput : HostFault → (silent refused : Type 0) → Type 0
LeavesOutput host_faults.CannotRead silent refused = silent
LeavesOutput host_faults.CannotWrite silent refused = refused
LeavesOutput host_faults.NoMemory silent refused = silent

-- a line was told, and maybe more below it, which steers no terminal
abbrev pub TellsLine : {E : Type 0} → (E → List ℕ → E → Type 0) → E → List ℕ → E → Type 0
TellsLine tells old text new = (more : List (List ℕ)) × FoldsTo tells old ((text ++ 10 ∷ []) ∷ more) new × All (All IsTold) more

-- what was told, piece by piece, is so
abbrev pub TellsBeside : {E : Type 0} → (E → List ℕ → E → Type 0) → E → (List (List ℕ) → Type 0) → E → Type 0
TellsBeside tells old Remarks new = (told : List (List ℕ)) × FoldsTo tells old told new × Remarks told

-- what a command did that ended by a fault: all that it asked of its files, and the line that it told. They are as Means says. That also
-- says whether standard output is as it was, or refused what it was asked last
pub record Asks {F W E : Type 0} (by : Relations F W E) (old new : HostState F W E)
    (Means : (silent refused : Type 0) → List Request → List ℕ → Type 0) : Type 0 where
  pub requests : List Request
  pub text : List ℕ
  pub asked : FoldsTo by.answers old.files requests new.files
  pub told : TellsLine by.tells old.err text new.err
  pub means : Means (new.out ≡ old.out) (WasRefused by.refuses new.out) requests text

-- what a command did that memory was refused to once it had begun to print. It is all that it asked of its files, and the bytes that its
-- standard output took until then, as Begins says. It told fault 30
pub record StopsMidway {F W E : Type 0} (by : Relations F W E) (old new : HostState F W E) (Begins : List Request → List ℕ → Type 0) : Type 0 where
  pub requests : List Request
  pub printed : List ℕ
  pub asked : FoldsTo by.answers old.files requests new.files
  pub took : Appends (by.contents old.out) (by.contents new.out) printed
  pub told : TellsLine by.tells old.err (host_fault_text host_faults.NoMemory) new.err
  pub begins : Begins requests printed

-- a command: what it asks, prints and tells with an answer, and what it asks and tells where it ends by a fault. It also says what was
-- asked and printed where memory was refused once it had begun
pub record Meaning : Type 1 where
  pub Answers : (status : ℕ) → List Request → (printed : List ℕ) → (told : List (List ℕ)) → Type 0
  pub Stops : (silent refused : Type 0) → List Request → List ℕ → Type 0
  pub Begins : List Request → List ℕ → Type 0

-- a command did as it means, by its status. Status 1 is that of a fault, and 2 that of wrong words, where nothing need be sent on
pub record Ran {F W E : Type 0} (by : Relations F W E) (old new : HostState F W E) (m : Meaning) (status : ℕ) : Type 0 where
  pub answered : status ≢ 1 → Does by old new (m.Answers status)
  pub sent : status ≢ 1 → status ≢ 2 → IsSent by.sends new.out
  pub stopped : status ≡ 1 → Asks by old new m.Stops ⊎ StopsMidway by old new m.Begins
