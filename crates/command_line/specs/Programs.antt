-- What a program does with its words: what it asks of its files, prints, tells and ends by is what the words' command does.
use Rattle.std.specs.Prelude.{◌≡◌, ◌⊎◌, ℕ, List, [], true}
use Rattle.clap.specs.Words.{IsAmong, Kinds, Text, fault_of, takes}
use Rattle.clap.specs.declared.error.kind.ErrorKind.{ErrorKind}
use Rattle.host.specs.Requests.{LeavesOutput, Request}
use Rattle.host.specs.Texts.{host_fault_text}
use Rattle.host.specs.declared.fault.HostFault.{HostFault}
use Rattle.host.specs.declared.fault.HostFault.TheVariants.{CannotWrite, NoMemory}
use Rattle.host.specs.WrongWords.{IsHelp, IsMistake}
use Rattle.command_line.specs.Commands.{IsCommand, mcc_app}
use Rattle.command_line.specs.declared.command.Command.{Command}

-- the words are a command, which has its answer
pub record IsAnswered (Answers : Command → ℕ → List Request → List ℕ → List (List ℕ) → Type 0) (words : List Text) (status : ℕ)
    (requests : List Request) (printed : List ℕ) (told : List (List ℕ)) : Type 0 where
  pub command : Command
  pub entered : IsCommand words command
  pub answered : Answers command status requests printed told

-- the help or the version is asked for, or the words are wrong, by one of these kinds of fault
abbrev pub HasHelp : Kinds → Type 0
HasHelp kinds = (kind : ErrorKind) × IsAmong kind kinds × IsHelp kind

abbrev pub HasMistake : Kinds → Type 0
HasMistake kinds = (kind : ErrorKind) × IsAmong kind kinds × IsMistake kind

-- how a program ends by words that aren't a command. It is by 0 with the help, by 1 with a fault, or by 2 where they are wrong
abbrev pub EndsUntaken : Kinds → (status : ℕ) → Type 0
EndsUntaken kinds status = ((status ≡ 0) × HasHelp kinds) ⊎ (status ≡ 1) ⊎ ((status ≡ 2) × HasMistake kinds)

-- why it ended before it had a command: memory was refused, or standard output refused the help. Of words that clap takes there is no help
abbrev pub IsFaultBefore : List Text → HostFault → Type 0
IsFaultBefore words fault =
    (takes mcc_app words ≡ true → fault ≡ NoMemory) × ((fault ≡ NoMemory) ⊎ ((fault ≡ CannotWrite) × HasHelp (fault_of mcc_app words)))

-- it ended so, and nothing was asked of the files
abbrev pub StopsBefore : List Text → (silent refused : Type 0) → List Request → List ℕ → Type 0
StopsBefore words silent refused requests told = (requests ≡ [])
    × ((fault : HostFault) × (told ≡ host_fault_text fault) × LeavesOutput fault silent refused × IsFaultBefore words fault)

-- the words are a command, which ended by a fault, or it ended before that
abbrev pub IsStopped : (Stops : Command → (silent refused : Type 0) → List Request → List ℕ → Type 0) → List Text → (silent refused : Type 0)
    → List Request → List ℕ → Type 0
IsStopped Stops words silent refused requests told = StopsBefore words silent refused requests told
    ⊎ ((command : Command) × IsCommand words command × Stops command silent refused requests told)
