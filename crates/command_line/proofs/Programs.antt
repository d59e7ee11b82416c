-- What a command did, as what the program did with its words.
use Rattle.std.proofs.Common.{◌≡◌, ◌≤◌, ℕ, zero, suc, List, [], refl, inl, inr, true, arith, rules}
use Rattle.clap.specs.Words.{HasKind, IsAmong, Kinds, Text, fault_of, kind_of, takes}
use Rattle.clap.specs.declared.error.Error.{Error}
use Rattle.clap.specs.declared.error.kind.ErrorKind.{ErrorKind}
use Rattle.clap.specs.declared.error.kind.ErrorKind.TheVariants.{OutOfMemory}
use Rattle.host.specs.Requests.{Asks, Does, HostState, LeavesOutput, Relations, Request, TellsLine, WasRefused}
use Rattle.host.specs.Texts.{host_fault_text}
use Rattle.host.specs.declared.fault.HostFault.{HostFault}
use Rattle.host.specs.WrongWords.{IsFaultOfWords, IsHelp, IsMistake}
use Rattle.command_line.specs.Commands.{IsCommand, mcc_app}
use Rattle.command_line.specs.Programs.{EndsUntaken, HasHelp, HasMistake, IsAnswered, IsFaultBefore, IsStopped}
use Rattle.command_line.specs.declared.command.Command.{Command}

module _ {F W E : Type 0} (by : Relations F W E) (old new : HostState F W E) (words : List Text) where
  -- it has its answer
  pub answered_by : (Answers : Command → ℕ → List Request → List ℕ → List (List ℕ) → Type 0) (status : ℕ) (command : Command) → IsCommand words command
      → Does by old new (Answers command status) → Does by old new (IsAnswered Answers words status)
  answered_by Answers status command entered does = record {
    requests = does.requests;
    printed = does.printed;
    told = does.told;
    asked = does.asked;
    took = does.took;
    heard = does.heard;
    means = record { command = command; entered = entered; answered = does.means };
  }

  -- it ended by a fault
  pub stopped_by : (Stops : Command → (silent refused : Type 0) → List Request → List ℕ → Type 0) (command : Command) → IsCommand words command
      → Asks by old new (Stops command) → Asks by old new (IsStopped Stops words)
  stopped_by Stops command entered asks = record {
    requests = asks.requests;
    text = asks.text;
    asked = asks.asked;
    told = asks.told;
    means = inr (command, entered, asks.means);
  }

-- an error of clap's that isn't refused memory has one of the kinds of the words
among : (kinds : Kinds) (e : Error) → (kind_of e ≡ OutOfMemory → ⊥) → HasKind kinds e → IsAmong (kind_of e) kinds
among kinds e other (inl memory) = absurd (other memory)
among kinds e other (inr kind) = kind

not_memory : (kind : ErrorKind) → IsHelp kind → kind ≡ OutOfMemory → ⊥
not_memory kind help memory = search rules

pub help_of : (kinds : Kinds) (e : Error) → IsHelp (kind_of e) → HasKind kinds e → HasHelp kinds
help_of kinds e help has = (kind_of e, among kinds e (not_memory (kind_of e) help) has, help)

pub mistake_of : (kinds : Kinds) (e : Error) → IsMistake (kind_of e) → HasKind kinds e → HasMistake kinds
mistake_of kinds e mistake has = (kind_of e, among kinds e mistake.0 has, mistake)

-- the status that comes of an error
pub ends_untaken : (kinds : Kinds) (e : Error) (status : ℕ) → status ≤ 2 → HasKind kinds e → (status ≡ 0 → IsHelp (kind_of e))
    → (status ≡ 2 → IsMistake (kind_of e)) → EndsUntaken kinds status
ends_untaken kinds e zero most has help mistake = inl (refl, help_of kinds e (help refl) has)
ends_untaken kinds e (suc zero) most has help mistake = inr (inl refl)
ends_untaken kinds e (suc (suc zero)) most has help mistake = inr (inr (refl, mistake_of kinds e (mistake refl) has))
ends_untaken kinds e (suc (suc (suc n))) most has help mistake = let no : ⊥ = omega (arith, most) in absurd no

fault_before : (words : List Text) (e : Error) (fault : HostFault) → (takes mcc_app words ≡ true → kind_of e ≡ OutOfMemory)
    → HasKind (fault_of mcc_app words) e → IsFaultOfWords (kind_of e) fault → IsFaultBefore words fault
fault_before words e fault taken has (inl memory) = (λ is. memory.1, inl memory.1)
fault_before words e fault taken has (inr help) =
    (λ is. absurd (not_memory (kind_of e) help.0 (taken is)), inr (help.1, help_of (fault_of mcc_app words) e help.0 has))

-- there was no command: the fault of a host is told
pub stopped_before : {F W E : Type 0} (by : Relations F W E) (old new : HostState F W E) (words : List Text)
    (Stops : Command → (silent refused : Type 0) → List Request → List ℕ → Type 0) (e : Error) (fault : HostFault) → old.files ≡ new.files
    → TellsLine by.tells old.err (host_fault_text fault) new.err → LeavesOutput fault (new.out ≡ old.out) (WasRefused by.refuses new.out)
    → IsFaultOfWords (kind_of e) fault → (takes mcc_app words ≡ true → kind_of e ≡ OutOfMemory) → HasKind (fault_of mcc_app words) e
    → Asks by old new (IsStopped Stops words)
stopped_before by old new words Stops e fault same told left why taken has = record {
  requests = [];
  text = host_fault_text fault;
  asked = same;
  told = told;
  means = inl (refl, (fault, refl, left, fault_before words e fault taken has why));
}
