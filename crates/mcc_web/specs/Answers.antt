-- What the exports give their host.
use Rattle.std.specs.Prelude.{◌≡◌, ◌≢◌, ◌<◌, ◌≤◌, ℕ, List, ◌∷◌, ◌++◌, Bool, true, false, All, length, take}
use Rattle.text.specs.Shown.{IsShown}
use Rattle.host.specs.OneFile.{FileMeaning}
use Rattle.list_scheduler.specs.Proposals.{IsNoLonger}
use Rattle.sched_phase.specs.Phases.{IsWholePhase}
use Rattle.driver.specs.BuildCommand.{built_text, factor_of}
use Rattle.driver.specs.BuildTexts.{build_fault_text}
use Rattle.driver.specs.Builds.{IsPlain, IsScheduledBuild}
use Rattle.driver.specs.BuildFaults.{IsBuildFault}
use Rattle.driver.specs.Follows.{FollowsText}
use Rattle.driver.specs.declared.builds.Built.{Built}
use Rattle.mcc_web.specs.declared.told.TheConstants.{REFUSED}

-- a text of this length, at the front of what the host lent, where it fits; else that is as it was
abbrev pub Gives : (text : List ℕ) → (said : ℕ) → (old new : List ℕ) → Type 0
Gives text said old new = (said ≡ length text) × (length new ≡ length old) × (said ≤ length old → take said new ≡ text)
    × (length old < said → new ≡ old)

-- where memory was refused to a text there is none, and what the host lent is as it was
abbrev pub KeepsRefused : (status said : ℕ) → (old new : List ℕ) → Type 0
KeepsRefused status said old new = status ≡ REFUSED → (said ≡ 0) × (new ≡ old)

-- a line of a fault, and maybe more after it
abbrev pub GivesLine : (line : List ℕ) → (said : ℕ) → (old new : List ℕ) → Type 0
GivesLine line said old new = (more : List ℕ) × Gives (line ++ 10 ∷ more) said old new

-- a fault that was found, by its line
pub record SaysFault {F : Type 0} (found : F → Type 0) (line : F → List ℕ) (said : ℕ) (old new : List ℕ) : Type 0 where
  pub fault : F
  pub is : found fault
  pub gives : GivesLine (line fault) said old new

-- what a command prints of bytes that have an answer, with its status
pub record SaysAnswer {A B : Type 0} (m : FileMeaning A B) (bytes : List ℕ) (status said : ℕ) (old new : List ℕ) : Type 0 where
  pub answer : A
  pub answered : m.Answers bytes answer
  pub ends : status ≡ m.status_of answer
  pub printed : List ℕ
  pub prints : m.Prints answer printed
  pub gives : Gives printed said old new

-- the line of the bytes' fault
abbrev pub SaysFaultOf : {A B : Type 0} → FileMeaning A B → (bytes : List ℕ) → (said : ℕ) → (old new : List ℕ) → Type 0
SaysFaultOf m bytes = SaysFault (m.Faults bytes) m.line

-- what an export gives of bytes by a command's status: what the command prints of their answer, or the line of their fault
abbrev pub SaysAsCommand : {A B : Type 0} → FileMeaning A B → (bytes : List ℕ) → (status said : ℕ) → (old new : List ℕ) → Type 0
SaysAsCommand m bytes status said old new = (status ≢ 1 → status ≢ REFUSED → SaysAnswer m bytes status said old new)
    × (status ≡ 1 → SaysFaultOf m bytes said old new) × KeepsRefused status said old new

-- with `plain` each block in its own order, else checked orders that are no longer; no block is missed
abbrev pub IsScheduledAs : Bool → Built → Type 0
IsScheduledAs true b = IsScheduledBuild IsPlain b
IsScheduledAs false b = IsScheduledBuild (IsWholePhase IsNoLonger) b

-- `build`: its line, and after it the bytes of an image that follows the program
pub record SaysImage (text : List ℕ) (depth : ℕ) (plain : Bool) (said : ℕ) (old new : List ℕ) : Type 0 where
  pub built : Built
  pub follows : FollowsText text depth (factor_of plain) built.image.items
  pub scheduled : IsScheduledAs plain built
  pub gives : Gives (built_text plain built ++ built.image.items) said old new

abbrev pub SaysBuildFault : (text : List ℕ) (depth : ℕ) → (said : ℕ) → (old new : List ℕ) → Type 0
SaysBuildFault text depth = SaysFault (IsBuildFault text depth) build_fault_text

-- why a run is wrong: lines of printable ASCII
pub record SaysReason (status said : ℕ) (old new : List ℕ) : Type 0 where
  pub text : List ℕ
  pub shown : All IsShown text
  pub ends : status ≡ 0
  pub gives : Gives text said old new
