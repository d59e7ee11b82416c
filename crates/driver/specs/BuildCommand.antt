-- What the command `build` asks of its files, prints, tells and ends by.
use Rattle.std.specs.Prelude.{◌≡◌, ◌≢◌, ℕ, ◌+◌, List, [], ◌∷◌, ◌++◌, All, Bool, true, false, codes, decimal}
use Rattle.mblock.specs.declared.limits.TheConstants.{BLOCK_INSTS}
use Rattle.image.specs.Texts.{counts_text}
use Rattle.image.specs.Views.{counts_of}
use Rattle.list_scheduler.specs.Proposals.{IsNoLonger}
use Rattle.sched_phase.specs.Phases.{IsPhase}
use Rattle.command_line.specs.declared.command.AskedBuild.{AskedBuild}
use Rattle.host.specs.Requests.{Meaning, Request, reading_fault, writing_fault}
use Rattle.host.specs.declared.files.FileFault.{FileFault}
use Rattle.host.specs.Requests.Request.{Read, NotRead, Written, NotWritten}
use Rattle.text.specs.Shown.{IsTold}
use Rattle.host.specs.Texts.{host_fault_text}
use Rattle.host.specs.declared.fault.HostFault.TheVariants.{CannotWrite}
use Rattle.driver.specs.BuildTexts.{build_fault_text}
use Rattle.driver.specs.Builds.{IsScheduledBuild, IsPlain}
use Rattle.driver.specs.Follows.{FollowsText}
use Rattle.driver.specs.BuildFaults.{IsBuildFault}
use Rattle.driver.specs.Halves.{IsTooLongPlain}
use Rattle.driver.specs.declared.builds.Built.{Built}
use Rattle.driver.specs.declared.builds.BuildFault.{BuildFault}

-- how many items a word of the image stands for at most: one with --plain
abbrev pub factor_of : Bool → ℕ
factor_of true = 1
factor_of false = BLOCK_INSTS + 1

-- with --plain each block in its own order, else checked orders that are no longer
abbrev pub IsScheduledAs : Bool → Built → Type 0
IsScheduledAs true b = IsScheduledBuild IsPlain b
IsScheduledAs false b = IsScheduledBuild (IsPhase IsNoLonger) b

abbrev pub IsBuiltAs : List ℕ → ℕ → Bool → Built → Type 0
IsBuiltAs text depth plain b = FollowsText text depth (factor_of plain) b.image.items × IsScheduledAs plain b

-- why a text has no image, with --plain and without: it is too long only if its blocks are in their own orders
abbrev pub IsUnbuilt : (text : List ℕ) → (depth : ℕ) → BuildFault → Type 0
IsUnbuilt text depth fault = IsBuildFault text depth fault × IsTooLongPlain text depth fault

-- the line of a build
abbrev pub built_text : Bool → Built → List ℕ
built_text true b = codes "blocks " ++ (decimal b.blocks ++ codes " plain\n")
built_text false b = codes "blocks " ++ (decimal b.blocks ++ (codes " " ++ (counts_text (counts_of b.report) ++ 10 ∷ [])))

-- what is told if both names are the same, in the form of wrong words
abbrev pub one_name_text : List ℕ
one_name_text = codes "error: SOURCE and IMAGE are one file\n\n  tip: give the image a name of its own, as in 'mcc build prog.c prog.image'\n\nFor more information, try '--help'.\n"

module _ (b : AskedBuild) where
  -- `mcc build SOURCE IMAGE`: SOURCE was read, and then IMAGE became the bytes of an image of its text. Warnings are told, which steer no
  -- terminal
  pub record Builds (status : ℕ) (requests : List Request) (printed : List ℕ) (told : List (List ℕ)) : Type 0 where
    pub text : List ℕ
    pub built : Built
    pub asked : requests ≡ Read b.source.now text ∷ (Written b.image.now built.image.items ∷ [])
    pub promised : IsBuiltAs text b.depth b.plain built
    pub line : printed ≡ built_text b.plain built
    pub ends : status ≡ 0
    pub warned : All (All IsTold) told

  -- the same where it ended by a fault. IMAGE isn't touched but by the bytes of an image of the text, and nothing is printed before it was
  -- written
  pub data StopsBuild (silent refused : Type 0) : List Request → List ℕ → Type 0 where
    unread : (fault : FileFault) → silent
        → StopsBuild silent refused (NotRead b.source.now fault ∷ []) (host_fault_text (reading_fault fault))
    faulty : (text : List ℕ) (fault : BuildFault) → IsUnbuilt text b.depth fault → silent
        → StopsBuild silent refused (Read b.source.now text ∷ []) (build_fault_text fault)
    unwritten : (text : List ℕ) (built : Built) → IsBuiltAs text b.depth b.plain built → (fault : FileFault) → silent
        → StopsBuild silent refused (Read b.source.now text ∷ (NotWritten b.image.now built.image.items fault ∷ []))
        (host_fault_text (writing_fault fault))
    untold : (text : List ℕ) (built : Built) → IsBuiltAs text b.depth b.plain built → refused
        → StopsBuild silent refused (Read b.source.now text ∷ (Written b.image.now built.image.items ∷ []))
        (host_fault_text CannotWrite)

  -- by its names: a build if they differ; else status 2, nothing is asked or printed, and the mistake is told
  pub data AnswersBuild (status : ℕ) (requests : List Request) (printed : List ℕ) (told : List (List ℕ)) : Type 0 where
    apart : b.source.now ≢ b.image.now → Builds status requests printed told → AnswersBuild status requests printed told
    one_name : b.source.now ≡ b.image.now → status ≡ 2 → requests ≡ [] → printed ≡ [] → told ≡ one_name_text ∷ []
        → AnswersBuild status requests printed told

  -- a build that ended by a fault has two names
  abbrev pub StopsApart : (silent refused : Type 0) → List Request → List ℕ → Type 0
  StopsApart silent refused requests told = (b.source.now ≢ b.image.now) × StopsBuild silent refused requests told

-- the command, for two names that differ, and for any two
abbrev pub apart_meaning : AskedBuild → Meaning
apart_meaning b = record {
  Answers = Builds b;
  Stops = StopsBuild b;
  Begins = λ requests printed. ⊥;
}

abbrev pub build_meaning : AskedBuild → Meaning
build_meaning b = record {
  Answers = AnswersBuild b;
  Stops = StopsApart b;
  Begins = λ requests printed. ⊥;
}
