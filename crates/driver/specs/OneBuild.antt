-- When two builds make one image.
use Rattle.std.specs.Prelude.{◌≡◌}
use Rattle.image.specs.Views.{counts_of}
use Rattle.sched_phase.specs.Phases.{Proposals, IsPhase}
use Rattle.sched_phase.specs.Outcomes.{ProposesOne, EachDecided}
use Rattle.driver.specs.declared.builds.Built.{Built}
use Rattle.driver.specs.Builds.{IsScheduledBuild}

-- scheduled builds of one unit that decided each block have the same bytes, where one order a block is proposed
abbrev pub OneBuild : Proposals → Type 0
OneBuild proposes = ProposesOne proposes → (a b : Built) (h : IsScheduledBuild (IsPhase proposes) a) (g : IsScheduledBuild (IsPhase proposes) b)
    → h.scheduled.unit ≡ g.scheduled.unit → EachDecided (counts_of a.report) → EachDecided (counts_of b.report) → a.image.items ≡ b.image.items
