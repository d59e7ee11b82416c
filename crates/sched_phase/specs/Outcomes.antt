-- When two phases over one unit come to the same.
use Rattle.std.specs.Prelude.{◌≡◌}
use Rattle.mblock.specs.Parts.{BlockParts, OrderParts}
use Rattle.image.specs.Images.{CountsOf}
use Rattle.sched_phase.specs.Schedules.{ScheduledParts, IsScheduled}
use Rattle.sched_phase.specs.Phases.{Proposals, IsPhase}

-- at most one order may be proposed for a block
abbrev pub ProposesOne : Proposals → Type 0
ProposesOne proposes = (b : BlockParts) (o p : OrderParts) → proposes b o → proposes b p → o ≡ p

-- each block was decided: none met a full table or refused memory, and none was missed
pub record EachDecided (c : CountsOf) : Type 0 where
  pub full : c.full ≡ 0
  pub no_memory : c.no_memory ≡ 0
  pub missed : c.missed ≡ 0

-- phases over one unit that decided each block have the same orders and the same counts, where one order a block is proposed
abbrev pub OneOutcome : Proposals → Type 0
OneOutcome proposes = ProposesOne proposes → (s t : ScheduledParts) → IsScheduled s → IsScheduled t → s.unit ≡ t.unit
    → IsPhase proposes s → IsPhase proposes t → EachDecided s.report → EachDecided t.report → (s.orders ≡ t.orders) × (s.report ≡ t.report)
