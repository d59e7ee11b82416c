-- The blocks of a build and the orders that they have, as check texts.
use Rattle.std.specs.Prelude.{◌≡◌, ℕ, ◌+◌, List, [], ◌∷◌, ◌++◌, Option, Some, None, codes, decimal}
use Rattle.std.specs.List.{flat_map}
use Rattle.mips_isa.specs.declared.inst.Plain.{Plain}
use Rattle.mips_isa.specs.Texts.{instruction_text}
use Rattle.mblock.specs.Parts.{BlockParts, OrderParts}
use Rattle.mblock.specs.Orders.{AreOrders}
use Rattle.block_text.specs.Spelling.{exit_text}
use Rattle.sched_phase.specs.Phases.{IsWholePhase}
use Rattle.sched_phase.specs.Schedules.{ScheduledParts}
use Rattle.list_scheduler.specs.Proposals.{IsNoLonger}
use Rattle.driver.specs.Halves.{IsUnitOf}
use Rattle.mcc_web.specs.Answers.{Gives}

-- each instruction on a line
abbrev pub insts_text : List Plain → List ℕ
insts_text insts = flat_map (λ i. instruction_text i ++ 10 ∷ []) insts

abbrev pub slot_text : Option Plain → List ℕ
slot_text None = []
slot_text (Some i) = codes "slot " ++ (instruction_text i ++ 10 ∷ [])

-- `# BLOCK FIRST`, the block's number and that of its function's first block; and below it a check text
abbrev pub head_text : (number owner : ℕ) → List ℕ
head_text number owner = codes "# " ++ (decimal number ++ (codes " " ++ (decimal owner ++ codes "\nblock\n")))

abbrev pub pair_text : (number owner : ℕ) → BlockParts → OrderParts → List ℕ
pair_text number owner b o =
    head_text number owner ++ (insts_text b.insts ++ ((exit_text b.exit ++ codes "\norder\n")
    ++ (insts_text o.insts ++ ((exit_text o.exit ++ codes "\n") ++ slot_text o.slot))))

abbrev pub pairs_text : (number : ℕ) → List ℕ → List BlockParts → List OrderParts → List ℕ
pairs_text number (w ∷ ws) (b ∷ bs) (o ∷ os) = pair_text number w b o ++ pairs_text (number + 1) ws bs os
pairs_text number _ _ _ = []

-- a scheduled unit of the program that the text spells: each block with a checked order that is no longer than the plain one, or that
pub record SaysOrders (text : List ℕ) (depth : ℕ) (status said : ℕ) (old new : List ℕ) : Type 0 where
  pub scheduled : ScheduledParts
  pub of_text : IsUnitOf text depth scheduled.unit
  pub are_orders : AreOrders scheduled.unit.blocks scheduled.orders
  pub phase : IsWholePhase IsNoLonger scheduled
  pub ends : status ≡ 0
  pub gives : Gives (pairs_text 0 scheduled.unit.owner scheduled.unit.blocks scheduled.orders) said old new
