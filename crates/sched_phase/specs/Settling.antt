-- One more block and its order.
use Rattle.std.specs.Prelude.{◌≡◌, ℕ, ◌+◌, ◌≤◌, List, Option, Some, None, IfSome, Vec, length, slice_get}
use Rattle.std.specs.declared.alloc.Global.{Global}
use Rattle.mblock.specs.declared.limits.TheConstants.{BLOCK_INSTS}
use Rattle.mblock.specs.Parts.{BlockParts, OrderParts}
use Rattle.mblock.specs.Clean.{FitsSlot}
use Rattle.mblock.specs.BlockMeaning.{exit_shape}
use Rattle.mblock.specs.Orders.{Means}
use Rattle.image.specs.Images.{CountsOf}
use Rattle.image.specs.Images.{total}
use Rattle.image.specs.Views.{counts_of}
use Rattle.block_validator.specs.declared.verdict.Verdict.{Verdict}
use Rattle.block_validator.specs.declared.verdict.Verdict.TheVariants as verdicts
use Rattle.term_table.specs.Passes.{TableState, PassState, IsOf}
use Rattle.sym_exec.specs.declared.state.TermPlaces.{TermPlaces}
use Rattle.sym_exec.specs.Starts.{IsStart}
use Rattle.sched_phase.specs.Phases.{Kind, same, unclean, differs, full, no_memory, missed, Proposals, AreSettled, IsRightFor, count_of}
use Rattle.sched_phase.specs.declared.settle.Progress.{Progress}
use Rattle.sched_phase.specs.declared.terms.BatchTerms.{BatchTerms}

-- what the block is counted under that has this verdict, or none
abbrev pub kind_of : Option Verdict → Kind
kind_of None = missed
kind_of (Some (verdicts.Same _)) = same
kind_of (Some (verdicts.Unclean _)) = unclean
kind_of (Some (verdicts.Differs _)) = differs
kind_of (Some verdicts.Full) = full
kind_of (Some verdicts.NoMemory) = no_memory

-- one block more is counted, under this kind
pub record AddsOne (k : Kind) (old new : CountsOf) : Type 0 where
  pub same : new.same ≡ old.same + (count_of k).same
  pub unclean : new.unclean ≡ old.unclean + (count_of k).unclean
  pub differs : new.differs ≡ old.differs + (count_of k).differs
  pub full : new.full ≡ old.full + (count_of k).full
  pub no_memory : new.no_memory ≡ old.no_memory + (count_of k).no_memory
  pub missed : new.missed ≡ old.missed + (count_of k).missed

-- what is asked of each order of a unit
pub record Serves (b : BlockParts) (o : OrderParts) : Type 0 where
  pub short : length b.insts ≤ BLOCK_INSTS
  pub fits : FitsSlot o
  pub exit : exit_shape b.exit ≡ exit_shape o.exit
  pub means : Means b o

-- the first blocks have their orders, which serve them, and are counted
pub record AreDone (proposes : Proposals) (blocks : List BlockParts) (p : Progress) : Type 0 where
  pub settled : AreSettled proposes blocks p.orders.items (counts_of p.report)
  pub serve : (i : ℕ) (b : BlockParts) (o : OrderParts) → slice_get blocks i ≡ Some b → slice_get p.orders.items i ≡ Some o → Serves b o
  pub sum : total (counts_of p.report) ≡ length p.orders.items

-- verdicts for blocks one after another, from the one of this number on
abbrev pub AreRightFrom : Proposals → List BlockParts → ℕ → List Verdict → Type 0
AreRightFrom proposes blocks first verdicts = (k : ℕ) (v : Verdict) → slice_get verdicts k ≡ Some v → IsRightFor proposes blocks (first + k) v

-- a run of blocks, by the number of its first one and the verdicts, if there is one
abbrev pub IsRightRun : Proposals → List BlockParts → Option (ℕ × Vec Verdict Global) → Type 0
IsRightRun proposes blocks run = IfSome run (λ r. AreRightFrom proposes blocks r.0 r.1.items)

-- the pass is the table's, and knows the terms of the start, if they are there
abbrev pub Knows : TableState → Option TermPlaces → PassState → Type 0
Knows table start p = IsOf table p × IfSome start (IsStart p)

abbrev pub ServesTerms : BatchTerms → PassState → Type 0
ServesTerms b p = Knows b.table b.start p
