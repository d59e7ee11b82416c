-- Where in its text a reader stands, with what it has read.
use Rattle.std.specs.Prelude.{◌≡◌, ℕ, ◌<◌, ◌⊎◌, List, [], ◌∷◌, ◌++◌, Option, Some, None, length, codes, if◌then◌else◌}
use Rattle.mips_isa.specs.declared.inst.Plain.{Plain}
use Rattle.mblock.specs.declared.exit.Exit.{Exit}
use Rattle.mblock.specs.declared.limits.TheConstants.{BLOCK_INSTS, ORDER_INSTS}
use Rattle.mblock.specs.Parts.{BlockParts, OrderParts}
use Rattle.mblock.specs.Slots.{is_slotted}
use Rattle.block_text.specs.Spelling.{SpellsPlain, SpellsExit}
use Rattle.block_text.specs.Whole.{SpellsSlot}

pub data StageParts : Type 0 where
  AtBlock : StageParts
  InBlock : List Plain → StageParts
  AtOrder : BlockParts → StageParts
  InOrder : BlockParts → List Plain → StageParts
  AtSlot : BlockParts → List Plain → Exit → StageParts
  Done : BlockParts → OrderParts → StageParts

abbrev pub order_of : List Plain → Exit → Option Plain → OrderParts
order_of is e slot = record { insts = is; exit = e; slot = slot }

abbrev pub after_exit : BlockParts → List Plain → Exit → StageParts
after_exit b is e = (if is_slotted e then AtSlot b is e else Done b (order_of is e None))

-- one line takes the reader from one spot to another
abbrev pub Steps : StageParts → List ℕ → StageParts → Type 0
Steps AtBlock l q = (l ≡ codes "block") × (q ≡ InBlock [])
Steps (InBlock is) l q =
    ((i : Plain) × SpellsPlain l i × (length is < BLOCK_INSTS) × (q ≡ InBlock (is ++ i ∷ [])))
    ⊎ ((e : Exit) × SpellsExit l e × (q ≡ AtOrder (record { insts = is; exit = e })))
Steps (AtOrder b) l q = (l ≡ codes "order") × (q ≡ InOrder b [])
Steps (InOrder b is) l q =
    ((i : Plain) × SpellsPlain l i × (length is < ORDER_INSTS) × (q ≡ InOrder b (is ++ i ∷ [])))
    ⊎ ((e : Exit) × SpellsExit l e × (q ≡ after_exit b is e))
Steps (AtSlot b is e) l q = (i : Plain) × SpellsSlot l i × (q ≡ Done b (order_of is e (Some i)))
Steps (Done b o) l q = ⊥

-- the only spot to which the line leads, if there is one
abbrev pub LeadsTo : StageParts → List ℕ → Option StageParts → Type 0
LeadsTo p l None = (q : StageParts) → Steps p l q → ⊥
LeadsTo p l (Some r) = Steps p l r × ((q : StageParts) → Steps p l q → q ≡ r)
