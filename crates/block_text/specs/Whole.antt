-- The text of a block and an order, and where a text goes wrong.
use Rattle.std.specs.Prelude.{◌≡◌, ℕ, ◌+◌, ◌<◌, ◌≤◌, ◌⊎◌, List, [], ◌∷◌, ◌++◌, Option, Some, None, length, take, is_some, codes}
use Rattle.mips_isa.specs.declared.inst.Plain.{Plain}
use Rattle.mblock.specs.declared.limits.TheConstants.{BLOCK_INSTS, ORDER_INSTS}
use Rattle.mblock.specs.Parts.{BlockParts, OrderParts}
use Rattle.mblock.specs.Slots.{is_slotted}
use Rattle.block_text.specs.Spelling.{SpellsPlain, SpellsExit}

-- the lines spell the instructions, one each
abbrev pub AllSpell : List (List ℕ) → List Plain → Type 0
AllSpell [] [] = Unit {0}
AllSpell [] (i ∷ is) = ⊥
AllSpell (l ∷ ls) [] = ⊥
AllSpell (l ∷ ls) (i ∷ is) = SpellsPlain l i × AllSpell ls is

-- `slot I`
abbrev pub SpellsSlot : List ℕ → Plain → Type 0
SpellsSlot line i = (rest : List ℕ) × (line ≡ codes "slot " ++ rest) × SpellsPlain rest i

-- the last lines: a slot line, or nothing
abbrev pub EndsWith : List (List ℕ) → Option Plain → Type 0
EndsWith ls None = ls ≡ []
EndsWith ls (Some i) = (l : List ℕ) × (ls ≡ l ∷ []) × SpellsSlot l i

pub record SpellsPair (ls : List (List ℕ)) (b : BlockParts) (o : OrderParts) : Type 0 where
  pub block_lines : List (List ℕ)
  pub block_exit : List ℕ
  pub order_lines : List (List ℕ)
  pub order_exit : List ℕ
  pub last_lines : List (List ℕ)
  pub whole : ls ≡ codes "block" ∷ (block_lines ++ block_exit ∷ (codes "order" ∷ (order_lines ++ order_exit ∷ last_lines)))
  pub block : AllSpell block_lines b.insts
  pub leaves_block : SpellsExit block_exit b.exit
  pub order : AllSpell order_lines o.insts
  pub leaves_order : SpellsExit order_exit o.exit
  pub slot : EndsWith last_lines o.slot
  pub has_slot : is_some o.slot ≡ is_slotted o.exit
  pub block_size : length b.insts ≤ BLOCK_INSTS
  pub order_size : length o.insts ≤ ORDER_INSTS

-- some text begins with these lines
abbrev pub Begins : List (List ℕ) → Type 0
Begins ls = (more : List (List ℕ)) × (b : BlockParts) × (o : OrderParts) × SpellsPair (ls ++ more) b o

-- line k, from 0, is the first that can't stand in its place; or there is none and the text ends too early
abbrev pub FailsAt : List (List ℕ) → ℕ → Type 0
FailsAt ls k =
    Begins (take k ls)
    × (((k < length ls) × (Begins (take (k + 1) ls) → ⊥))
    ⊎ ((k ≡ length ls) × ((b : BlockParts) (o : OrderParts) → SpellsPair ls b o → ⊥)))
