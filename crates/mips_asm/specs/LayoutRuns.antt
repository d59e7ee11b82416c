-- What laid out orders do: the words of their instructions run as the unit of their blocks.
use Rattle.std.specs.Prelude.{ℕ, ◌+◌, ◌≤◌, List, [], None, map, All, length}
use Rattle.runs.specs.Refines.{Refines, UpTo}
use Rattle.mips_isa.specs.Ranges.{IsInst}
use Rattle.mips_isa.specs.States.{State, IsWords}
use Rattle.mips_isa.specs.Flows.{quiet}
use Rattle.mips_code.specs.Words.{inst_word}
use Rattle.mips_code.specs.Machines.{words_code, machine_run}
use Rattle.mips_code.specs.Agreement.{Agrees}
use Rattle.mblock.specs.declared.limits.TheConstants.{BLOCK_INSTS}
use Rattle.mblock.specs.Parts.{BlockParts, OrderParts}
use Rattle.mblock.specs.PlainOrders.{plain_order_of}
use Rattle.mblock.specs.Orders.{AreOrders}
use Rattle.mblock.specs.UnitRuns.{unit_run, TellsApart}
use Rattle.mips_asm.specs.declared.limits.TheConstants.{CODE_WORDS}
use Rattle.mips_asm.specs.Layout.{layout, links_of, address_of_place}

-- wherever the unit isn't stuck, the code comes to the same, with at most c items a word
abbrev pub RunsAs : (c : ℕ) → List BlockParts → List OrderParts → List ℕ → Type 0
RunsAs c blocks orders words = (s : State) → IsWords s → Refines (UpTo c) Agrees (unit_run blocks (links_of orders) s)
    (λ m. machine_run (words_code words) m (record { flow = quiet s; pc = address_of_place 0; target = None; output = [] }))

-- the instructions of a block and its exit in one word at most, whatever the orders are
abbrev pub EachLayoutRuns : Type 0
EachLayoutRuns = (blocks : List BlockParts) (orders : List OrderParts) → AreOrders blocks orders → length (layout orders) ≤ CODE_WORDS
    → All IsInst (layout orders) → RunsAs (BLOCK_INSTS + 1) blocks orders (map inst_word (layout orders))

-- plain orders keep every instruction in place
abbrev pub EachPlainLayoutRuns : Type 0
EachPlainLayoutRuns = (blocks : List BlockParts) → AreOrders blocks (map plain_order_of blocks)
    → length (layout (map plain_order_of blocks)) ≤ CODE_WORDS → All IsInst (layout (map plain_order_of blocks))
    → RunsAs 1 blocks (map plain_order_of blocks) (map inst_word (layout (map plain_order_of blocks)))

-- the links of a layout are words, and no two calls have one
abbrev pub EachLayoutTellsCallsApart : Type 0
EachLayoutTellsCallsApart = (blocks : List BlockParts) (orders : List OrderParts) → AreOrders blocks orders
    → length (layout orders) ≤ CODE_WORDS
    → TellsApart (links_of orders) blocks
