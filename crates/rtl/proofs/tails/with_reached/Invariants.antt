use Rattle.std.proofs.Common.{◌≡◌, ℕ, ◌<◌, false, take, drop, length, get_or}
use Rattle.rtl.specs.Names.{some_go_to}
use Rattle.rtl.specs.Tails.{is_reached, AreKept}
use Rattle.rtl.proofs.tails.with_reached.Given as goal

abbrev pub invariant-loop-number : goal.invariant-loop-number
invariant-loop-number l =
    (take l.number l.blocks.items ≡ take l.number l.fn.blocks.items)
    × AreKept (is_reached l.fn.blocks.items) l.number (drop l.number l.fn.blocks.items) (drop l.number l.blocks.items)
    × (length l.blocks.items ≡ length l.fn.blocks.items)
    × (length l.marks.items ≡ length l.fn.blocks.items)
    × ((x : ℕ) → x < length l.fn.blocks.items → get_or l.marks.items x false ≡ some_go_to l.fn.blocks.items x)
