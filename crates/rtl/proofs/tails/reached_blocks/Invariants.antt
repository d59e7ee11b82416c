use Rattle.std.proofs.Common.{◌≡◌, ℕ, ◌<◌, false, length, get_or, take}
use Rattle.rtl.specs.Names.{some_go_to}
use Rattle.rtl.proofs.tails.reached_blocks.Given as goal

abbrev pub invariant-loop-block : goal.invariant-loop-block
invariant-loop-block l =
    (length l.marks.items ≡ length l.blocks)
    × ((x : ℕ) → x < length l.blocks → get_or l.marks.items x false ≡ some_go_to (take l.block-index l.blocks) x)
