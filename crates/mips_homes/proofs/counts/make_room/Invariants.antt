use Rattle.std.proofs.Common.{◌≡◌, ℕ, ◌∷◌, [], length, ◌+◌, ◌-◌}
use Rattle.std.specs.Prelude.{slice_index_or}
use Rattle.rtl.specs.Names.{bound}
use Rattle.mips_homes.proofs.counts.make_room.Given as goal

abbrev pub invariant-loop-nothing : goal.invariant-loop-nothing
invariant-loop-nothing g l = ((y : ℕ) → slice_index_or l.table.items y l.nothing ≡ slice_index_or l.initial.table.items y l.nothing)
    × (bound (length l.table.items) (l.x ∷ []) ≡ bound (length l.initial.table.items) (l.x ∷ []))

abbrev pub decreases-loop-nothing : goal.decreases-loop-nothing
decreases-loop-nothing g l = l.x + 1 - length l.table.items
