use Rattle.std.proofs.Common.{◌≡◌, ◌++◌, drop}
use Rattle.std.specs.Prelude.{slice_index}
use Rattle.mips_select.specs.Split.{owners_from}
use Rattle.mips_select.proofs.pieces.owners_of.Given as goal

abbrev pub invariant-loop-i : goal.invariant-loop-i
invariant-loop-i l = l.owners.items ++ owners_from 512 (λ n. slice_index l.numbers n) (drop l.i l.long) (drop l.i l.owner) ≡ owners_from 512
    (λ n. slice_index l.numbers n) l.long l.owner
