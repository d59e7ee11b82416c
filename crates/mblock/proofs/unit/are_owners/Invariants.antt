use Rattle.std.proofs.Common.{◌≡◌, ℕ, ◌<◌, Some}
use Rattle.std.specs.Prelude.{slice_get}
use Rattle.mblock.specs.Parts.{BlockParts}
use Rattle.mblock.specs.Units.{Continues, BranchesWithin}
use Rattle.mblock.proofs.unit.are_owners.Given as goal

abbrev pub invariant-loop-i : goal.invariant-loop-i
invariant-loop-i l = record {
  continues : (k o : ℕ) → k < l.i → slice_get l.owner k ≡ Some o → Continues l.owner k o;
  within : (k o : ℕ) (b : BlockParts) → k < l.i → slice_get l.blocks k ≡ Some b → slice_get l.owner k ≡ Some o → BranchesWithin l.owner o b.exit;
}
