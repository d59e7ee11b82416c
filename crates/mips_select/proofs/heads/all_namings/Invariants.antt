use Rattle.std.proofs.Common.{◌≡◌, drop}
use Rattle.mips_select.specs.Heads.{namings, unnamed}
use Rattle.mips_select.proofs.heads.all_namings.Given as goal

abbrev pub invariant-loop-b : goal.invariant-loop-b
invariant-loop-b l = namings (drop l.b-index l.blocks) l.table.items ≡ namings l.blocks (unnamed l.blocks)
