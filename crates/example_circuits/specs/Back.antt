-- Each label is read back from its word.
use Rattle.std.proofs.Common.{refl, arith, true, false}
use Rattle.term_labels.specs.Codings.{IsCoding}
use Rattle.term_labels.specs.Kinds.{coding_of, AreKinds}
use Rattle.term_labels.proofs.ByKinds.{by_kinds}
use Rattle.example_circuits.specs.declared.gate.Gate.TheVariants.{Level, Input, Not, And, Or}
use Rattle.example_circuits.specs.Gates.{gate_kinds}

are_kinds : AreKinds gate_kinds
are_kinds (Level true) e = (omega arith, refl, omega arith)
are_kinds (Level false) e = (omega arith, refl, omega arith)
are_kinds (Input n) e = (grind arith, grind arith, omega arith)
are_kinds Not e = (omega arith, refl, omega arith)
are_kinds And e = (omega arith, refl, omega arith)
are_kinds Or e = (omega arith, refl, omega arith)

pub gate_back : IsCoding (coding_of gate_kinds)
gate_back = by_kinds gate_kinds are_kinds
