use Rattle.std.proofs.Common.{◌≡◌, ◌++◌, drop}
use Rattle.mips_select.specs.Data.{padded_bytes}
use Rattle.mips_select.proofs.globals.padded_bytes.Given as goal

abbrev pub invariant-loop-global : goal.invariant-loop-global
invariant-loop-global l = l.bytes.items ++ padded_bytes (drop l.global-index l.globals) ≡ padded_bytes l.globals
