use Rattle.std.proofs.Common.{◌≡◌, ◌++◌, drop}
use Rattle.mips_select.specs.Data.{bare_bytes}
use Rattle.mips_select.proofs.globals.push_bare.Given as goal

abbrev pub invariant-loop-global : goal.invariant-loop-global
invariant-loop-global l = l.bytes.items ++ bare_bytes (drop l.global-index l.globals) ≡ l.fn.bytes.items ++ bare_bytes l.globals
