use Rattle.std.proofs.Common.{◌≡◌, ◌≤◌, ◌+◌, ◌*◌, ◌++◌, drop}
use Rattle.std.specs.Prelude.{sum_by}
use Rattle.rtl.specs.declared.limits.TheConstants.{MAX_GLOBAL_WORDS}
use Rattle.rtl.specs.Programs.{word_count}
use Rattle.mips_select.specs.Data.{starts_from}
use Rattle.mips_select.proofs.globals.globals_starts.Given as goal

abbrev pub invariant-loop-global : goal.invariant-loop-global
invariant-loop-global l =
    (l.n + 4 * sum_by word_count (drop l.global-index l.globals) ≤ 4 * MAX_GLOBAL_WORDS)
    × (l.starts.items ++ starts_from l.n (drop l.global-index l.globals) ≡ starts_from 0 l.globals)
