use Rattle.std.proofs.Common.{◌≡◌, ◌≤◌, take}
use Rattle.std.specs.Prelude.{sum_by}
use Rattle.rtl.specs.declared.limits.TheConstants.{MAX_GLOBAL_WORDS}
use Rattle.rtl.specs.Programs.{word_count}
use Rattle.rtl.proofs.program.words_fit.Given as goal

abbrev pub invariant-loop-global : goal.invariant-loop-global
invariant-loop-global l = record { so_far : l.total ≡ sum_by word_count (take l.global-index l.globals); fits : l.total ≤ MAX_GLOBAL_WORDS }
