-- The theorem of homes.
use Rattle.std.specs.Prelude.{◌≡◌, ℕ}
use Rattle.runs.specs.Runs.{Outcome}
use Rattle.rtl.specs.Meaning.{rtl_run}
use Rattle.mips_homes.specs.HomedRun.{homed_run}
use Rattle.mips_homes.specs.Homes.{AreAllHomes}
use Rattle.mips_homes.specs.declared.homed.Homed.{Homed}

-- at every bound and after every number of steps, a run over homes has the end and the output of the program's run
abbrev pub KeepsRtlRuns : (run : Homed → (depth n : ℕ) → Outcome) → Homed → Type 0
KeepsRtlRuns run h = (depth n : ℕ) → run h depth n ≡ rtl_run h.rtl.now depth n

abbrev pub EachHomedRunIsTheRun : Type 0
EachHomedRunIsTheRun = (h : Homed) → AreAllHomes h → KeepsRtlRuns homed_run h
