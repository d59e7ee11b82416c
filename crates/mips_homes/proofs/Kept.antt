-- Over homes in registers 16 to 23 and in slots, the end of a block forgets nothing: the run that forgets is the one that doesn't.
use Rattle.std.proofs.Common.{◌≡◌, ℕ, zero, suc, List, [], ◌∷◌, None, refl, sym, ◌∙◌, ap, arith}
use Rattle.std.proofs.lemmas.Option.{slice_get_within}
use Rattle.runs.specs.Stores.{Places}
use Rattle.rtl.specs.Meaning as Meaning
use Rattle.rtl.specs.Meaning.{rtl_step, rtl_steps, rtl_start}
use Rattle.mips_homes.specs.HomedRun.{Surroundings, around, rules, callee_saved, Activation, Run, Running, exit_keeping, code_keeping, step_keeping}
use Rattle.mips_homes.specs.HomedRun.{steps_keeping, remembering_run, homed_step, homed_steps, homed_start, outcome}
use Rattle.mips_homes.specs.Forgetting.{ForgetsNothing, EachChoiceNeverForgets}
use Rattle.mips_homes.specs.Choice.{AreChoices}
use Rattle.mips_homes.specs.Homes.{AreAllHomes}
use Rattle.mips_homes.specs.Laws.{KeepsRtlRuns}
use Rattle.mips_homes.proofs.Lockstep.{Alike, steps_alike, runs_alike, starts_alike, only_callee_saved}
use Rattle.mips_homes.proofs.Choosing.{at_index}
use Rattle.mips_homes.proofs.Chosen.{choice_callee_saved, choices_serve, choice_keeps_runs}
use Rattle.mips_homes.specs.declared.homed.Homed.{Homed}
use Rattle.rtl.specs.declared.instruction.RInst.{RInst}
use Rattle.rtl.specs.declared.instruction.RExit.{RExit}
use Rattle.rtl.specs.declared.instruction.RExit.TheVariants.{Return}

-- of what an exit keeps only the registers count that it leaves here
exit_kept : (keep : Places → Places) (h : Homed) (depth : ℕ) (x : RExit) (a : Activation) (u : Surroundings)
    → exit_keeping (rules keep h depth) x a u ≡ exit_keeping (rules (λ _. keep u.registers) h depth) x a u
exit_kept keep h depth (Return None) a u = refl
exit_kept keep h depth _ a u = refl

same_step : (h : Homed) (depth : ℕ) (run : Run) → ForgetsNothing run → step_keeping (λ r. r) h depth run ≡ homed_step h depth run
same_step h depth (Running r (a ∷ ws) g out) only = code a.code.insts
  where
    code : (insts : List RInst)
        → code_keeping (rules (λ r. r) h depth) insts a.code.exit a (around r ws g out)
        ≡ code_keeping (rules callee_saved h depth) insts a.code.exit a (around r ws g out)
    code [] =
        exit_kept (λ r. r) h depth a.code.exit a (around r ws g out)
        ∙ ap (λ (p : Places). exit_keeping (rules (λ _. p) h depth) a.code.exit a (around r ws g out)) (sym only)
        ∙ sym (exit_kept callee_saved h depth a.code.exit a (around r ws g out))
    code (i ∷ insts) = refl
same_step h depth _ only = refl

module _ (h : Homed) (is : AreChoices h) (depth : ℕ) where
  all : AreAllHomes h
  all = choices_serve h is

  forgets_nothing : (s : Run) (t : Meaning.Run) → Alike h s t → ForgetsNothing s
  forgets_nothing = only_callee_saved h (λ i frame there.
      let func = at_index (h.rtl.now).functions i (omega (arith, slice_get_within h.frames.items i frame there, is.long)) in
      choice_callee_saved (is.by i func.0 frame func.1 there))

  pub never_forgets_by : (n : ℕ) → ForgetsNothing (homed_steps h depth n (homed_start h))
  never_forgets_by n = forgets_nothing (homed_steps h depth n (homed_start h)) (rtl_steps (h.rtl.now) depth n (rtl_start (h.rtl.now)))
      (runs_alike h all depth n (homed_start h) (rtl_start (h.rtl.now)) (starts_alike h all depth))

  -- the run that forgets nothing
  same_steps : (n : ℕ) (s : Run) (t : Meaning.Run) → Alike h s t → steps_keeping (λ r. r) h depth n s ≡ homed_steps h depth n s
  same_steps zero s t m = refl
  same_steps (suc n) s t m =
      ap (steps_keeping (λ r. r) h depth n) (same_step h depth s (forgets_nothing s t m))
      ∙ same_steps n (homed_step h depth s) (rtl_step (h.rtl.now) depth t) (steps_alike h all depth s t m)

pub never_forgets : EachChoiceNeverForgets
never_forgets = never_forgets_by

pub choice_remembers_runs : (h : Homed) → AreChoices h → KeepsRtlRuns remembering_run h
choice_remembers_runs h is depth n =
    ap outcome (same_steps h is depth n (homed_start h) (rtl_start (h.rtl.now)) (starts_alike h (choices_serve h is) depth))
    ∙ choice_keeps_runs h is depth n
