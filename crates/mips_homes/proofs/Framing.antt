-- A frame for each function: what a loop over the functions keeps, and what it has made.
use Rattle.std.proofs.Common.{◌≡◌, ℕ, ◌+◌, ◌<◌, ◌≤◌, List, [], ◌∷◌, ◌++◌, Some, refl, sym, ap, ◌∙◌, arith, length, get_or}
use Rattle.std.specs.Prelude.{slice_get}
use Rattle.std.proofs.lemmas.List.{length_push}
use Rattle.std.proofs.lemmas.Option.{slice_get_read, same_Some}
use Rattle.rtl.specs.declared.block.RFunc.{RFunc}
use Rattle.mips_homes.specs.declared.homed.Frame.{Frame}
use Rattle.mips_homes.specs.declared.homed.Homed.{Homed}
use Rattle.mips_homes.specs.Choice.{HaveFrames}
use Rattle.mips_homes.proofs.Choosing.{each_push}

-- the first functions have their frames, which are right for them
abbrev pub FramedSoFar : (RFunc → Frame → Type 0) → (funcs : List RFunc) → (frames : List Frame) → (i : ℕ) → Type 0
FramedSoFar IsFrame funcs frames i = (length frames ≡ i)
    × ((j : ℕ) (func : RFunc) (frame : Frame) → slice_get funcs j ≡ Some func → slice_get frames j ≡ Some frame → IsFrame func frame)

pub frames_step : (IsFrame : RFunc → Frame → Type 0) (funcs funcs' : List RFunc) (frames frames' : List Frame) (i : ℕ) (func : RFunc) (frame : Frame)
    → funcs' ≡ funcs → i < length funcs' → func ≡ get_or funcs' i func → frames' ≡ frames ++ frame ∷ [] → IsFrame func frame
    → FramedSoFar IsFrame funcs frames i → FramedSoFar IsFrame funcs frames' (i + 1)
frames_step IsFrame funcs funcs' frames frames' i func frame same lt is e one before = rw e (
  omega (arith, length_push frames frame, before.0),
  λ j g f got there.
      each_push (λ j f. (g : RFunc) → slice_get funcs j ≡ Some g → IsFrame g f) frames frame (λ j f there g got. before.1 j g f got there)
      (λ g got. rw (← same_Some func g (sym here ∙ got)) one) j f there g got,
)
  where
    here : slice_get funcs (length frames) ≡ Some func
    here = rw (before.0, ← same) (slice_get_read funcs' (length funcs') i func refl lt is)

pub frames_end : (IsFrame : RFunc → Frame → Type 0) (h : Homed) (i : ℕ) (funcs : List RFunc) → funcs ≡ (h.rtl.now).functions → length funcs ≤ i
    → i ≤ length funcs → FramedSoFar IsFrame (h.rtl.now).functions h.frames.items i → HaveFrames IsFrame h
frames_end IsFrame h i funcs same low high before = record { long = omega (arith, before.0, ap length same, low, high); by = before.1 }
