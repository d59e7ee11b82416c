-- What is true of every run of a typed program, also of one that no C text gives.
use Rattle.std.specs.Prelude.{◌≡◌, ◌<◌, ◌^◌, ℕ, List, Some, All, slice_get}
use Rattle.words.specs.declared.width.Width.TheVariants.{Byte}
use Rattle.words.specs.Widths.{kept}
use Rattle.c_tokens.specs.declared.token.IntegerType.{IntegerType}
use Rattle.runs.specs.Stores.{Places, Arrays, IsWord, PlacesHoldWords, ArraysHoldWords}
use Rattle.runs.specs.Runs.{Running, Ended, Failed, HoldsWords}
use Rattle.runs.specs.Steps.{IsKept, GoesOnFromWhereItIs}
use Rattle.c_typed.specs.declared.tree.Global.{Global}
use Rattle.c_typed.specs.Trees.{TypedExpression, TypedProgram, element}
use Rattle.c_typed.specs.Values.{value_of}
use Rattle.c_typed.specs.Meaning.{Frame, Run, source_start, source_step}

abbrev pub FrameHoldsWords : Frame → Type 0
FrameHoldsWords f = PlacesHoldWords f.locals

abbrev pub RunHoldsWords : Run → Type 0
RunHoldsWords s = HoldsWords FrameHoldsWords s

-- where the locals and the globals hold words, each value is a word; a run begins with words, and each step keeps to them
pub record ValuesAreWords : Type 0 where
  pub value : (e : TypedExpression) (l : Places) (g : Arrays) (v : ℕ) → PlacesHoldWords l → ArraysHoldWords g → value_of e l g ≡ Some v
      → IsWord v
  pub run : (p : TypedProgram) (depth : ℕ) → IsKept RunHoldsWords (source_step p depth) (source_start p)

-- a number of steps is taken in two parts, and a run that ended or failed stays so
abbrev pub RunsGoOnFromWhereTheyAre : Type 0
RunsGoOnFromWhereTheyAre = (p : TypedProgram) (depth : ℕ) → GoesOnFromWhereItIs (source_step p depth)

-- each global's elements are words that its width keeps as they are
abbrev pub ElementsFit : List Global → Arrays → Type 0
ElementsFit globals g = (a : ℕ) (x : Global) (vs : List ℕ) → slice_get globals a ≡ Some x → slice_get g a ≡ Some vs
    → All (λ v. kept x.width v ≡ v) vs

abbrev pub RunFits : List Global → Run → Type 0
RunFits globals (Running frames g out) = ElementsFit globals g
RunFits globals (Ended w out) = Unit {0}
RunFits globals (Failed out) = Unit {0}

-- a run begins with elements that fit their widths, and each step keeps to them. So an element of an array of bytes is read as a number
-- from 0 to 255 (C99 6.2.5, 6.3.1.1)
pub record ElementsFitTheirWidths : Type 0 where
  pub run : (p : TypedProgram) (depth : ℕ) → IsKept (RunFits p.globals) (source_step p depth) (source_start p)
  pub read : (globals : List Global) (l : Places) (g : Arrays) (a : ℕ) (x : Global) (k : IntegerType) (i : TypedExpression) (v : ℕ)
      → ElementsFit globals g
      → slice_get globals a ≡ Some x → x.width ≡ Byte → value_of (element a k i) l g ≡ Some v → v < 2 ^ 8
