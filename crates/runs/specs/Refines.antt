-- One refinement: a target that comes to the same as its source, wherever the source isn't wrong.
use Rattle.std.specs.Prelude.{◌≡◌, ◌≢◌, ℕ, ◌+◌, ◌*◌, ◌<◌, ◌≤◌}
use Rattle.runs.specs.declared.ran.End.TheVariants.{Wrong}
use Rattle.runs.specs.Runs.{Outcome}

-- source and target say what each comes to by its own number of steps. For every number of steps after which the source isn't wrong,
-- there is one of the target's, in pace with it, where both agree
abbrev pub Refines : {T : Type 0} → (pace : ℕ → ℕ → Type 0) → (agrees : Outcome → T → Type 0) → (source : ℕ → Outcome) → (target : ℕ → T)
    → Type 0
Refines pace agrees source target = (n : ℕ) → (source n).end ≢ Wrong → (m : ℕ) × pace n m × agrees (source n) (target m)

-- the same end and output
abbrev pub Same : Outcome → Outcome → Type 0
Same source target = target ≡ source

-- no fewer steps
abbrev pub AtLeast : ℕ → ℕ → Type 0
AtLeast n m = n ≤ m

-- a step of the target stands for so many of the source at most
abbrev pub UpTo : ℕ → ℕ → ℕ → Type 0
UpTo factor n m = n < factor * (m + 1)

-- one pace after another
abbrev pub Then : (first second : ℕ → ℕ → Type 0) → ℕ → ℕ → Type 0
Then first second n m = (k : ℕ) × first n k × second k m

-- a run refines itself, step for step
abbrev pub EachRunRefinesItself : Type 0
EachRunRefinesItself = (run : ℕ → Outcome) → Refines (λ n m. m ≡ n) Same run run

-- what refines what refines a source refines the source, with the paces one after another
abbrev pub RefinementsCompose : Type 1
RefinementsCompose = (T : Type 0) (first second : ℕ → ℕ → Type 0) (agrees : Outcome → T → Type 0) (source middle : ℕ → Outcome) (target : ℕ
    → T)
    → Refines first Same source middle → Refines second agrees middle target → Refines (Then first second) agrees source target
