-- The laws of refinement.
use Rattle.std.proofs.Common.{◌≢◌, ℕ, ◌+◌, ◌*◌, ◌<◌, ◌≤◌, refl, sym, subst, arith}
use Rattle.runs.specs.declared.ran.End.TheVariants.{Wrong}
use Rattle.runs.specs.Runs.{Outcome}
use Rattle.runs.specs.Refines.{Refines, AtLeast, UpTo, Then, EachRunRefinesItself, RefinementsCompose}

pub each_run_refines_itself : EachRunRefinesItself
each_run_refines_itself run n right = (n, refl, refl)

pub refinements_compose : RefinementsCompose
refinements_compose T first second agrees source middle target one two n right =
    let k = one n right in
    let Right : Outcome → Type 0 = λ o. o.end ≢ Wrong in
    let m = two k.0 (subst Right (sym k.2) right) in
    (m.0, (k.0, k.1, m.1), subst (λ (o : Outcome). agrees o (target m.0)) k.2 m.2)

-- a pace that another implies
pub in_pace : {T : Type 0} (pace pace' : ℕ → ℕ → Type 0) (agrees : Outcome → T → Type 0) (source : ℕ → Outcome) (target : ℕ → T)
    → ((n m : ℕ) → pace n m → pace' n m) → Refines pace agrees source target → Refines pace' agrees source target
in_pace {T} pace pace' agrees source target more refines n right = let m = refines n right in (m.0, more n m.0 m.1, m.2)

-- no fewer steps after no fewer
pub at_least_twice : (n m : ℕ) → Then AtLeast AtLeast n m → AtLeast n m
at_least_twice n m k = let first : n ≤ k.0 = k.1 in let second : k.0 ≤ m = k.2 in omega (arith, first, second)

-- so many of the source at most, after no fewer steps
pub at_least_up_to : (factor n m : ℕ) → Then AtLeast (UpTo factor) n m → UpTo factor n m
at_least_up_to factor n m k =
    let far : ℕ = factor * (m + 1) in
    let first : n ≤ k.0 = k.1 in
    let second : k.0 < far = k.2 in
    omega (arith, first, second)
