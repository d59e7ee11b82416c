-- Code of which refused memory leaves a beginning.
use Rattle.std.proofs.Common.{◌≡◌, ◌+◌, ◌-◌, List, ◌++◌, length, take, false, true, sym, ap, ◌∙◌, arith, length-append, append_assoc}
use Rattle.std.specs.Prelude.{Result, Ok, Err, OnErr}
use Rattle.std.specs.Result.{IsErr}
use Rattle.std.proofs.Math.Seq.{take-append-add}
use Rattle.std.proofs.lemmas.List.{take_all}
use Rattle.std.proofs.lemmas.Grind.{common_steps}
use Rattle.mips_isa.specs.declared.inst.Plain.{Plain}
use Rattle.mips_emit.specs.Prefixes.{EmitsPrefix, Emits}

-- behind other code that was to be emitted
pub prefix_behind : (was mid now a b : List Plain) → mid ≡ was ++ a → EmitsPrefix mid b now → EmitsPrefix was (a ++ b) now
prefix_behind was mid now a b e f =
    let n = length now - length mid in
    let k : length now - length was ≡ length a + n = omega (arith, ap length f, ap length e, length-append {A = Plain}) in
    cc (append_assoc was a (take n b), take-append-add a b n)

-- and before more
pub prefix_before : (was now a b : List Plain) → EmitsPrefix was a now → EmitsPrefix was (a ++ b) now
prefix_before was now a b f = grind (arith, common_steps)

pub prefix_among : (was mid now a b c : List Plain) → mid ≡ was ++ a → EmitsPrefix mid b now → EmitsPrefix was (a ++ (b ++ c)) now
prefix_among was mid now a b c e f = prefix_behind was mid now a (b ++ c) e (prefix_before mid now b c f)

-- all of it
pub whole_prefix : (was all now : List Plain) → now ≡ was ++ all → EmitsPrefix was all now
whole_prefix was all now e =
    let long = length-append was all in
    e ∙ ap (λ l. was ++ l) (sym (take_all (length now - length was) all (omega (arith, ap length e, long))))

pub at_err : {A E P : Type 0} (r : Result A E) → P → OnErr r P
at_err (Ok x) p = tt
at_err (Err e) p = p

-- what a call leaves that returns the Err of one that it makes
pub at_prefix : {A E : Type 0} (r : Result A E) (was all now : List Plain) → IsErr r → EmitsPrefix was all now → Emits r was all now
at_prefix (Ok x) was all now is_err some = let no : false ≡ true = is_err in cc
at_prefix (Err e) was all now is_err some = some

-- code in two parts
pub in_two : (was mid now a b : List Plain) → mid ≡ was ++ a → now ≡ mid ++ b → now ≡ was ++ (a ++ b)
in_two was mid now a b e f = cc (append_assoc was a b)

-- the last call of several
pub emits_behind : {A E : Type 0} (r : Result A E) (was mid now a b : List Plain) → mid ≡ was ++ a → Emits r mid b now → Emits r was (a ++ b) now
emits_behind (Ok x) was mid now a b e f = in_two was mid now a b e f
emits_behind (Err x) was mid now a b e f = prefix_behind was mid now a b e f
