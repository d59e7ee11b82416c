-- Lists of instructions, and items of a unit's run.
use Rattle.std.proofs.Common.{◌≡◌, ℕ, suc, ◌+◌, Bool, true, false, List, [], ◌∷◌, ◌++◌, map, length, Option, Some, None, refl, ap, ◌∙◌, arith}
use Rattle.std.specs.Prelude.{if◌then◌else◌, slice_get}
use Rattle.std.proofs.lemmas.Option.{same_Some, none-some}
use Rattle.runs.specs.declared.ran.End.TheVariants.{Done}
use Rattle.runs.specs.Runs.{Outcome}
use Rattle.mips_isa.specs.declared.inst.Plain.{Plain}
use Rattle.mips_isa.specs.States.{State}
use Rattle.mips_isa.specs.Actions.{action_of, is_safe, state_after}
use Rattle.mblock.specs.Parts.{BlockParts}
use Rattle.mblock.specs.BlockMeaning.{run, exit_effect}
use Rattle.mblock.specs.UnitRuns.{items, exit_item, outcome_of_departure}

-- what instructions do, one after another
pub record RunsTo (is : List Plain) (s t : State) : Type 0 where
  pub ends : run (map action_of is) s ≡ Some t

-- what is there only where a test holds
pub if_some : {A : Type 0} (b : Bool) (o : Option A) (x : A) → (if b then o else None) ≡ Some x → (b ≡ true) × (o ≡ Some x)
if_some true o x e = (refl, e)
if_some false o x e = absurd (none-some x e)

pub runs_none : (s : State) → RunsTo [] s s
runs_none s = record { ends = refl }

pub runs_then : {is js : List Plain} {s t u : State} → RunsTo is s t → RunsTo js t u → RunsTo (is ++ js) s u
runs_then {is = []} {s = s} {t = t} e f = rw (same_Some s t e.ends) f
runs_then {is = i ∷ is} {js = js} {s = s} {t = t} {u = u} e f =
    let safe = if_some (is_safe (action_of i) s) (run (map action_of is) (state_after (action_of i) s)) t e.ends in
    let rest : RunsTo (is ++ js) (state_after (action_of i) s) u = runs_then {is = is} (record { ends = safe.1 }) f in
    record { ends = rw safe.0 rest.ends }

-- where a run of a unit stands
pub data Point : Type 0 where
  At : (block : ℕ) → List Plain → State → List ℕ → Point
  Stopped : ℕ → List ℕ → Point

module _ (blocks : List BlockParts) (links : ℕ → ℕ) where
  abbrev pub from : ℕ → Point → Outcome
  from n (At k rest s out) = items blocks links n k rest s out
  from n (Stopped w out) = record { end = Done w; output = out }

  -- so many items lead from one point to the other
  pub record Leads (d : ℕ) (p q : Point) : Type 0 where
    pub by : (n : ℕ) → from (d + n) p ≡ from n q

  leads_list : (k : ℕ) (is rest : List Plain) (s t : State) (out : List ℕ) → run (map action_of is) s ≡ Some t → (n : ℕ)
      → items blocks links (length is + n) k (is ++ rest) s out ≡ items blocks links n k rest t out
  leads_list k [] rest s t out e n =
      let same : 0 + n ≡ n = omega arith in
      rw (same, same_Some s t e)
  leads_list k (i ∷ is) rest s t out e n =
      let one : length (i ∷ is) + n ≡ suc (length is + n) = omega arith in
      let safe = if_some (is_safe (action_of i) s) (run (map action_of is) (state_after (action_of i) s)) t e in
      rw (one, safe.0) (leads_list k is rest (state_after (action_of i) s) t out safe.1 n)

module _ {blocks : List BlockParts} {links : ℕ → ℕ} where
  pub leads_then : {d e : ℕ} {p q r : Point} → Leads blocks links d p q → Leads blocks links e q r → Leads blocks links (d + e) p r
  leads_then {d} {e} {p} a b = record {
    by = λ n. (let sums : d + e + n ≡ d + (e + n) = omega arith in ap (λ n. from blocks links n p) sums ∙ a.by (e + n) ∙ b.by n);
  }

  pub leads_run : (k : ℕ) {is : List Plain} (rest : List Plain) {s t : State} (out : List ℕ) → RunsTo is s t
      → Leads blocks links (length is) (At k (is ++ rest) s out) (At k rest t out)
  leads_run k {is} rest {s} {t} out e = record { by = leads_list blocks links k is rest s t out e.ends }

  -- an exit
  pub leads_exit : {k : ℕ} {b : BlockParts} {s : State} {out : List ℕ} {q : Point} → slice_get blocks k ≡ Some b
      → ((n : ℕ) → outcome_of_departure blocks links (exit_effect b.exit s (links k)).goes (items blocks links n) (exit_effect b.exit s (links k)).state out
      ≡ from blocks links n q) → Leads blocks links 1 (At k [] s out) q
  leads_exit {k} {s} {out} there e = record {
    by = λ n. (let one : 1 + n ≡ suc n = omega arith in
        ap (λ n. items blocks links n k [] s out) one ∙ ap (λ o. exit_item blocks links k o (items blocks links n) s out) there ∙ e n);
  }
