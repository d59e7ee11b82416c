-- One word more.
use Rattle.std.proofs.Common.{List, length, slice_set, ◌≡◌, ◌≢◌, ◌≤◌, ◌<◌, ◌⊎◌, inl, inr, sym, subst, ℕ, suc, ◌+◌, Option, Some, None, is_some, false, refl, ap, ◌∙◌, arith}
use Rattle.mips_code.specs.Machines.{Code, Machine, step_of}
use Rattle.mips_machine.specs.Views.{stepped_of}
use Rattle.std.proofs.lemmas.Bool.{cases_eq}
use Rattle.std.proofs.lemmas.List.{get_or-set_other, get_or-set_same}
use Rattle.std.specs.Prelude.{slice_index}
use Rattle.mips_isa.specs.States.{load_at}
use Rattle.words.specs.declared.width.Width.TheVariants.{Word}
use Rattle.mips_machine.specs.Rules.{address_rule_of}
use Rattle.mcc_web.specs.Machines.{HoldsWords, WasNotAt, address_from, behind, going, one_more}

pub behind_more : (code : Code) (k : ℕ) (m now next : Machine) → behind code k m ≡ Some now
    → step_of (code now.pc) now ≡ stepped_of None next → behind code (k + 1) m ≡ Some next
behind_more code k m now next so_far step =
    let n : k + 1 ≡ suc k = omega arith in
    ap (λ j. behind code j m) n ∙ ap (one_more code) so_far ∙ ap going step

pub none_of : {A : Type 0} → (o : Option A) → is_some o ≡ false → o ≡ None
none_of None e = refl
none_of (Some x) e = search e

-- before the first word it was nowhere
pub none_passed : (code : Code) (start : Machine) (from stop : ℕ) → WasNotAt code start from stop 0
none_passed code start from stop k m low below found at = absurd (let no : ⊥ = omega (arith, below) in no)

some_same : {A : Type 0} (x y : A) → Some x ≡ Some y → x ≡ y
some_same x y e = search e

passed_by : (code : Code) (start now : Machine) (from stop k j : ℕ) (m : Machine) → WasNotAt code start from stop k → behind code k start ≡ Some now
    → (from ≤ k → now.pc ≢ stop) → from ≤ j → j < k + 1 → behind code j start ≡ Some m → (j ≡ k) ⊎ (j ≡ k → ⊥) → m.pc ≢ stop
passed_by code start now from stop k j m before here last low below found (inl same) at =
    let now_m : now ≡ m = some_same now m (sym here ∙ (ap (λ i. behind code i start) (sym same) ∙ found)) in
    last (omega (arith, low, same)) (ap (λ (x : Machine). x.pc) now_m ∙ at)
passed_by code start now from stop k j m before here last low below found (inr other) at =
    before j m low (omega (arith, below, other)) found at

-- one word more
pub passed_more : (code : Code) (start now : Machine) (from stop k : ℕ) → WasNotAt code start from stop k → behind code k start ≡ Some now
    → (from ≤ k → now.pc ≢ stop) → WasNotAt code start from stop (k + 1)
passed_more code start now from stop k before here last j m low below found =
    passed_by code start now from stop k j m before here last low below found (cases_eq j k)

module _ (m : Machine) (address k word : ℕ) (words : List ℕ) (inside : k < length words)
    (readable : address_rule_of Word (address_from address k) m.flow.state ≡ None)
    (is : word ≡ load_at Word m.flow.state.mapped m.flow.state.memory (address_from address k)) where
  holds_by : HoldsWords m address k words → (j : ℕ) → j < k + 1 → (j ≡ k) ⊎ (j ≡ k → ⊥)
      → (address_rule_of Word (address_from address j) m.flow.state ≡ None)
      × (slice_index (slice_set words k word) j ≡ load_at Word m.flow.state.mapped m.flow.state.memory (address_from address j))
  holds_by before j below (inl same) = (
    subst (λ (i : ℕ). address_rule_of Word (address_from address i) m.flow.state ≡ None) (sym same) readable,
    subst (λ (i : ℕ). slice_index (slice_set words k word) i ≡ load_at Word m.flow.state.mapped m.flow.state.memory (address_from address i))
        (sym same) (get_or-set_same words k word 0 inside ∙ is),
  )
  holds_by before j below (inr other) =
      let was = before j (omega (arith, below, other)) in
      (was.0, get_or-set_other words k j word 0 other ∙ was.1)

  -- one word more
  pub holds_more : HoldsWords m address k words → HoldsWords m address (k + 1) (slice_set words k word)
  holds_more before j below = holds_by before j below (cases_eq j k)
