-- A load beside a word that names its register.
use Rattle.std.proofs.Common.{◌≡◌, ℕ, Bool, true, false, ◌&&◌, ◌==◌, refl, sym, ap, ap₂, ◌∙◌, subst, true≢false, eq-eqb, eqb-true}
use Rattle.std.proofs.lemmas.Bool.{and_parts}
use Rattle.mips_isa.specs.declared.action.Action.{Action}
use Rattle.mips_isa.specs.declared.action.Action.TheVariants.{Loads}
use Rattle.mips_isa.specs.States.{is_register}
use Rattle.mips_isa.specs.Actions.{loads}
use Rattle.mblock.specs.CleanTests.{loads_named}

pub conflict_free : (a : Action) (test : ℕ → Bool) → loads_named a test ≡ false → (r : ℕ) → loads a r ≡ true → test r ≡ false
conflict_free (Loads w d base offset) test e r l =
    let p = and_parts (is_register r) (d == r) l in
    let same : d ≡ r = eqb-true d r p.1 in
    ap (λ x. x && test r) (sym p.0) ∙ subst (λ x. (is_register x && test x) ≡ false) same e
conflict_free _ test e r l = absurd (true≢false (sym l))

pub conflict_found : (a : Action) (test : ℕ → Bool) → loads_named a test ≡ true → ((r : ℕ) → loads a r ≡ true → test r ≡ false) → ⊥
conflict_found (Loads w d base offset) test e h =
    let p = and_parts (is_register d) (test d) e in
    true≢false (sym p.1 ∙ h d (ap₂ (λ x y. x && y) p.0 (eq-eqb d d refl)))
conflict_found _ test e h = true≢false (sym e)
