-- Which rules are broken: the least of them, and none where an action is safe and nothing holds it up.
use Rattle.std.proofs.Common.{◌≡◌, ℕ, suc, ◌<◌, ◌==◌, Bool, true, false, cond, not, ◌&&◌, ◌||◌, nat_lt, List, [], ◌∷◌, inl, inr, Option}
use Rattle.std.proofs.Common.{Some, None, refl, sym, ap, ◌∙◌, subst, arith, true≢false}
use Rattle.std.specs.Prelude.{find, is_some}
use Rattle.std.proofs.lemmas.Bool.{cases_lt}
use Rattle.std.proofs.lemmas.Option.{same_Some, none-some}
use Rattle.mips_isa.specs.declared.action.Action.{Action}
use Rattle.mips_isa.specs.declared.action.Action.TheVariants.{Sets, Loads, Stores, Divides, MovesHigh, MovesLow}
use Rattle.mips_isa.specs.declared.rule.Rule.{Rule}
use Rattle.mips_isa.specs.declared.rule.Rule.TheVariants.{M1, M2, M3, M4, M5, M6, M7, M8, M9}
use Rattle.mips_isa.specs.States.{is_aligned, read}
use Rattle.mips_isa.specs.Actions.{address, is_safe, touches, is_product}
use Rattle.words.specs.Operators.{has_quotient}
use Rattle.mips_isa.specs.Flows.{Flow, on_pending}
use Rattle.mips_isa.specs.Rules.{rules, rule_number, action_breaks, action_rule_of, is_stuck, IsLeastRule}
use Rattle.mips_isa.specs.Laws.{StuckActionsBreakARule, SafeActionsKeepTheirRules, EachBrokenRuleIsLeast, ReadsAndWritesAreTouched}

-- ---- the least rule

abbrev rule_at : ℕ → Rule
rule_at n = cond (n == 1) M1
    (cond (n == 2) M2 (cond (n == 3) M3 (cond (n == 4) M4 (cond (n == 5) M5 (cond (n == 6) M6 (cond (n == 7) M7 (cond (n == 8) M8 M9)))))))

rule_back : (r : Rule) → rule_at (rule_number r) ≡ r
rule_back M1 = refl
rule_back _ = refl

one_number : (q r : Rule) → rule_number q ≡ rule_number r → q ≡ r
one_number q r e = sym (rule_back q) ∙ ap rule_at e ∙ rule_back r

abbrev NoneBelow : (Rule → Bool) → ℕ → Type 0
NoneBelow test n = (q : Rule) → rule_number q < n → test q ≡ false

more : (test : Rule → Bool) (x : Rule) → NoneBelow test (rule_number x) → test x ≡ false → NoneBelow test (suc (rule_number x))
more test x h e q lt = elim (cases_lt (rule_number q) (rule_number x)) [
  | inl below ↦ h q below
  | inr above ↦ ap test (one_number q x (omega arith)) ∙ e
]

-- numbered one after another
abbrev Numbered : ℕ → List Rule → Type 0
Numbered n [] = Unit {0}
Numbered n (x ∷ xs) = (rule_number x ≡ n) × Numbered (suc n) xs

finds_least : (test : Rule → Bool) (r : Rule) (xs : List Rule) (n : ℕ) → Numbered n xs → NoneBelow test n → find test xs ≡ Some r
    → (test r ≡ true) × NoneBelow test (rule_number r)
finds_least test r [] n m h e = absurd (none-some r e)
finds_least test r (x ∷ xs) n m h e = go (λ h' e'. finds_least test r xs (suc n) m.1 h' e') (test x) refl e
  where
    go : (NoneBelow test (suc n) → find test xs ≡ Some r → (test r ≡ true) × NoneBelow test (rule_number r)) → (b : Bool) → test x ≡ b
        → cond b (Some x) (find test xs) ≡ Some r → (test r ≡ true) × NoneBelow test (rule_number r)
    go next true eb e' =
        let P : Rule → Type 0 = λ y. (test y ≡ true) × NoneBelow test (rule_number y) in
        subst P (same_Some x r e') (eb, subst (NoneBelow test) (sym m.0) h)
    go next false eb e' = next (subst (λ k. NoneBelow test (suc k)) m.0 (more test x (subst (NoneBelow test) (sym m.0) h) eb)) e'

-- what is found first among the rules is the least
pub first_is_least : (test : Rule → Bool) (r : Rule) → find test rules ≡ Some r → IsLeastRule test r
first_is_least test r e =
    let p = finds_least test r rules 1 (refl, (refl, (refl, (refl, (refl, (refl, (refl, (refl, (refl, tt))))))))) (λ q lt. absurd (none_lower q lt)) e in
    record { broken = p.0; least = p.1 }
  where
    none_lower : (q : Rule) → rule_number q < 1 → ⊥
    none_lower M1 lt = omega arith
    none_lower M2 lt = omega arith
    none_lower M3 lt = omega arith
    none_lower M4 lt = omega arith
    none_lower M5 lt = omega arith
    none_lower M6 lt = omega arith
    none_lower M7 lt = omega arith
    none_lower M8 lt = omega arith
    none_lower M9 lt = omega arith

none_in : (test : Rule → Bool) (xs : List Rule) → ((r : Rule) → test r ≡ false) → find test xs ≡ None
none_in test [] h = refl
none_in test (x ∷ xs) h = ap (λ b. cond b (Some x) (find test xs)) (h x) ∙ none_in test xs h

-- where no rule is broken none is found
pub none_found : (test : Rule → Bool) → ((r : Rule) → test r ≡ false) → find test rules ≡ None
none_found test h = none_in test rules h

-- and a test of the one that is found says so
pub nothing_found : (o : Option Rule) → is_some o ≡ false → o ≡ None
nothing_found None e = refl
nothing_found (Some r) e = absurd (true≢false e)

kept_first : (test : Rule → Bool) (x : Rule) (xs : List Rule) → find test (x ∷ xs) ≡ None → (test x ≡ false) × (find test xs ≡ None)
kept_first test x xs e = go (test x) refl e
  where
    go : (b : Bool) → test x ≡ b → cond b (Some x) (find test xs) ≡ None → (test x ≡ false) × (find test xs ≡ None)
    go true eb h = absurd (none-some x (sym h))
    go false eb h = (eb, h)

-- where none is found no rule is broken
pub each_kept : (test : Rule → Bool) → find test rules ≡ None → (r : Rule) → test r ≡ false
each_kept test e r =
    let a = kept_first test M1 (M2 ∷ M3 ∷ M4 ∷ M5 ∷ M6 ∷ M7 ∷ M8 ∷ M9 ∷ []) e in
    let b = kept_first test M2 (M3 ∷ M4 ∷ M5 ∷ M6 ∷ M7 ∷ M8 ∷ M9 ∷ []) a.1 in
    let c = kept_first test M3 (M4 ∷ M5 ∷ M6 ∷ M7 ∷ M8 ∷ M9 ∷ []) b.1 in
    let d = kept_first test M4 (M5 ∷ M6 ∷ M7 ∷ M8 ∷ M9 ∷ []) c.1 in
    let f = kept_first test M5 (M6 ∷ M7 ∷ M8 ∷ M9 ∷ []) d.1 in
    let g = kept_first test M6 (M7 ∷ M8 ∷ M9 ∷ []) f.1 in
    let h = kept_first test M7 (M8 ∷ M9 ∷ []) g.1 in
    let i = kept_first test M8 (M9 ∷ []) h.1 in
    let j = kept_first test M9 [] i.1 in
    elim r as (λ q. test q ≡ false) [ M1 ↦ a.0 | M2 ↦ b.0 | M3 ↦ c.0 | M4 ↦ d.0 | M5 ↦ f.0 | M6 ↦ g.0 | M7 ↦ h.0 | M8 ↦ i.0 | M9 ↦ j.0 ]

-- ---- safe actions

opens : (a b : Bool) → (a && b) ≡ not (not a || not b)
opens true true = refl
opens true false = refl
opens false b = refl

divides : (a : Bool) → a ≡ not (not a || false)
divides true = refl
divides false = refl

pub safe_is : SafeActionsKeepTheirRules
safe_is (Loads w d base offset) f = let x = address f.state base offset in opens (is_aligned w x) (f.state.mapped x)
safe_is (Stores w r base offset) f = let x = address f.state base offset in opens (is_aligned w x) (f.state.mapped x)
safe_is (Divides sign x y) f = divides (has_quotient sign (read 0 f.state.regs x) (read 0 f.state.regs y))
safe_is _ f = refl

not_either : (a b c : Bool) → not (a || (b || c)) ≡ true → (a ≡ false) × (b ≡ false) × (c ≡ false)
not_either true b c e = absurd (true≢false (sym e))
not_either false true c e = absurd (true≢false (sym e))
not_either false false true e = absurd (true≢false (sym e))
not_either false false false e = (refl, refl, refl)

-- an action breaks no rule where it names nothing pending, needs not wait, and is safe
pub breaks_none : (a : Action) (f : Flow) → on_pending f.pending (touches a) ≡ false → (is_product a && nat_lt 0 f.hold) ≡ false
    → is_safe a f.state ≡ true → (r : Rule) → action_breaks r a f ≡ false
breaks_none a f free ready safe r = go r (not_either (action_breaks M4 a f) (action_breaks M5 a f) (action_breaks M6 a f) (sym (safe_is a f) ∙ safe))
  where
    go : (q : Rule) → (action_breaks M4 a f ≡ false) × (action_breaks M5 a f ≡ false) × (action_breaks M6 a f ≡ false) → action_breaks q a f ≡ false
    go M1 h = free
    go M2 h = ready
    go M3 h = refl
    go M4 h = h.0
    go M5 h = h.1
    go M6 h = h.2
    go M7 h = refl
    go M8 h = refl
    go M9 h = refl

pub not_stuck : (a : Action) (f : Flow) → on_pending f.pending (touches a) ≡ false → (is_product a && nat_lt 0 f.hold) ≡ false
    → is_safe a f.state ≡ true → is_stuck a f ≡ false
not_stuck a f free ready safe = ap is_some (none_found (λ r. action_breaks r a f) (breaks_none a f free ready safe))

pub broken_is_least : EachBrokenRuleIsLeast
broken_is_least a f r e = first_is_least (λ q. action_breaks q a f) r e

some_found : (a : Action) (f : Flow) (o : Option Rule) → action_rule_of a f ≡ o → is_some o ≡ true → (r : Rule) × (action_breaks r a f ≡ true)
some_found a f None e h = absurd (true≢false (sym h))
some_found a f (Some r) e h = (r, (broken_is_least a f r e).broken)

pub stuck_is : StuckActionsBreakARule
stuck_is = record {
  some = λ a f e. some_found a f (action_rule_of a f) refl e;
  none = λ a f e r. each_kept (λ q. action_breaks q a f) (nothing_found (action_rule_of a f) e) r;
}

-- ---- what an action names

or-false : (a : Bool) → a ≡ (a || false)
or-false true = refl
or-false false = refl

pub touches_is : ReadsAndWritesAreTouched
touches_is (Sets d w) r = or-false (d == r)
touches_is (MovesHigh d) r = or-false (d == r)
touches_is (MovesLow d) r = or-false (d == r)
touches_is _ r = refl
