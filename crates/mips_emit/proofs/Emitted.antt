-- Code that is being made.
use Rattle.std.proofs.Common.{◌≡◌, ℕ, suc, ◌+◌, ◌-◌, ◌<◌, inl, inr, List, [], ◌∷◌, ◌++◌, drop, get_or, length, None, refl, sym, ap, ap₂, ◌∙◌, subst, arith, length-drop}
use Rattle.std.proofs.lemmas.List.{append_assoc, append-nil, at_drop_more, drop_all}
use Rattle.mips_isa.specs.declared.inst.Plain.{Plain}
use Rattle.rtl.specs.declared.instruction.RInst.{RInst}
use Rattle.rtl.specs.declared.instruction.RInst.TheVariants.{Const}
use Rattle.mips_emit.specs.declared.facts.Last.{Last}
use Rattle.mips_emit.specs.declared.comparison.Asked.{Asked}
use Rattle.mips_emit.specs.Locations.{Locations, Facts, learned, known_after, fresh_of, operand}
use Rattle.mips_emit.specs.Code.{Context, carry, arguments_code}
use Rattle.mips_emit.specs.Comparisons.{comparison_of, asked_last, next_code, one_code, last_with, last_after, no_last, insts_code}
use Rattle.mips_emit.specs.Prefixes.{EmitsPrefix, StopsAmong, Emission, emission}

-- the code of some instructions stands before what comes behind them
pub insts_behind : (c : Context) (asked : Asked) (facts : Facts) (is : List RInst) (behind : List Plain)
    → insts_code c asked facts is [] ++ behind ≡ insts_code c asked facts is behind
insts_behind c asked facts [] behind = refl
insts_behind c asked facts (i ∷ is) behind =
    let code = next_code c facts (comparison_of c.at facts (asked_last asked is) i) i in
    cc (append_assoc code (insts_code c asked (learned c.at i facts) is []) behind, insts_behind c asked (learned c.at i facts) is behind)

-- no instruction before others is a comparison
plain_code : (c : Context) (asked : Asked) (facts : Facts) (i : RInst) (behind : List RInst) → 0 < length behind
    → next_code c facts None i ≡ one_code c asked behind facts i
plain_code c asked facts i [] some = absurd (omega arith)
plain_code c asked facts (Const d w) (x ∷ xs) some = refl
plain_code c asked facts _ (x ∷ xs) some = refl

-- what an exit can use is of the last of them alone
last_free : (at : Locations) (asked : Asked) (facts : Facts) (is : List RInst) (last other : Last) → 0 < length is
    → last_after at asked facts is last ≡ last_after at asked facts is other
last_free at asked facts [] last other some = absurd (omega arith)
last_free at asked facts (i ∷ is) last other some = refl

-- how far instructions are emitted: so many of them, and so many are left
abbrev pub AreEmitted : Context → Asked → List RInst → (was : Emission) → (i left : ℕ) → (now : Emission) → Type 0
AreEmitted c asked insts was i left now =
    (left + i ≡ length insts)
    × (now.code ++ insts_code c asked now.facts (drop i insts) [] ≡ was.code ++ insts_code c asked was.facts insts [])
    × (known_after c.at (drop i insts) now.facts ≡ known_after c.at insts was.facts)
    × (last_after c.at asked now.facts (drop i insts) no_last ≡ last_after c.at asked was.facts insts no_last)
    × ((final : Facts) (last : List Plain) → StopsAmong c asked (drop i insts) now (emission final last) → StopsAmong c asked insts was (emission final last))

-- one more instruction before others
pub insts_more : (c : Context) (asked : Asked) (insts : List RInst) (was now next : Emission) (i left : ℕ) (d : RInst) → i < length insts
    → (left - 1 ≡ 0 → ⊥) → next.code ≡ now.code ++ next_code c now.facts None (get_or insts i d) → next.facts ≡ learned c.at (get_or insts i d) now.facts
    → AreEmitted c asked insts was i left now → AreEmitted c asked insts was (i + 1) (left - 1) next
insts_more c asked insts was now next i left d within more emits learns before =
    let inst = get_or insts i d in
    let rest = drop (i + 1) insts in
    let some : 0 < length rest = omega (arith, length-drop (i + 1) insts, before.0, more) in
    let first = at_drop_more (λ is. is) insts i d within in
    let code_is = plain_code c asked now.facts inst rest some in
    let free = last_free c.at asked next.facts rest no_last
    (last_with (comparison_of c.at now.facts (asked_last asked rest) inst) (fresh_of c.at inst)) some in (
      omega (arith, before.0, within),
      cc (append_assoc now.code (next_code c now.facts None inst) (insts_code c asked next.facts rest []), before.1),
      cc (before.2),
      cc (before.3),
      λ final last s. before.4 final last (rw first (inr (subst (λ e. StopsAmong c asked rest e (emission final last))
          (ap₂ emission learns (emits ∙ ap (λ l. now.code ++ l) code_is)) s))),
    )

-- memory is refused at an instruction
stops_here : (c : Context) (asked : Asked) (insts : List RInst) (now : Emission) (i : ℕ) (d : RInst) (final : Facts) (code : List Plain) → i < length insts
    → final ≡ now.facts → EmitsPrefix now.code (one_code c asked (drop (i + 1) insts) now.facts (get_or insts i d)) code
    → StopsAmong c asked (drop i insts) now (emission final code)
stops_here c asked insts now i d final code within same some = rw (at_drop_more (λ is. is) insts i d within) (inl (same, some))

module _ (c : Context) (asked : Asked) (insts : List RInst) (was now : Emission) (i left : ℕ) (d : RInst) (final : Facts) (code : List Plain)
    (within : i < length insts) where
  -- at one before others
  pub stops_before : (left - 1 ≡ 0 → ⊥) → final ≡ now.facts → EmitsPrefix now.code (next_code c now.facts None (get_or insts i d)) code
      → AreEmitted c asked insts was i left now → StopsAmong c asked insts was (emission final code)
  stops_before more same some before =
      let rest = drop (i + 1) insts in
      let others : 0 < length rest = omega (arith, length-drop (i + 1) insts, before.0, more) in
      before.4 final code (stops_here c asked insts now i d final code within same
      (subst (λ l. EmitsPrefix now.code l code) (plain_code c asked now.facts (get_or insts i d) rest others) some))

  none_left : left - 1 ≡ 0 → AreEmitted c asked insts was i left now → drop (i + 1) insts ≡ []
  none_left last before = drop_all (i + 1) insts (omega (arith, before.0, last, within))

  -- at the last one
  pub stops_last : left - 1 ≡ 0 → final ≡ now.facts → EmitsPrefix now.code (one_code c asked [] now.facts (get_or insts i d)) code
      → AreEmitted c asked insts was i left now → StopsAmong c asked insts was (emission final code)
  stops_last last same some before =
      before.4 final code (stops_here c asked insts now i d final code within same
      (subst (λ is. EmitsPrefix now.code (one_code c asked is now.facts (get_or insts i d)) code) (sym (none_left last before)) some))

  last_alone : left - 1 ≡ 0 → AreEmitted c asked insts was i left now → drop i insts ≡ get_or insts i d ∷ []
  last_alone last before = at_drop_more (λ is. is) insts i d within ∙ ap (λ is. get_or insts i d ∷ is) (none_left last before)

  -- after the last one
  pub all_emitted : left - 1 ≡ 0 → code ≡ now.code ++ one_code c asked [] now.facts (get_or insts i d) → AreEmitted c asked insts was i left now
      → code ≡ was.code ++ insts_code c asked was.facts insts []
  all_emitted last is before =
      is ∙ ap (λ l. now.code ++ l) (sym (append-nil (one_code c asked [] now.facts (get_or insts i d))))
      ∙ ap (λ is. now.code ++ insts_code c asked now.facts is []) (sym (last_alone last before)) ∙ before.1

  pub all_known : left - 1 ≡ 0 → final ≡ learned c.at (get_or insts i d) now.facts → AreEmitted c asked insts was i left now
      → final ≡ known_after c.at insts was.facts
  all_known last is before = is ∙ ap (λ is. known_after c.at is now.facts) (sym (last_alone last before)) ∙ before.2

  pub last_known : (last_one : Last) → left - 1 ≡ 0
      → last_one ≡ last_with (comparison_of c.at now.facts asked (get_or insts i d)) (fresh_of c.at (get_or insts i d))
      → AreEmitted c asked insts was i left now → last_one ≡ last_after c.at asked was.facts insts no_last
  last_known last_one last is before =
      is ∙ ap (λ is. last_after c.at asked now.facts is no_last) (sym (last_alone last before)) ∙ before.3

-- one more argument
pub arguments_next : (at : Locations) (facts : Facts) (t t' i d : ℕ) (args : List ℕ) → i < length args → t' ≡ t
    → arguments_code at facts t (drop i args) ≡ carry t' (operand at facts (get_or args i d)) ++ arguments_code at facts (t + 1) (drop (i + 1) args)
arguments_next at facts t t' i d args within same =
    let next : t + 1 ≡ suc t = omega arith in
    at_drop_more (arguments_code at facts t) args i d within ∙ rw (same, next)
