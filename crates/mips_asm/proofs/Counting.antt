-- Counting the words of functions, block by block.
use Rattle.std.proofs.Common.{◌≡◌, ◌≢◌, ℕ, zero, suc, ◌+◌, ◌<◌, ◌≤◌, Bool, true, false, cond, ◌==◌, inl, inr, List, [], ◌∷◌, ◌++◌, length}
use Rattle.std.proofs.Common.{take, drop, get_or, take-append-drop, length-take-le, refl, sym, ap, ap₂, ◌∙◌, subst, true≢false, arith}
use Rattle.std.proofs.lemmas.Bool.{ne_eqb, eq-eqb, eqb-true, cases_eq}
use Rattle.std.specs.Prelude.{slice_index}
use Rattle.std.proofs.lemmas.List.{get_or_default, take_more}
use Rattle.mblock.specs.Parts.{OrderParts}
use Rattle.mips_asm.specs.Layout.{size}
use Rattle.mips_asm.specs.Functions.{AreFunctions, words_owned}
use Rattle.mips_asm.proofs.Within.{owner_low}
use Rattle.mips_asm.specs.Limits.{FunctionsFit}
use Rattle.mips_asm.specs.declared.limits.TheConstants.{FUNCTION_WORDS}

module _ (owner : ℕ → ℕ) (f : ℕ) where
  owned_both : (a b : List OrderParts) (k : ℕ) → words_owned owner f k (a ++ b) ≡ words_owned owner f k a + words_owned owner f (k + length a) b
  owned_both [] b k = let e : k ≡ k + 0 = omega arith in ap (λ j. words_owned owner f j b) e ∙ omega arith
  owned_both (o ∷ a) b k =
      let below = owned_both a b (suc k) in
      let e : suc k + length a ≡ k + suc (length a) = omega arith in
      let same = ap (λ j. words_owned owner f j b) e in
      omega arith

  owned_none : (a : List OrderParts) (k : ℕ) → ((j : ℕ) → j < length a → owner (k + j) ≢ f) → words_owned owner f k a ≡ 0
  owned_none [] k h = refl
  owned_none (o ∷ a) k h =
      let here : (owner k == f) ≡ false = ne_eqb (owner k) f (λ e. h 0 (omega arith) (ap owner (omega arith) ∙ e)) in
      rw here (omega (arith, owned_none a (suc k) (λ j lt e. h (suc j) (omega arith) (ap owner (omega arith) ∙ e))))

  owned_one : (o : OrderParts) (k : ℕ) (b : Bool) → (owner k == f) ≡ b → words_owned owner f k (o ∷ []) ≡ cond b (size o) 0
  owned_one o k b e = rw e (omega arith)

-- what the loop keeps, after so many blocks and with a count
pub record Counts (owner : ℕ → ℕ) (done : List OrderParts) (words : ℕ) : Type 0 where
  pub each : (f : ℕ) → words_owned owner f 0 done ≤ FUNCTION_WORDS
  pub last : (j : ℕ) → suc j ≡ length done → words ≡ words_owned owner (owner j) 0 done
  pub small : words ≤ FUNCTION_WORDS

pub no_counts : (owner : ℕ → ℕ) → Counts owner [] 0
no_counts owner = record { each = λ f. omega arith; last = λ j e. absurd (omega arith); small = omega arith }

module _ (n : ℕ) (owner : ℕ → ℕ) (h : AreFunctions n owner) (done : List OrderParts) (o : OrderParts) (lt : length done < n) where
  -- the words so far of the function of block k
  so_far : (words start : ℕ) → Counts owner done words → (b : Bool) → (owner (length done) == length done) ≡ b → start ≡ cond b 0 words
      → words_owned owner (owner (length done)) 0 done ≡ start
  so_far words start c true eb es =
      let own = eqb-true (owner (length done)) (length done) eb in
      owned_none owner (owner (length done)) done 0
      (λ j lj e. let low = owner_low n owner h j (omega arith) in let x : owner (0 + j) ≡ owner j = ap owner (omega arith) in omega arith) ∙ sym es
  so_far words start c false eb es = go (length done) refl
    where
      go : (m : ℕ) → length done ≡ m → words_owned owner (owner (length done)) 0 done ≡ start
      go zero em = absurd (true≢false (sym (eq-eqb (owner (length done)) (length done) (ap owner em ∙ h.first ∙ sym em)) ∙ eb))
      go (suc j) em = elim (h.each j (omega arith)) [
        | inl e ↦ absurd (true≢false (sym (eq-eqb (owner (length done)) (length done) (ap owner em ∙ e ∙ sym em)) ∙ eb))
        | inr e ↦ ap (λ g. words_owned owner g 0 done) (ap owner em ∙ e) ∙ sym (c.last j (sym em)) ∙ sym es
      ]

  with_one : (words start : ℕ) → Counts owner done words → start ≡ cond (owner (length done) == length done) 0 words
      → words_owned owner (owner (length done)) 0 (done ++ o ∷ []) ≡ start + size o
  with_one words start c es =
      let s = so_far words start c (owner (length done) == length done) refl es in
      let one = owned_one owner (owner (length done)) o (0 + length done) true
      (eq-eqb (owner (0 + length done)) (owner (length done)) (ap owner (omega arith))) in
      owned_both owner (owner (length done)) done (o ∷ []) 0 ∙ ap₂ (λ x y. x + y) s one

  pub counts_on : (words start : ℕ) → Counts owner done words → start ≡ cond (owner (length done) == length done) 0 words
      → start + size o ≤ FUNCTION_WORDS → Counts owner (done ++ o ∷ []) (start + size o)
  counts_on words start c es le =
      let mine = with_one words start c es in
      record {
        each = λ f. elim (cases_eq f (owner (length done))) [
          | inl e ↦ subst (λ g. words_owned owner g 0 (done ++ o ∷ []) ≤ FUNCTION_WORDS) (sym e) (omega arith)
          | inr ne ↦
              let one = owned_one owner f o (0 + length done) false (ne_eqb (owner (0 + length done)) f (λ e. ne (sym e ∙ ap owner (omega arith)))) in
              let both = owned_both owner f done (o ∷ []) 0 in
              let old = c.each f in
              omega arith
        ];
        last = λ j e.
            let long = Rattle.std.proofs.lemmas.List.length-append done (o ∷ []) in
            let same : j ≡ length done = omega arith in
            sym (ap (λ i. words_owned owner (owner i) 0 (done ++ o ∷ [])) same ∙ mine);
        small = le;
      }

  pub too_many : (words start : ℕ) (rest : List OrderParts) → Counts owner done words
      → start ≡ cond (owner (length done) == length done) 0 words → FUNCTION_WORDS < start + size o → FunctionsFit owner ((done ++ o ∷ []) ++ rest) → ⊥
  too_many words start rest c es gt fit =
      let mine = with_one words start c es in
      let both = owned_both owner (owner (length done)) (done ++ o ∷ []) rest 0 in
      let all = fit (owner (length done)) in
      omega arith

-- the same at a place of a list
module _ (n : ℕ) (owner : ℕ → ℕ) (h : AreFunctions n owner) (os : List OrderParts) (o : OrderParts) (k : ℕ) (long : n ≡ length os)
    (lt : k < length os) (there : o ≡ get_or os k o) where
  done_long : length (take k os) ≡ k
  done_long = length-take-le k os (omega arith)

  next : take (k + 1) os ≡ take k os ++ o ∷ []
  next = take_more os k o lt ∙ ap (λ x. take k os ++ x ∷ []) (sym there)

  started : (words start : ℕ) → start ≡ cond (owner k == k) 0 words → start ≡ cond (owner (length (take k os)) == length (take k os)) 0 words
  started words start e = subst (λ j. start ≡ cond (owner j == j) 0 words) (sym done_long) e

  inside : length (take k os) < n
  inside = let l = done_long in omega arith

  pub step_counts : (words start : ℕ) → Counts owner (take k os) words → start ≡ cond (owner k == k) 0 words → start + size o ≤ FUNCTION_WORDS
      → Counts owner (take (k + 1) os) (start + size o)
  step_counts words start c es le =
      subst (λ d. Counts owner d (start + size o)) (sym next) (counts_on n owner h (take k os) o inside words start c (started words start es) le)

  pub step_too_many : (words start : ℕ) → Counts owner (take k os) words → start ≡ cond (owner k == k) 0 words → FUNCTION_WORDS < start + size o
      → FunctionsFit owner os → ⊥
  step_too_many words start c es gt fit =
      let whole : (take k os ++ o ∷ []) ++ drop (k + 1) os ≡ os = ap (λ d. d ++ drop (k + 1) os) (sym next) ∙ take-append-drop (k + 1) os in
      too_many n owner h (take k os) o inside words start (drop (k + 1) os) c (started words start es) gt (subst (FunctionsFit owner) (sym whole) fit)

-- the count at a block, of the owner that is read
pub read_start : (owners : List ℕ) (k read number words start : ℕ) → k < length owners → read ≡ get_or owners k read → number ≡ read
    → start ≡ cond (number == k) 0 words → start ≡ cond (slice_index owners k == k) 0 words
read_start owners k read number words start lt read_is number_is e =
    e ∙ ap (λ f. cond (f == k) 0 words) (number_is ∙ read_is ∙ get_or_default owners k read 0 lt)
