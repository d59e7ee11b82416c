-- A run whose portions are printed one after another.
use Rattle.std.proofs.Common.{◌≡◌, ℕ, ◌+◌, ◌-◌, ◌<◌, ◌≤◌, ◌≢◌, ◌++◌, List, [], Option, Some, None, refl, sym, ap, ◌∙◌, arith, inl, inr, ◌⊎◌, append_assoc}
use Rattle.std.proofs.lemmas.Grind.{flat_map-append}
use Rattle.std.proofs.KnownBytes.{Appends-nil, Appends-trans}
use Rattle.std.specs.Prelude.{IfSome, true}
use Rattle.std.specs.Io.KnownBytes.{Appends}
use Rattle.runs.specs.Runs.{RunOutcome}
use Rattle.runs.specs.Portions.{IsCount, WentOn, after_output, behind}
use Rattle.runs.specs.declared.ran.Advance.{Advance}
use Rattle.host.specs.declared.numbers.WordForm.{WordForm}
use Rattle.host.specs.OneFile.{BreaksBy, FileMeaning, IsRefused, TookPrint}
use Rattle.host.specs.declared.fault.HostFault.{HostFault}
use Rattle.host.specs.declared.one_file.Broken.{Broken}
use Rattle.host.specs.declared.one_file.Broken.TheVariants.{Faulty, Unprinted, Midway}
use Rattle.driver.specs.RunCommand.{AreFirstLines, CutsOff, IsLast, words_in}

-- the lines of the first words, of the others, and a last line
lines_on : (form : WordForm) (output printed line : List ℕ) (f : AreFirstLines form output printed)
    → printed ++ (words_in form f.rest ++ line) ≡ words_in form output ++ line
lines_on form output printed line f = rw (f.lines, f.all, flat_map-append, append_assoc)

-- a command over one file whose run was cut off
pub cut_off : {A B : Type 0} (m : FileMeaning A B) (bytes : List ℕ) (a : A) (form : WordForm) (output line : List ℕ) (old new : Option (List ℕ))
    (silent refused : Type 0) (e : Broken B) → m.Answers bytes a → m.streams ≡ true
    → ((printed : List ℕ) → printed ≡ words_in form output ++ line → m.Prints a printed)
    → ((fault : HostFault) → IsRefused fault → m.Unprinted fault) → CutsOff form output old new refused e → BreaksBy m bytes old new silent refused e
cut_off m bytes a form output line old new silent refused (Faulty fault) answered streams prints unprinted cut = absurd cut
cut_off m bytes a form output line old new silent refused (Unprinted fault) answered streams prints unprinted cut =
    ((a, answered), unprinted fault cut.0, rw cut.0 cut.1)
cut_off m bytes a form output line old new silent refused Midway answered streams prints unprinted cut = (
  streams,
  (
    cut.0,
    cut.1,
    record {
      answer = a;
      answered = answered;
      rest = words_in form cut.2.rest ++ line;
      prints = prints _ (lines_on form output cut.0 line cut.2);
    },
  ),
)

below_or : (k m r : ℕ) → k < m + r → (k < m) ⊎ ((m ≤ k) × (k - m < r))
below_or k m r lt = grind arith

-- some portions are printed, and so many words or steps are left
pub record Begun {S E : Type 0} (comes_to : S → ℕ → RunOutcome E) (more : E) (form : WordForm) (most : ℕ) (old : S) (start : Option (List ℕ))
    (left : ℕ) (now : S) (out : Option (List ℕ)) : Type 0 where
  pub first : List ℕ
  pub took : Appends start out (words_in form first)
  pub within : left ≤ most
  pub before : (k : ℕ) → k < most - left → (comes_to old k).end ≡ more
  pub rest : (n : ℕ) → comes_to old (most - left + n) ≡ after_output first (comes_to now n)

module _ {S E : Type 0} {comes_to : S → ℕ → RunOutcome E} {more : E} {form : WordForm} {most : ℕ} {old : S} {start : Option (List ℕ)} where
  pub begun : Begun comes_to more form most old start most old start
  begun = record {
    first = [];
    took = Appends-nil start;
    within = omega arith;
    before = λ k lt. absurd (omega arith);
    rest = λ n. let none : most - most + n ≡ n = omega arith in ap (comes_to old) none;
  }

  module _ {left : ℕ} {now : S} {out : Option (List ℕ)} (b : Begun comes_to more form most old start left now out) where
    -- what is printed begins the output
    pub cut : TookPrint start out (AreFirstLines form (comes_to old most).output)
    cut =
        let all : most ≡ most - left + left = let h = b.within in omega arith in (
          words_in form b.first,
          b.took,
          record {
            first = b.first;
            rest = (comes_to now left).output;
            all = ap (λ n. (comes_to old n).output) all ∙ ap (λ (o : RunOutcome E). o.output) (b.rest left);
            lines = refl;
          },
        )

    module _ {asked : ℕ} {next : S} {advance : Advance E} (le : asked ≤ left) (went : WentOn comes_to more asked now next advance) where
      abbrev left_behind : ℕ
      left_behind = left - advance.ran

      abbrev written : List ℕ
      written = (comes_to next 0).output

      ran_before : (k : ℕ) → k < most - left_behind → (comes_to old k).end ≡ more
      ran_before k lt =
          let h = b.within in
          let w = went.within in
          elim (below_or k (most - left) advance.ran (omega arith)) [
            | inl less ↦ b.before k less
            | inr (ge, less) ↦
                let is : k ≡ most - left + (k - (most - left)) = omega arith in
                ap (λ i. (comes_to old i).end) is ∙ ap (λ (o : RunOutcome E). o.end) (b.rest (k - (most - left)))
                ∙ went.before (k - (most - left)) less
          ]

      ran_behind : (n : ℕ) → comes_to old (most - left_behind + n) ≡ after_output b.first (behind comes_to advance.end next n)
      ran_behind n =
          let h = b.within in
          let w = went.within in
          let is : most - left_behind + n ≡ most - left + (advance.ran + n) = omega arith in
          ap (comes_to old) is ∙ b.rest (advance.ran + n) ∙ ap (after_output b.first) (went.behind n)

      -- a portion behind which the run would go on
      pub portion : {clear : S} (out' : Option (List ℕ)) → advance.end ≡ None
          → ((n : ℕ) → comes_to next n ≡ after_output written (comes_to clear n)) → Appends out out' (words_in form written)
          → Begun comes_to more form most old start left_behind clear out'
      portion {clear} out' goes cleared took = record {
        first = b.first ++ written;
        took = rw flat_map-append (Appends-trans start out out' (words_in form b.first) (words_in form written) b.took took);
        within = let h = b.within in omega arith;
        before = ran_before;
        rest = λ n. ran_behind n ∙ rw (goes, cleared n, append_assoc);
      }

      -- the last one
      module _ {last : E} (at : IsLast comes_to next advance.end left_behind last) where
        outcome_at : (n : ℕ) → (n ≡ 0) ⊎ (n ≡ left_behind)
            → comes_to old (most - left_behind + n) ≡ record { end = last; output = b.first ++ written }
        outcome_at n h = ran_behind n ∙ ap (after_output b.first) (at n h)

        whole : comes_to old most ≡ record { end = last; output = b.first ++ written }
        whole =
            let is : most ≡ most - left_behind + left_behind = let h = b.within in omega arith in
            ap (comes_to old) is ∙ outcome_at left_behind (inr refl)

        pub last_end : last ≡ (comes_to old most).end
        last_end = sym (ap (λ (o : RunOutcome E). o.end) whole)

        -- where the run would go on, nothing is left
        all_ran : (end : Option E) → IfSome end (λ e. e ≢ more) → end ≡ advance.end → (end ≡ None → left_behind ≡ 0) → last ≡ more
            → left_behind ≡ 0
        all_ran None other is none goes = none refl
        all_ran (Some e) other is none goes = absurd (other (ap (λ (o : RunOutcome E). o.end) (rw (sym is) at at 0 (inl refl)) ∙ goes))

        pub counted : (advance.end ≡ None → left_behind ≡ 0) → IsCount (comes_to old) more most (most - left_behind)
        counted all =
            let none : most - left_behind ≡ most - left_behind + 0 = omega arith in
            record {
              within = omega arith;
              same = ap (comes_to old) none ∙ outcome_at 0 (inl refl) ∙ sym whole;
              before = ran_before;
              all = λ goes.
                  let left = all_ran advance.end went.ended refl all (last_end ∙ goes) in
                  omega (arith, left);
            }

        pub all_printed : (out' : Option (List ℕ)) → Appends out out' (words_in form written)
            → Appends start out' (words_in form (comes_to old most).output)
        all_printed out' took =
            rw (whole, flat_map-append) (Appends-trans start out out' (words_in form b.first) (words_in form written) b.took took)
