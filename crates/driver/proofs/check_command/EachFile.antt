-- Files that are checked one after another.
use Rattle.std.proofs.Common.{◌≡◌, ℕ, ◌+◌, ◌<◌, ◌≤◌, List, [], ◌∷◌, ◌++◌, All, Bool, Option, None, map, fold, ◌^◌, refl, ◌∙◌, ap, append-nil, length, take, get_or, Bor, arith}
use Rattle.std.specs.List.{FoldsTo, flat_map}
use Rattle.std.specs.Io.KnownBytes.{Appends, Keeps}
use Rattle.std.proofs.KnownBytes.{Appends-kept, Appends-nil, Appends-trans}
use Rattle.std.proofs.lemmas.List.{get_or-map, length-map, map-append, take_all, take_more}
use Rattle.std.proofs.lemmas.List.Concat.{flat_map-append}
use Rattle.std.proofs.lemmas.List.Elements.{All-nil, All-push, All-tail}
use Rattle.std.proofs.lemmas.List.Sums.{fold-append}
use Rattle.host.specs.Requests.{Asks, HostState, Relations, Request, TellsLine, WasRefused, host_of}
use Rattle.text.specs.Shown.{IsTold}
use Rattle.host.specs.Texts.{host_fault_text}
use Rattle.host.specs.declared.fault.HostFault.TheVariants.{CannotWrite}
use Rattle.host.proofs.Told.{folds_on, line_on, lines_on}
use Rattle.host.proofs.Shown.{host_fault}
use Rattle.driver.proofs.check_command.Counts.{kept_totals}
use Rattle.driver.proofs.check_command.FaultsShown.{of_files}
use Rattle.driver.specs.FileLine.{AreChecked, IsChecked, file_of, kept_more}
use Rattle.driver.specs.Several.{BreaksOff, CheckedFile, ChecksAll, IsRight, faults_of, first_told, line_text, lines_of, no_totals, status_of, totals_after, totals_by, totals_text, worse}
use Rattle.driver.specs.Several.BreaksOff.{breaks}
use Rattle.driver.specs.declared.several.Totals.{Totals}
use Rattle.driver.specs.declared.several.FileLine.{FileLine}

-- the first of the lines, the last of which was just told
first_line : {E : Type 0} (tells : E → List ℕ → E → Type 0) (p q r : E) (lines : List (List ℕ)) → All (All IsTold) lines
    → FoldsTo (TellsLine tells) p lines q → TellsLine tells q (host_fault_text CannotWrite) r → TellsLine tells p (first_told lines) r
first_line tells p q r [] shown a b = rw a b
first_line tells p q r (line ∷ lines) shown a b = line_on tells p a.0 r line a.1
    (lines_on tells a.0 q r lines (host_fault_text CannotWrite) (All-tail (All IsTold) line lines shown) (host_fault CannotWrite) a.2 b)

-- their status is the worst
worst_of : (t : Totals) (files : List CheckedFile) → (totals_by kept_more t files).status ≡ fold worse t.status (map status_of files)
worst_of t [] = refl
worst_of t (file ∷ files) = worst_of (totals_after kept_more t file.said) files

-- one more of the names, by its place
name_more : (xs : List (Bor (List ℕ))) (k : ℕ) (none : Bor (List ℕ)) → k < length xs
    → take (k + 1) (map (λ s. s.now) xs) ≡ take k (map (λ s. s.now) xs) ++ (get_or xs k none).now ∷ []
name_more xs k none inside =
    let ns = map (λ (s : Bor (List ℕ)). s.now) xs in
    take_more ns k [] (omega (arith, length-map xs (λ (s : Bor (List ℕ)). s.now)))
    ∙ ap (λ (n : List ℕ). take k ns ++ n ∷ []) (get_or-map (λ (s : Bor (List ℕ)). s.now) xs k none [] inside)

-- files, what standard output holds, and standard error
abbrev Seen : (F E : Type 0) → Type 0
Seen F E = HostState F (Option (List ℕ)) E

module _ {F W E : Type 0} {by : Relations F W E} {explain : Bool} where
  pub none_yet : {s : Seen F E} → AreChecked by s s explain [] no_totals
  none_yet {s} =
      record { files = []; right = All-nil (IsRight explain); named = refl; asked = refl; took = Appends-nil s.out; told = refl; counted = refl }

  -- one more of the files
  next : {a b c : Seen F E} {ns : List (List ℕ)} {t : Totals} (name : List ℕ) (line : FileLine) → AreChecked by a b explain ns t
      → ((r : Request) × by.answers b.files r c.files × IsChecked by.tells b.err c.err explain (file_of name r line))
      → Appends b.out c.out (line_text name line.said line.more)
      → AreChecked by a c explain (ns ++ name ∷ []) (totals_after kept_more t line.said)
  next {a} {b} {c} name line so_far (r, answered, one) took =
      let before = so_far.files in
      let file = file_of name r line in
      record {
        files = before ++ file ∷ [];
        right = All-push (IsRight explain) before file so_far.right one.0;
        named = rw (map-append, so_far.named);
        asked = rw map-append
            (folds_on by.answers a.files b.files c.files (map (λ (f : CheckedFile). f.request) before) (r ∷ []) so_far.asked (c.files, answered, refl));
        took = rw (flat_map-append, append-nil)
            (Appends-trans a.out b.out c.out (flat_map lines_of before) (lines_of file) so_far.took took);
        told = rw (flat_map-append, append-nil)
            (folds_on (TellsLine by.tells) a.err b.err c.err (flat_map faults_of before) (faults_of file) so_far.told one.1);
        counted = rw (fold-append, ← so_far.counted);
      }

  -- the same by the place of its name
  pub next_at : {a b : Seen F E} (c : Seen F E) (xs : List (Bor (List ℕ))) (k : ℕ) (none : Bor (List ℕ)) {t both : Totals} (line : FileLine)
      → k < length xs → both ≡ totals_after kept_more t line.said → AreChecked by a b explain (take k (map (λ s. s.now) xs)) t
      → ((r : Request) × by.answers b.files r c.files × IsChecked by.tells b.err c.err explain (file_of (get_or xs k none).now r line))
      → Appends b.out c.out (line_text (get_or xs k none).now line.said line.more)
      → AreChecked by a c explain (take (k + 1) (map (λ s. s.now) xs)) both
  next_at c xs k none line inside is so_far one took =
      rw (is, name_more xs k none inside) (next {c = c} (get_or xs k none).now line so_far one took)

  -- none is left
  pub whole : {a b : Seen F E} {t : Totals} (xs : List (Bor (List ℕ))) (k : ℕ) → length xs ≤ k
      → AreChecked by a b explain (take k (map (λ s. s.now) xs)) t → AreChecked by a b explain (map (λ s. s.now) xs) t
  whole xs k end so_far =
      let ns = map (λ (s : Bor (List ℕ)). s.now) xs in
      rw (take_all k ns (omega (arith, length-map xs (λ (s : Bor (List ℕ)). s.now)))) at so_far

  -- nothing is said of standard output
  pub unprinted : {a b : Seen F E} {ns : List (List ℕ)} {t : Totals} → AreChecked by a b explain ns t
      → AreChecked by (record a { out = None }) (record b { out = None }) explain ns t
  unprinted all = record {
    files = all.files;
    right = all.right;
    named = all.named;
    asked = all.asked;
    took = tt;
    told = all.told;
    counted = all.counted;
  }

  module _ {old new : HostState F W E} where
    -- all of them, and then the totals
    pub all_checked : {p : Option (List ℕ)} {d : E} {ns : List (List ℕ)} {t : Totals} (n : ℕ) → length ns ≡ n → n < 2 ^ 64
        → AreChecked by (host_of old.files (by.contents old.out) old.err) (host_of new.files p d) explain ns t
        → Keeps p (by.contents new.out) → by.tells d (totals_text n t ++ 10 ∷ []) new.err → ChecksAll by old new explain ns t.status
    all_checked {p} {d} n long few these kept told =
        let many = length-map these.files (λ (f : CheckedFile). f.name) in
        let counts = these.counted ∙ kept_totals these.files (omega (arith, ap (λ (xs : List (List ℕ)). length xs) these.named)) in
        record {
          files = these.files;
          right = these.right;
          named = these.named;
          asked = these.asked;
          took = Appends-kept (by.contents old.out) p (by.contents new.out) (flat_map lines_of these.files) these.took kept;
          told = (d, these.told, rw (long, ← counts) told);
          ends = ap (λ (u : Totals). u.status) these.counted ∙ worst_of no_totals these.files;
        }

    -- standard output was refused
    pub broken : {o p : Option (List ℕ)} {d : E} {ns : List (List ℕ)} {t : Totals} (rest : List (List ℕ)) {all : List (List ℕ)} → ns ++ rest ≡ all
        → AreChecked by (host_of old.files o old.err) (host_of new.files p d) explain ns t → WasRefused by.refuses new.out
        → TellsLine by.tells d (host_fault_text CannotWrite) new.err → Asks by old new (BreaksOff explain all)
    broken {d = d} rest same these refused told = record {
      requests = map (λ (f : CheckedFile). f.request) these.files;
      text = first_told (flat_map faults_of these.files);
      asked = these.asked;
      told = first_line by.tells old.err d new.err (flat_map faults_of these.files) (of_files explain these.files these.right) these.told told;
      means = breaks these.files rest these.right (rw these.named same) refused;
    }
