-- What is said of several files, one after another, as private functions see it.
use Rattle.std.specs.Prelude.{◌≡◌, ◌+◌, ◌-◌, ◌^◌, ℕ, min, List, All, Bool, Option, map}
use Rattle.std.specs.List.{FoldsTo, flat_map}
use Rattle.std.specs.Io.KnownBytes.{Appends}
use Rattle.host.specs.Requests.{HostState, Relations, Request, TellsLine}
use Rattle.driver.specs.Several.{CheckedFile, IsRight, faults_of, lines_of, no_totals, totals_by}
use Rattle.driver.specs.declared.several.Totals.{Totals}
use Rattle.driver.specs.declared.several.FileLine.{FileLine}

-- a count as it is kept, in 64 bits: one more, or the greatest
abbrev pub kept_more : ℕ → ℕ
kept_more n = min (n + 1) (2 ^ 64 - 1)

-- a file with its line
abbrev pub file_of : (name : List ℕ) → Request → FileLine → CheckedFile
file_of name request line = record { name = name; request = request; said = line.said; more = line.more }

-- a file was looked at, and its faults were told
abbrev pub IsChecked : {E : Type 0} → (E → List ℕ → E → Type 0) → E → E → (explain : Bool) → CheckedFile → Type 0
IsChecked tells err_old err_new explain file = IsRight explain file × FoldsTo (TellsLine tells) err_old (faults_of file) err_new

-- the files of these names were checked, one after another, and have these totals. Of standard output it is what it holds
pub record AreChecked {F W E : Type 0} (by : Relations F W E) (old new : HostState F (Option (List ℕ)) E) (explain : Bool)
    (names : List (List ℕ)) (totals : Totals) : Type 0 where
  pub files : List CheckedFile
  pub right : All (IsRight explain) files
  pub named : map (λ file. file.name) files ≡ names
  pub asked : FoldsTo by.answers old.files (map (λ file. file.request) files) new.files
  pub took : Appends old.out new.out (flat_map lines_of files)
  pub told : FoldsTo (TellsLine by.tells) old.err (flat_map faults_of files) new.err
  pub counted : totals ≡ totals_by kept_more no_totals files
