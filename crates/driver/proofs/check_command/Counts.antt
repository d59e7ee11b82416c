-- Of fewer than 2^64 files, what is kept of each count is the count.
use Rattle.std.proofs.Common.{◌≡◌, ℕ, suc, ◌+◌, ◌<◌, ◌^◌, List, [], ◌∷◌, refl, length, arith}
use Rattle.std.proofs.Math.Nat.{min-eq_left}
use Rattle.driver.specs.declared.several.Said.{Said}
use Rattle.driver.specs.declared.several.Said.TheVariants as says
use Rattle.driver.specs.declared.verdicts.CheckAnswer.TheVariants as answers
use Rattle.driver.specs.FileLine.{kept_more}
use Rattle.driver.specs.Several.{CheckedFile, count_said, no_totals, totals_after, totals_by, totals_of}
use Rattle.driver.specs.declared.several.Totals.{Totals}

abbrev exact : ℕ → ℕ
exact n = n + 1

-- there is room for so many more
abbrev HasRoom : Totals → ℕ → Type 0
HasRoom t n = t.same + (t.unclean + (t.differs + (t.full + (t.faulty + n)))) < 2 ^ 64

kept_is : (k : ℕ) → k + 1 < 2 ^ 64 → kept_more k ≡ k + 1
kept_is k room = min-eq_left (omega (arith, room))

after_one : (t : Totals) (n : ℕ) (said : Said) → HasRoom t (suc n)
    → (count_said kept_more said t ≡ count_said exact said t) × HasRoom (count_said exact said t) n
after_one t n (says.Answer answers.Same) room = (rw (kept_is t.same (omega arith)), omega arith)
after_one t n (says.Answer (answers.Unclean rule)) room = (rw (kept_is t.unclean (omega arith)), omega arith)
after_one t n (says.Answer (answers.Differs place)) room = (rw (kept_is t.differs (omega arith)), omega arith)
after_one t n (says.Answer answers.Full) room = (rw (kept_is t.full (omega arith)), omega arith)
after_one t n _ room = (rw (kept_is t.faulty (omega arith)), omega arith)

kept_by : (t : Totals) (files : List CheckedFile) → HasRoom t (length files) → totals_by kept_more t files ≡ totals_by exact t files
kept_by t [] room = refl
kept_by t (file ∷ files) room =
    let one = after_one t (length files) file.said room in
    rw one.0 (kept_by (totals_after exact t file.said) files one.1)

pub kept_totals : (files : List CheckedFile) → length files < 2 ^ 64 → totals_by kept_more no_totals files ≡ totals_of files
kept_totals files few = kept_by no_totals files (omega (arith, few))
