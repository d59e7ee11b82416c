-- The line of a fault of a check text steers no terminal.
use Rattle.std.proofs.Common.{◌==◌, ◌≤◌, ◌+◌, ℕ, List, [], ◌∷◌, Bool, true, false, All, if◌then◌else◌, codes, decimal, length, refl, arith, inl, inr}
use Rattle.std.specs.List.{onto_first}
use Rattle.std.proofs.lemmas.List.Elements.{All-append}
use Rattle.block_text.specs.Lines.{lines_of}
use Rattle.block_text.specs.Whole.{FailsAt}
use Rattle.driver.specs.Checks.{IsCheckFault}
use Rattle.driver.specs.CheckTexts.{check_fault_text}
use Rattle.driver.specs.declared.verdicts.CheckFault.{CheckFault}
use Rattle.driver.specs.declared.verdicts.CheckFault.TheVariants as faults
use Rattle.text.specs.Shown.{IsTold}
use Rattle.host.proofs.Shown.{decimals, literal}

one_line : (x : ℕ) (ls : List (List ℕ)) (n : ℕ) → length ls ≤ n → length (onto_first x ls) ≤ n + 1
one_line x [] n few = omega arith
one_line x (l ∷ ls) n few = omega (arith, few)

next_lines : (b : Bool) (x : ℕ) (ls : List (List ℕ)) (n : ℕ) → length ls ≤ n → length (if b then [] ∷ ls else onto_first x ls) ≤ n + 1
next_lines true x ls n few = omega (arith, few)
next_lines false x ls n few = one_line x ls n few

-- a text has as many lines as bytes at most
few_lines : (text : List ℕ) → length (lines_of text) ≤ length text
few_lines [] = omega arith
few_lines (x ∷ xs) = let few = next_lines (x == 10) x (lines_of xs) (length xs) (few_lines xs) in omega (arith, few)

inside : (ls : List (List ℕ)) (k : ℕ) → FailsAt ls k → k ≤ length ls
inside ls k (begins, inl early) = omega (arith, early.0)
inside ls k (begins, inr end) = omega (arith, end.0)

pub check_fault : (text : List ℕ) (fault : CheckFault) → IsCheckFault text fault → All IsTold (check_fault_text fault)
check_fault text faults.Size is = literal (codes "fault 5 Size") refl
check_fault text (faults.Line n) is =
    let few = few_lines text in
    let low = inside (lines_of text) is.1.0 is.1.2 in
    All-append IsTold (codes "fault 70 Line ") (decimal n) (literal (codes "fault 70 Line ") refl)
    (decimals n (omega (arith, few, low, is.0, is.1.1)))
check_fault text faults.NoMemory is = literal (codes "fault 30 NoMemory") refl
