-- The lines of faults of several files steer no terminal.
use Rattle.std.proofs.Common.{ℕ, List, [], ◌∷◌, Bool, All}
use Rattle.std.specs.List.{flat_map}
use Rattle.std.proofs.lemmas.List.Elements.{All-append, All-cons, All-head, All-nil, All-tail}
use Rattle.host.specs.Requests.{Request}
use Rattle.text.specs.Shown.{IsTold}
use Rattle.host.specs.Texts.{host_fault_text}
use Rattle.host.proofs.Shown.{host_fault}
use Rattle.driver.specs.CheckTexts.{check_fault_text}
use Rattle.driver.specs.declared.several.Said.{Said}
use Rattle.driver.specs.declared.several.Said.TheVariants as says
use Rattle.driver.proofs.check_command.Shown.{check_fault}
use Rattle.driver.specs.Several.{CheckedFile, IsRight, IsSaid, faults_of, told_of}

one : (line : List ℕ) → All IsTold line → All (All IsTold) (line ∷ [])
one line shown = All-cons (All IsTold) line [] shown (All-nil (All IsTold))

of_said : (explain : Bool) (name : List ℕ) (request : Request) (more : List ℕ) (said : Said) → IsSaid explain name request more said
    → All (All IsTold) (told_of said)
of_said explain name request more (says.Answer answer) right = All-nil (All IsTold)
of_said explain name request more (says.Text fault) right = one (check_fault_text fault) (check_fault right.0 fault right.2)
of_said explain name request more (says.Host fault) right = one (host_fault_text fault) (host_fault fault)

pub of_files : (explain : Bool) (files : List CheckedFile) → All (IsRight explain) files → All (All IsTold) (flat_map faults_of files)
of_files explain [] right = All-nil (All IsTold)
of_files explain (file ∷ files) right =
    All-append (All IsTold) (faults_of file) (flat_map faults_of files)
    (of_said explain file.name file.request file.more file.said (All-head (IsRight explain) file files right))
    (of_files explain files (All-tail (IsRight explain) file files right))
