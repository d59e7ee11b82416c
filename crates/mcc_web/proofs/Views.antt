-- What a view shows, of the parts that its export has.
use Rattle.std.proofs.Common.{◌≡◌, ◌≤◌, ◌+◌, ℕ, List, Some, sym, subst}
use Rattle.image.specs.Images.{ImageParts, IsImage, image_bytes}
use Rattle.mips_code.specs.Machines.{Machine, words_code}
use Rattle.mips_machine.specs.ImageRuns.{start_machine}
use Rattle.mcc_web.specs.Machines.{IsFar, Shows, ShowsMachine, ShowsMemory, WasNotAt, behind}
use Rattle.mcc_web.specs.declared.machines.View.{View}

-- so many words ran
record Ran (code : List ℕ) (start now : Machine) (from most stop words : ℕ) : Type 0 where
  ran : behind (words_code code) words start ≡ Some now
  within : words ≤ from + most
  far : IsFar (words_code code) from most stop words now
  passed : WasNotAt (words_code code) start from stop words

pub shows_of : (image : ImageParts) (code : List ℕ) (start now : Machine) (bytes : List ℕ) (from most stop address words : ℕ) (v : View) → IsImage image
    → image_bytes image ≡ bytes → start ≡ start_machine image → code ≡ image.code → v.words ≡ words → behind (words_code code) words start ≡ Some now
    → words ≤ from + most → IsFar (words_code code) from most stop words now → WasNotAt (words_code code) start from stop words → ShowsMachine now v
    → ShowsMemory now address v.mapped v.memory → Shows bytes from most stop address v
shows_of image code start now bytes from most stop address words v fits written begins same count ran within far passed shows memory =
    let all : Ran code start now from most stop words = record { ran = ran; within = within; far = far; passed = passed } in
    let counted = subst (λ (n : ℕ). Ran code start now from most stop n) (sym count) all in
    let begun = subst (λ (m : Machine). Ran code m now from most stop v.words) begins counted in
    let one = subst (λ (c : List ℕ). Ran c (start_machine image) now from most stop v.words) same begun in
    record {
      image = image;
      fits = fits;
      written = written;
      machine = now;
      runs = one.ran;
      within = one.within;
      far = one.far;
      passed = one.passed;
      shows = shows;
      memory = memory;
    }
