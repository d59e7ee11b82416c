-- The mnemonic or the exit that a word names, looked up among all.
use Rattle.std.proofs.Common.{◌≡◌, ℕ, true, List, [], ◌∷◌, Option, Some, None, refl, sym, ap, ◌∙◌, bytes_eq, IfSome}
use Rattle.std.specs.List.{find}
use Rattle.std.proofs.lemmas.Bool.{cond_both}
use Rattle.std.proofs.lemmas.Option.{same_Some, none-some}
use Rattle.std.proofs.lemmas.Slice.Eq.{bytes_eq-Decides}
use Rattle.words.specs.declared.sign.Sign.TheVariants.{Signed}
use Rattle.words.specs.declared.width.Width.TheVariants.{Word}
use Rattle.mips_isa.specs.declared.inst.ShiftOp.TheVariants.{Sll}
use Rattle.mips_isa.specs.declared.inst.AluOp.TheVariants.{Addu}
use Rattle.mips_isa.specs.declared.inst.ImmOp.TheVariants.{Addiu}
use Rattle.mips_isa.specs.declared.inst.LogicOp.TheVariants.{Andi}
use Rattle.mips_isa.specs.declared.inst.HiLo.TheVariants.{Hi}
use Rattle.mips_isa.specs.declared.inst.PairTest.TheVariants.{Equal}
use Rattle.mips_isa.specs.declared.inst.ZeroTest.TheVariants.{AtMostZero}
use Rattle.mips_isa.specs.declared.text.Mnemonic.{Mnemonic}
use Rattle.mips_isa.specs.declared.text.Mnemonic.TheVariants as mnemonics
use Rattle.mips_isa.specs.Texts.{mnemonic_text}
use Rattle.block_text.specs.Lines.{lacks}
use Rattle.block_text.specs.Spelling.{exit_name_text}
use Rattle.block_text.specs.declared.names.ExitName.{ExitName}
use Rattle.block_text.specs.declared.names.ExitName.TheVariants as names
use Rattle.block_text.specs.declared.names.TheConstants.{MNEMONICS, EXIT_NAMES}

-- each is found by its text
each : (n : Mnemonic) → find (λ m. bytes_eq (mnemonic_text n) (mnemonic_text m)) MNEMONICS.now ≡ Some n
each (mnemonics.Shift Sll) = refl
each (mnemonics.ShiftBy Sll) = refl
each (mnemonics.Alu Addu) = refl
each (mnemonics.Imm Addiu) = refl
each (mnemonics.Logic Andi) = refl
each (mnemonics.MoveFrom Hi) = refl
each (mnemonics.Multiply Signed) = refl
each (mnemonics.Divide Signed) = refl
each (mnemonics.Load Word) = refl
each (mnemonics.Store Word) = refl
each _ = refl

pub found_by : (word : List ℕ) (n : Mnemonic) → word ≡ mnemonic_text n → find (λ m. bytes_eq word (mnemonic_text m)) MNEMONICS.now ≡ Some n
found_by word n e = ap (λ w. find (λ m. bytes_eq w (mnemonic_text m)) MNEMONICS.now) e ∙ each n

-- and each exit's name, which has no space
each_exit : (n : ExitName) → (find (λ m. bytes_eq (exit_name_text n) (exit_name_text m)) EXIT_NAMES.now ≡ Some n) × (lacks 32 (exit_name_text n) ≡ true)
each_exit (names.BranchPair Equal) = (refl, refl)
each_exit (names.BranchZero AtMostZero) = (refl, refl)
each_exit _ = (refl, refl)

pub name_lacks : (n : ExitName) → lacks 32 (exit_name_text n) ≡ true
name_lacks n = (each_exit n).1

pub exit_found_by : (word : List ℕ) (n : ExitName) → word ≡ exit_name_text n → find (λ m. bytes_eq word (exit_name_text m)) EXIT_NAMES.now ≡ Some n
exit_found_by word n e = ap (λ w. find (λ m. bytes_eq w (exit_name_text m)) EXIT_NAMES.now) e ∙ (each_exit n).0

is_found : {A : Type 0} (name : A → List ℕ) (word : List ℕ) (ns : List A) (m : A) → find (λ n. bytes_eq word (name n)) ns ≡ Some m → word ≡ name m
is_found name word [] m e = absurd (none-some m e)
is_found name word (n ∷ ns) m e = cond_both (bytes_eq word (name n)) (Some n) (find (λ n. bytes_eq word (name n)) ns) (λ o. o ≡ Some m → word ≡ name m)
    (λ t e. (bytes_eq-Decides word (name n)).0 t ∙ ap name (same_Some n m e)) (λ _ e. is_found name word ns m e) e

pub found : {A : Type 0} (name : A → List ℕ) (word : List ℕ) (ns : List A) (o : Option A) → o ≡ find (λ n. bytes_eq word (name n)) ns
    → IfSome o (λ n. word ≡ name n)
found name word ns None e = tt
found name word ns (Some n) e = is_found name word ns n (sym e)
