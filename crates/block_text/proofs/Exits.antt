-- Lines that spell an exit.
use Rattle.std.proofs.Common.{◌≡◌, ◌∙◌, ◌++◌, ◌∷◌, ℕ, List, Option, Some, None, codes, ◌==◌, get_or, refl, sym, ap, ap₂, false, true≢false, eq-eqb, IfSome}
use Rattle.mips_isa.specs.declared.inst.PairTest.TheVariants.{Equal, NotEqual}
use Rattle.mips_isa.specs.declared.inst.ZeroTest.TheVariants.{AtMostZero}
use Rattle.mblock.specs.declared.exit.Exit.{Exit}
use Rattle.mblock.specs.declared.exit.Exit.TheVariants.{Goto, BranchPair, BranchZero, Call, Return, Out, Halt}
use Rattle.block_text.specs.Spelling.{SpellsExit, HasTargets, exit_name_text, exit_text, name_of_exit, named_text, targets_text}
use Rattle.block_text.specs.declared.names.ExitName.{ExitName}
use Rattle.block_text.specs.declared.names.ExitName.TheVariants as names

pub spaced : (line r s : List ℕ) (e : Exit) → (line ≡ r → ⊥) → r ≡ codes "return" → (line ≡ s → ⊥) → s ≡ codes "halt" → SpellsExit line e
    → (n : ExitName) × (name_of_exit e ≡ Some n) × (line ≡ exit_name_text n ++ 32 ∷ targets_text e)
spaced line r s (Goto t) no_return is_r no_halt is_s h = (names.Goto, refl, h.1)
spaced line r s (BranchPair test rs rt t e) no_return is_r no_halt is_s h = (names.BranchPair test, refl, h.1)
spaced line r s (BranchZero test rs t e) no_return is_r no_halt is_s h = (names.BranchZero test, refl, h.1)
spaced line r s (Call n m) no_return is_r no_halt is_s h = (names.Call, refl, h.1)
spaced line r s Return no_return is_r no_halt is_s h = absurd (no_return (h.1 ∙ sym is_r))
spaced line r s (Out n) no_return is_r no_halt is_s h = (names.Out, refl, h.1)
spaced line r s Halt no_return is_r no_halt is_s h = absurd (no_halt (h.1 ∙ sym is_s))

-- exits that name blocks begin with another letter than `return` and `halt`
apart : (a b : List ℕ) → (get_or a 0 0 == get_or b 0 0) ≡ false → a ≡ b → ⊥
apart a b f e = true≢false (sym (eq-eqb _ _ (ap (λ l. get_or l 0 0) e)) ∙ f)

-- what begins with none of their letters spells an exit that names none
alone : (word : List ℕ) (P : Exit → Type 0) → (get_or word 0 0 == 103) ≡ false → (get_or word 0 0 == 98) ≡ false → (get_or word 0 0 == 99) ≡ false
    → (get_or word 0 0 == 111) ≡ false → (word ≡ exit_text Return → P Return) → (word ≡ exit_text Halt → P Halt) → (e : Exit) → word ≡ exit_text e → P e
alone word P g b c o returns halts (Goto t) h = absurd (apart word (exit_text (Goto t)) g h)
alone word P g b c o returns halts (BranchPair Equal rs rt t e) h = absurd (apart word (exit_text (BranchPair Equal rs rt t e)) b h)
alone word P g b c o returns halts (BranchPair NotEqual rs rt t e) h = absurd (apart word (exit_text (BranchPair NotEqual rs rt t e)) b h)
alone word P g b c o returns halts (BranchZero AtMostZero rs t e) h = absurd (apart word (exit_text (BranchZero AtMostZero rs t e)) b h)
alone word P g b c o returns halts (BranchZero test rs t e) h = absurd (apart word (exit_text (BranchZero test rs t e)) b h)
alone word P g b c o returns halts (Call f n) h = absurd (apart word (exit_text (Call f n)) c h)
alone word P g b c o returns halts Return h = returns h
alone word P g b c o returns halts (Out n) h = absurd (apart word (exit_text (Out n)) o h)
alone word P g b c o returns halts Halt h = halts h

pub return_alone : (e : Exit) → codes "return" ≡ exit_text e → e ≡ Return
return_alone = alone (codes "return") (λ e. e ≡ Return) refl refl refl refl (λ h. refl) (λ h. absurd (apart (codes "return") (exit_text Halt) refl h))

pub halt_alone : (e : Exit) → codes "halt" ≡ exit_text e → e ≡ Halt
halt_alone = alone (codes "halt") (λ e. e ≡ Halt) refl refl refl refl (λ h. absurd (apart (codes "halt") (exit_text Return) refl h)) (λ h. refl)

-- the exit of a name and what follows it
pub named_spelled : (line before after : List ℕ) (n : ExitName) (o : Option Exit) → line ≡ before ++ 32 ∷ after → before ≡ exit_name_text n
    → IfSome o (HasTargets n after) → IfSome o (SpellsExit line)
named_spelled line before after n None f g h = tt
named_spelled line before after n (Some e) f g h =
    (h.0, f ∙ ap₂ (λ b a. b ++ 32 ∷ a) g h.2 ∙ ap (λ m. named_text m (targets_text e)) (sym h.1))

pub named_has : (name n : ExitName) (e : Exit) (line after : List ℕ) → Some name ≡ Some n → SpellsExit line e → name_of_exit e ≡ Some n
    → after ≡ targets_text e → HasTargets name after e
named_has name n e line after same h named rest = (h.0, named ∙ sym same, rest)
