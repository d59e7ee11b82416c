-- Sound code of sound parts.
use Rattle.std.proofs.Common.{◌≡◌, ◌<◌, ℕ, zero, suc, Bool, true, false, List, [], ◌∷◌, ◌++◌, sym, subst}
use Rattle.std.specs.Prelude.{if◌then◌else◌, slice_set}
use Rattle.std.proofs.lemmas.List.Elements.{All-nil, All-cons}
use Rattle.rtl.specs.Meaning.{Code, code_of}
use Rattle.rtl.specs.declared.instruction.RInst.{RInst}
use Rattle.rtl.specs.declared.instruction.RInst.TheVariants.{Bin}
use Rattle.rtl.specs.declared.instruction.RExit.{RExit}
use Rattle.rtl.specs.declared.block.RBlock.{RBlock}
use Rattle.rtl_emit.specs.Blocks.{exit_code, first, Spot, Block, Line, line_of}
use Rattle.rtl_emit.specs.Operations.{inst_of}
use Rattle.rtl_emit.specs.Sound.{Scope, IsSoundInst, IsSoundExit, IsSound, IsSoundSpot, AreSound}
use Rattle.rtl_emit.specs.declared.operation.Operation.{Operation}

-- code

pub sound_along : {s : Scope} {c c' : Code} → c ≡ c' → IsSound s c' → IsSound s c
sound_along {s} e h = subst (λ c. IsSound s c) (sym e) h

pub sound_first : {s : Scope} {c c' : Code} (i : RInst) → c ≡ first i c' → IsSoundInst s i → IsSound s c' → IsSound s c
sound_first {s} {c} {c'} i e hi h =
    sound_along e (record { insts = All-cons (IsSoundInst s) i c'.insts hi h.insts; exit = h.exit })

pub sound_exit : {s : Scope} {c : Code} (x : RExit) → c ≡ exit_code x → IsSoundExit s x → IsSound s c
sound_exit {s} x e h = sound_along e (record { insts = All-nil (IsSoundInst s); exit = h })

pub sound_line : {s : Scope} (at : Spot) → IsSoundSpot s at → IsSound s (line_of at)
sound_line {s} (Block b) h = record { insts = All-nil (IsSoundInst s); exit = h }
sound_line {s} (Line c) h = h

pub sound_operation : (s : Scope) (inst : RInst) (op : Operation) (d p q : ℕ) → inst ≡ inst_of op d p q → d < s.registers → p < s.registers
    → q < s.registers → IsSoundInst s inst
sound_operation s inst op d p q e hd hp hq = subst (λ i. IsSoundInst s i) (sym e) (by op.turned)
  where
    by : (b : Bool) → IsSoundInst s (if b then Bin op.op d q p else Bin op.op d p q)
    by true = (hd, (hq, hp))
    by false = (hd, (hp, hq))

-- blocks

pub sound_push : (s : Scope) (old new : List RBlock) (b : RBlock) (c : Code) → new ≡ old ++ b ∷ [] → code_of b ≡ c → AreSound s old → IsSound s c
    → AreSound s new
sound_push s old new b c e is g h = subst (λ l. AreSound s l) (sym e) (pushed old g)
  where
    pushed : (l : List RBlock) → AreSound s l → AreSound s (l ++ b ∷ [])
    pushed [] g = (sound_along is h, tt)
    pushed (x ∷ l) g = (g.0, pushed l g.1)

pub sound_set : (s : Scope) (old : List RBlock) (n : ℕ) (b : RBlock) (c : Code) → code_of b ≡ c → AreSound s old → IsSound s c
    → AreSound s (slice_set old n b)
sound_set s [] n b c is g h = g
sound_set s (x ∷ l) zero b c is g h = (sound_along is h, g.1)
sound_set s (x ∷ l) (suc n) b c is g h = (g.0, sound_set s l n b c is g.1 h)
