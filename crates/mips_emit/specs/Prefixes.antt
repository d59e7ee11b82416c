-- What calls leave: the code that they emit, or a beginning of it where memory is refused, after the code that was there.
use Rattle.std.specs.Prelude.{◌≡◌, ◌⊎◌, ◌-◌, List, [], ◌∷◌, ◌++◌, length, take, Result, Ok, Err}
use Rattle.mips_isa.specs.declared.inst.Plain.{Plain}
use Rattle.rtl.specs.declared.instruction.RInst.{RInst}
use Rattle.mips_emit.specs.declared.comparison.Asked.{Asked}
use Rattle.mips_emit.specs.Locations.{Facts, learned}
use Rattle.mips_emit.specs.Code.{Context}
use Rattle.mips_emit.specs.Comparisons.{one_code}

-- code is what it was, and after it as much as there is of the code that was to be emitted
abbrev pub EmitsPrefix : (was all now : List Plain) → Type 0
EmitsPrefix was all now = now ≡ was ++ take (length now - length was) all

-- a call emits some code at Ok; at an Err, which is refused memory, a beginning of it
abbrev pub Emits : {A E : Type 0} → Result A E → (was all now : List Plain) → Type 0
Emits (Ok x) was all now = now ≡ was ++ all
Emits (Err e) was all now = EmitsPrefix was all now

-- how far instructions are emitted: what is known, and the code
pub record Emission : Type 0 where
  pub facts : Facts
  pub code : List Plain

abbrev pub emission : Facts → List Plain → Emission
emission facts code = record { facts = facts; code = code }

-- memory is refused at one of these instructions. After the code of those before it is a beginning of its own, and what is known is what
-- was known before it
abbrev pub StopsAmong : Context → Asked → List RInst → (was now : Emission) → Type 0
StopsAmong c asked [] was now = ⊥
StopsAmong c asked (i ∷ is) was now =
    ((now.facts ≡ was.facts) × EmitsPrefix was.code (one_code c asked is was.facts i) now.code)
    ⊎ StopsAmong c asked is (emission (learned c.at i was.facts) (was.code ++ one_code c asked is was.facts i)) now
