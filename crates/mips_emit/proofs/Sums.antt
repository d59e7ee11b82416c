-- Operators that leave no sum in a register.
use Rattle.std.proofs.Common.{◌≡◌, true, Option, Some, None, refl, sym, true≢false, ℕ}
use Rattle.std.specs.Option.{is_none}
use Rattle.rtl.specs.declared.operator.Op.{Op}
use Rattle.rtl.specs.declared.operator.Op.TheVariants.{Add, Sub}
use Rattle.mips_homes.specs.declared.homed.Home.{Home}
use Rattle.mips_homes.specs.declared.homed.Home.TheVariants.{Reg}
use Rattle.mips_emit.specs.declared.location.Source.{Source}
use Rattle.mips_emit.specs.declared.location.Source.TheVariants.{InRegister}
use Rattle.mips_emit.specs.Offsets.{addend, sum_offset}

-- an operator adds a word or none, whatever the word is
pub no_sum : (place : Option Home) (op : Op) (right : Option ℕ) (x : Source) → is_none (addend op 0) ≡ true → sum_offset place op right x ≡ None
no_sum (Some (Reg t)) Add (Some c) (InRegister r) none = absurd (true≢false (sym none))
no_sum (Some (Reg t)) Sub (Some c) (InRegister r) none = absurd (true≢false (sym none))
no_sum (Some (Reg t)) _ (Some c) (InRegister r) none = refl
no_sum _ _ _ _ none = refl

-- nor is one left where the right operand is no known word
pub no_sum_of_unknown : (place : Option Home) (op : Op) (x : Source) → sum_offset place op None x ≡ None
no_sum_of_unknown (Some (Reg t)) op x = refl
no_sum_of_unknown _ op x = refl
