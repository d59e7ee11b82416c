-- The contrary of a test of C by an operator of RTL.
use Rattle.std.proofs.Common.{◌≡◌, Bool, true, false, Some, refl}
use Rattle.std.specs.Prelude.{not, ◌==◌, if◌then◌else◌}
use Rattle.c_tree.specs.declared.tree.BinaryOp.{BinaryOp}
use Rattle.c_tree.specs.declared.tree.BinaryOp.TheVariants as B
use Rattle.words.specs.declared.sign.Sign.{Sign}
use Rattle.words.specs.declared.sign.Sign.TheVariants.{Signed, Unsigned}
use Rattle.words.specs.C.{is_below}
use Rattle.c_typed.specs.Values.{truth}
use Rattle.rtl.specs.declared.operator.Op.{Op}
use Rattle.rtl.specs.declared.operator.Op.TheVariants as O
use Rattle.rtl_emit.specs.Operations.{by_sign, ComputesContrary}
use Rattle.rtl_emit.specs.declared.operation.Operation.{Operation}

abbrev pub straight_op : Op → Operation
straight_op op = record { op = op; turned = false }

abbrev pub turned_op : Op → Operation
turned_op op = record { op = op; turned = true }

-- the contrary of a test

pub contrary-along : {o o' : BinaryOp} {s : Sign} {op op' : Operation} → o ≡ o' → op ≡ op' → ComputesContrary o' s op' → ComputesContrary o s op
contrary-along io ip c = rw (io, ip) c

not_not : (b : Bool) → Some (if b then 1 else 0) ≡ Some (truth (not (not b)))
not_not true = refl
not_not false = refl

pub not_less : (s : Sign) → ComputesContrary B.Less s (turned_op (by_sign s O.LeS O.LeU))
not_less Signed = record { both = λ l r. refl; by = λ x y. (is_below Signed x y, refl, refl) }
not_less Unsigned = record { both = λ l r. refl; by = λ x y. (is_below Unsigned x y, refl, refl) }

pub not_greater : (s : Sign) → ComputesContrary B.Greater s (straight_op (by_sign s O.LeS O.LeU))
not_greater Signed = record { both = λ l r. refl; by = λ x y. (is_below Signed y x, refl, refl) }
not_greater Unsigned = record { both = λ l r. refl; by = λ x y. (is_below Unsigned y x, refl, refl) }

pub not_less_or_equal : (s : Sign) → ComputesContrary B.LessOrEqual s (turned_op (by_sign s O.LtS O.LtU))
not_less_or_equal Signed = record { both = λ l r. refl; by = λ x y. (not (is_below Signed y x), refl, not_not (is_below Signed y x)) }
not_less_or_equal Unsigned = record { both = λ l r. refl; by = λ x y. (not (is_below Unsigned y x), refl, not_not (is_below Unsigned y x)) }

pub not_greater_or_equal : (s : Sign) → ComputesContrary B.GreaterOrEqual s (straight_op (by_sign s O.LtS O.LtU))
not_greater_or_equal Signed = record { both = λ l r. refl; by = λ x y. (not (is_below Signed x y), refl, not_not (is_below Signed x y)) }
not_greater_or_equal Unsigned = record { both = λ l r. refl; by = λ x y. (not (is_below Unsigned x y), refl, not_not (is_below Unsigned x y)) }

pub not_equal : (s : Sign) → ComputesContrary B.Equal s (straight_op O.Ne)
not_equal s = record { both = λ l r. refl; by = λ x y. (x == y, refl, refl) }

pub not_different : (s : Sign) → ComputesContrary B.NotEqual s (straight_op O.Eq)
not_different s = record { both = λ l r. refl; by = λ x y. (not (x == y), refl, not_not (x == y)) }
