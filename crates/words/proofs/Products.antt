-- A product of two numbers of 32 bits has 64.
use Rattle.std.proofs.Common.{◌≡◌, ◌≤◌, ◌^◌, ◌*ℤ◌, ℤ, pos, negsuc, FitsSigned, to_z, of_z, sym, ap, ap₂, subst, ◌∙◌, arith}
use Rattle.std.specs.Int.{w32, w64}
use Rattle.std.specs.Int.RustNames.{unsigned_abs}
use Rattle.std.proofs.lemmas.Int.{fits_signed_mul, to_z-of_z}

size : (z : ℤ) → FitsSigned w32 z → unsigned_abs z ≤ 2 ^ 31
size (pos n) fits = omega arith
size (negsuc n) fits = omega arith

fits : (a b : ℤ) → FitsSigned w32 a → FitsSigned w32 b → FitsSigned w64 (a *ℤ b)
fits a b fa fb = fits_signed_mul w64 a b (2 ^ 31) (2 ^ 31) (size a fa) (size b fb) (omega arith)

wider : (z : ℤ) → FitsSigned w32 z → FitsSigned w64 z
wider (pos n) fits = omega arith
wider (negsuc n) fits = omega arith

-- a number of 32 bits, read as one of 64
same : (x a : ℤ) → FitsSigned w32 a → x ≡ to_z w32 (of_z w32 a) → to_z w64 (of_z w64 x) ≡ a
same x a f e = ap (λ z. to_z w64 (of_z w64 z)) (e ∙ to_z-of_z w32 a f) ∙ to_z-of_z w64 a (wider a f)

both : (x y a b : ℤ) → FitsSigned w32 a → FitsSigned w32 b → x ≡ to_z w32 (of_z w32 a) → y ≡ to_z w32 (of_z w32 b)
    → to_z w64 (of_z w64 x) *ℤ to_z w64 (of_z w64 y) ≡ a *ℤ b
both x y a b fa fb ea eb = ap₂ (λ u v. u *ℤ v) (same x a fa ea) (same y b fb eb)

pub product_fits : (x y a b : ℤ) → FitsSigned w32 a → FitsSigned w32 b → x ≡ to_z w32 (of_z w32 a) → y ≡ to_z w32 (of_z w32 b)
    → FitsSigned w64 (to_z w64 (of_z w64 x) *ℤ to_z w64 (of_z w64 y))
product_fits x y a b fa fb ea eb = subst (FitsSigned w64) (sym (both x y a b fa fb ea eb)) (fits a b fa fb)

pub product_kept : (x y a b : ℤ) → FitsSigned w32 a → FitsSigned w32 b → x ≡ to_z w32 (of_z w32 a) → y ≡ to_z w32 (of_z w32 b)
    → to_z w64 (of_z w64 (to_z w64 (of_z w64 x) *ℤ to_z w64 (of_z w64 y))) ≡ a *ℤ b
product_kept x y a b fa fb ea eb = to_z-of_z w64 _ (product_fits x y a b fa fb ea eb) ∙ both x y a b fa fb ea eb
