-- In which registers pseudo-registers are passed on.
use Rattle.std.specs.Prelude.{ℕ, suc, ◌+◌, ◌-◌, ◌&&◌, List, [], ◌∷◌, Option, Some, None, max, nat_eq, nat_lt, nat_le, if◌then◌else◌}
use Rattle.rtl.specs.declared.instruction.RExit.{RExit}
use Rattle.rtl.specs.declared.instruction.RExit.TheVariants.{Call, Out}
use Rattle.rtl.specs.declared.block.RBlock.{RBlock}
use Rattle.mips_homes.specs.declared.convention.TheConstants.{FIRST_ARGUMENT}

-- how many arguments there are up to the last that is x, and n before them; 0 where none is x
abbrev pub reach_from : (n : ℕ) → List ℕ → ℕ → ℕ
reach_from n [] x = 0
reach_from n (y ∷ ys) x = max (if nat_eq x y then suc n else 0) (reach_from (suc n) ys x)

-- what `out` prints is passed as one argument
abbrev pub exit_reach : RExit → ℕ → ℕ
exit_reach (Call g xs d next) x = reach_from 0 xs.items x
exit_reach (Out y next) x = reach_from 0 (y ∷ []) x
exit_reach _ x = 0

-- up to the last at any exit
abbrev pub blocks_reach : List RBlock → ℕ → ℕ
blocks_reach [] x = 0
blocks_reach (b ∷ bs) x = max (exit_reach b.exit x) (blocks_reach bs x)

-- the register of the last of so many arguments, 4 to 7
abbrev pub register_of : (arguments : ℕ) → Option ℕ
register_of q = if nat_lt 0 q && nat_lt q 5 then Some (FIRST_ARGUMENT - 1 + q) else None

-- the register in which a pseudo-register of a function with n parameters is best. A parameter is best where it comes, but not if it is an
-- argument after. Others are best where the last argument is passed that they are
abbrev pub preference : (n : ℕ) → List RBlock → ℕ → Option ℕ
preference n bs x =
    if nat_lt x n
    then (if nat_le (blocks_reach bs x) (suc x) then register_of (suc x) else None)
    else register_of (blocks_reach bs x)
