-- The calling convention: what each register is for, by the numbers of src/convention.rt.
use Rattle.std.specs.Prelude.{ℕ, ◌<◌, ◌≤◌, Bool, ◌&&◌, List, [], ◌∷◌, nat_lt}
use Rattle.mips_homes.specs.declared.convention.TheConstants.{FIRST_ARGUMENT, FIRST_CALLEE_SAVED, GLOBAL_POINTER}

-- callee-saved registers, 16 to 23: a call leaves them as they were
abbrev pub is_callee_saved : ℕ → Bool
is_callee_saved r = nat_lt 15 r && nat_lt r 24

abbrev pub IsCalleeSaved : ℕ → Type 0
IsCalleeSaved r = (FIRST_CALLEE_SAVED ≤ r) × (r < 24)

-- the caller-saved registers besides those of arguments: 8 to 15 and 24 to 27
abbrev pub temporaries : List ℕ
temporaries = 8 ∷ 9 ∷ 10 ∷ 11 ∷ 12 ∷ 13 ∷ 14 ∷ 15 ∷ 24 ∷ 25 ∷ 26 ∷ 27 ∷ []

-- where pseudo-registers may live: in arguments' registers, temporaries and callee-saved ones, 4 to 27
abbrev pub IsAllocatable : ℕ → Type 0
IsAllocatable r = (FIRST_ARGUMENT ≤ r) × (r < GLOBAL_POINTER)
