-- The bytes of a word.
use Rattle.std.proofs.Common.{◌≡◌, ℕ, suc, ◌<◌, refl, arith}
use Rattle.std.specs.Prelude.{slice_index}
use Rattle.std.specs.Int.{w32, to_be_bytes}
use Rattle.mips_isa.specs.States.{byte_of}

pub byte_taken : (w k : ℕ) → k < 4 → slice_index (to_be_bytes w32 w) k ≡ byte_of w k
byte_taken w (suc (suc (suc (suc k)))) lt = absurd (omega arith)
byte_taken w _ lt = refl
