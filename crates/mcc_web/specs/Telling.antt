-- What faults told to a host leave.
use Rattle.std.specs.Prelude.{◌≡◌, ℕ, List, ◌++◌, true}
use Rattle.mcc_web.specs.declared.told.Told.{Told}

-- told after what was told before, unless memory was refused
abbrev pub Tells : Told → List ℕ → Told → Type 0
Tells old bytes new = new.is_whole ≡ true → (old.is_whole ≡ true) × (new.lines.items ≡ old.lines.items ++ bytes)
