-- A part of a text, and what may follow it.
use Rattle.std.specs.Prelude.{◌≡◌, ◌⊎◌, List, [], ◌∷◌, ◌++◌, Result, Ok, Err}
use Rattle.std.specs.Borrow.{Bor}
use Rattle.c_tokens.specs.declared.token.Mark.{Mark}
use Rattle.c_tokens.specs.declared.token.Token.{Token}
use Rattle.c_front.specs.declared.cursor.ParseStop.{ParseStop}
use Rattle.c_front.specs.declared.cursor.ParseStop.TheVariants.{NoMemory}
use Rattle.c_front.specs.Parsing.{StartsWith, IsMissing}

-- a part, and the tokens after it
abbrev pub Parsed : Type 0 → Type 0
Parsed A = Result (A × Bor (List Token)) ParseStop

-- memory was refused, or the part has stopped here
abbrev pub StopsAs : {A : Type 0} → Parsed A → ParseStop → Type 0
StopsAs parsed s = (s ≡ NoMemory) ⊎ (parsed ≡ Err s)

-- the part, and the mark after it
abbrev pub IsEnded : {A : Type 0} → Parsed A → Mark → (A × Bor (List Token)) → Type 0
IsEnded parsed u r = (rest : Bor (List Token)) × (parsed ≡ Ok (r.0, rest)) × StartsWith u rest.now r.1.now

-- the part has stopped here, or the mark after it is missing
abbrev pub IsUnended : {A : Type 0} → Parsed A → Mark → ParseStop → Type 0
IsUnended {A} parsed u s = (parsed ≡ Err s) ⊎ ((a : A) × (rest : Bor (List Token)) × (parsed ≡ Ok (a, rest)) × IsMissing u rest.now s)

-- the part, and the one before it
abbrev pub IsJoined : {A B : Type 0} → B → Parsed A → ((B × A) × Bor (List Token)) → Type 0
IsJoined before parsed r = (r.0.0 ≡ before) × (parsed ≡ Ok (r.0.1, r.1))

-- the part stands after the others
abbrev pub IsPushed : {A : Type 0} → Parsed A → Bor (List Token) → List A → List A → Type 0
IsPushed {A} parsed rest old new = (a : A) × (parsed ≡ Ok (a, rest)) × (new ≡ old ++ a ∷ [])
