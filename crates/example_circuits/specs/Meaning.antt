-- What circuits put out, and what terms mean.
use Rattle.std.specs.Prelude.{◌≡◌, ℕ, Bool, false, not, ◌&&◌, ◌||◌, List, [], ◌∷◌, get_or}
use Rattle.term_table.specs.Meanings.{Algebra}
use Rattle.example_circuits.specs.declared.circuit.Circuit.{Circuit}
use Rattle.example_circuits.specs.declared.circuit.Circuit.TheVariants as circuits
use Rattle.example_circuits.specs.declared.gate.Gate.{Gate}
use Rattle.example_circuits.specs.declared.gate.Gate.TheVariants.{Level, Input, Not, And, Or}
use Rattle.example_circuits.specs.Gates.{gate_coding}

-- what goes in, by the number of the input
abbrev pub Inputs : Type 0
Inputs = ℕ → Bool

abbrev pub output : Circuit → Inputs → Bool
output (circuits.Level b) e = b
output (circuits.Input n) e = e n
output (circuits.Not' p x) e = not (output x e)
output (circuits.And' p x q y) e = output x e && output y e
output (circuits.Or' p x q y) e = output x e || output y e

-- what a gate makes of its inputs
abbrev pub at : List Bool → ℕ → Bool
at vs k = get_or vs k false

abbrev pub made : Gate → Inputs → List Bool → Bool
made (Level b) e vs = b
made (Input n) e vs = e n
made Not e vs = not (at vs 0)
made And e vs = at vs 0 && at vs 1
made Or e vs = at vs 0 || at vs 1

abbrev pub gates : Algebra Gate Bool Inputs
gates = record { coding = gate_coding; made = made }

-- the inputs of the gate may be swapped
abbrev pub Commutes : Gate → Type 0
Commutes g = (e : Inputs) (v w : Bool) → made g e (v ∷ w ∷ []) ≡ made g e (w ∷ v ∷ [])
