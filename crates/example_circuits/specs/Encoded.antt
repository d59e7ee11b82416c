-- What a thread gives back: its pass is the table's, and knows the ticket of the circuit's output.
use Rattle.term_table.specs.Passes.{TableState, IsOf}
use Rattle.term_table.specs.Meanings.{Means}
use Rattle.example_circuits.specs.declared.circuit.Circuit.{Circuit}
use Rattle.example_circuits.specs.declared.threads.Encoded.{Encoded}
use Rattle.example_circuits.specs.Meaning.{output, gates}

pub record IsOutput (t : TableState) (c : Circuit) (r : Encoded) : Type 0 where
  pub own : IsOf t r.pass
  pub means : Means gates r.pass r.output (output c)
