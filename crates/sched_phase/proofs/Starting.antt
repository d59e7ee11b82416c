-- A pass that goes on knows the terms of the start.
use Rattle.std.specs.Prelude.{Option, Some, None, IfSome}
use Rattle.term_table.specs.Passes.{PassState}
use Rattle.sym_exec.specs.Standing.{Later}
use Rattle.sym_exec.specs.Starts.{IsStart}
use Rattle.sym_exec.specs.declared.state.TermPlaces.{TermPlaces}
use Rattle.sym_exec.proofs.Starts.{start_on}

pub knows_on : {p q : PassState} (s : Option TermPlaces) → Later p q → IfSome s (IsStart p) → IfSome s (IsStart q)
knows_on {p} {q} None e h = tt
knows_on {p} {q} (Some s) e h = start_on e h
