-- The terms of the start stay what they are.
use Rattle.sym_exec.proofs.Tickets.{still_tree, known_on, hold_on}
use Rattle.sym_exec.specs.Standing.{Later}
use Rattle.sym_exec.specs.Starts.{IsStart}
use Rattle.sym_exec.specs.declared.state.TermPlaces.{TermPlaces}
use Rattle.term_table.specs.Passes.{PassState}
use Rattle.term_table.specs.Trees.{Learns}
use Rattle.term_table.proofs.TermCallers as terms

pub start_on : {p q : PassState} {s : TermPlaces} → Later p q → IsStart p s → IsStart q s
start_on {p} {q} {s} e h = record {
  known = known_on e h.known;
  hold = hold_on e h.hold;
  memory = still_tree e.extends h.memory;
}

-- also for a pass that has learned what this one knew
pub start_learned : {p q : PassState} {s : TermPlaces} → Learns q p → IsStart p s → IsStart q s
start_learned {p} {q} {s} e h = record {
  known = record {
    regs = λ r lt. terms.learns_seen_term e (h.known.regs r lt);
    hi = terms.learns_seen_term e h.known.hi;
    lo = terms.learns_seen_term e h.known.lo;
  };
  hold = record { regs = λ r lt. terms.learns_term e (h.hold.regs r lt); hi = terms.learns_term e h.hold.hi; lo = terms.learns_term e h.hold.lo };
  memory = terms.learns_term e h.memory;
}
