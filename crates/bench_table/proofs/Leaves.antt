-- Leaves that a pass has seen.
use Rattle.std.proofs.Common.{ℕ, List, All}
use Rattle.term_table.specs.Passes.{PassState}
use Rattle.term_table.specs.Terms.{HasSeenTerm}
use Rattle.bench_table.specs.Labels.{label_coding}
use Rattle.term_table.specs.Trees.{Extends}
use Rattle.term_table.proofs.TermCallers.{still_seen_term}

pub still_all : {p q : PassState} (ts : List ℕ) → Extends p q → All (HasSeenTerm label_coding p) ts → All (HasSeenTerm label_coding q) ts
still_all {p} {q} ts e h = λ k d lt. still_seen_term e (h k d lt)
