-- What the crates above say of a pass. It has gone on, it has learned what another knew, and its history is legal.
use Rattle.term_core.specs.Terms.{StartsWith, IsLegal}
use Rattle.term_table.specs.Passes.{PassState, IsSamePass}

-- q knows all that p knew: it has seen all that p had
pub record Learns (q p : PassState) : Type 0 where
  pub seen : StartsWith q.seen p.seen

-- q is the pass p, later: it has seen all that p had
pub record Extends (p q : PassState) : Type 0 where
  pub pass : IsSamePass p q
  pub seen : StartsWith q.seen p.seen

-- the history that the pass has seen is legal, as it is of each running pass
abbrev pub HasLegalHistory : PassState → Type 0
HasLegalHistory p = IsLegal p.nodes p.seen
