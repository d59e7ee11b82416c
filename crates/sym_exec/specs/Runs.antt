-- What a run leaves of a pass, and what of code it does anything for.
use Rattle.std.specs.Prelude.{ℕ, ◌+◌, ◌≤◌, List, filter, not, Result, OnErr}
use Rattle.mips_isa.specs.declared.inst.Plain.{Plain}
use Rattle.mips_isa.specs.Texts.{is_nop}
use Rattle.sym_terms.specs.Trees.{Tree}
use Rattle.term_table.specs.Passes.{TableState, PassState, linked}
use Rattle.term_table.specs.Trees.{HasLegalHistory}
use Rattle.sym_exec.specs.Asked.{LacksOne}
use Rattle.sym_exec.specs.Standing.{AfterInterns}

-- it links no more terms than it may. It has no answer only if the pass has linked all it may and lacks one of the trees asked for
pub record Runs {A E : Type 0} (asked : List Tree) (growth : ℕ) (t : TableState) (p : PassState) (result : Result A E) (q : PassState) : Type 0 where
  pub absent : OnErr result (LacksOne q asked)
  pub grows : linked q ≤ linked p + growth
  pub legal : HasLegalHistory q
  pub pass : AfterInterns t p result q

-- instructions without Nops
abbrev pub needed : List Plain → List Plain
needed = filter (λ x. not (is_nop x))
