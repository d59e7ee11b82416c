-- The terms of the start, by tickets.
use Rattle.sym_terms.specs.declared.label.Label.TheVariants.{Mem0}
use Rattle.sym_terms.specs.Trees.{leaf}
use Rattle.term_table.specs.Passes.{PassState}
use Rattle.sym_exec.specs.MipsTerms.{HasTree}
use Rattle.sym_exec.specs.declared.registers.TermRegisters.{TermRegisters}
use Rattle.sym_exec.specs.declared.state.TermPlaces.{TermPlaces}
use Rattle.sym_exec.specs.Symbolic.{start_trees}
use Rattle.sym_exec.specs.Standing.{Known, Hold}

-- the places without memory
abbrev pub registers_of : TermPlaces → TermRegisters
registers_of s = record { regs = s.regs; hi = s.hi; lo = s.lo }

pub record IsStart (p : PassState) (s : TermPlaces) : Type 0 where
  pub known : Known p (registers_of s)
  pub hold : Hold p (registers_of s) start_trees
  pub memory : HasTree p s.memory (leaf Mem0)
