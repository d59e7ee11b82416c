use Rattle.std.proofs.Common.{[]}
use Rattle.term_core.specs.declared.Call.TheVariants.{Read}
use Rattle.term_table.specs.Rule.{shape_of}
use Rattle.term_table.specs.Calls.{walker_of}
use Rattle.term_table.proofs.table.TermTable.learn.Given as goal

abbrev pub ghosts-learn_as : goal.ghosts-learn_as
ghosts-learn_as a = record { begun = record { shape = shape_of a.self.now.size; call = Read 0; start = walker_of a.seat.now.me.0; told = [] } }
