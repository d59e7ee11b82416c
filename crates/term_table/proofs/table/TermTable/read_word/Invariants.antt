use Rattle.term_core.specs.declared.Call.TheVariants.{Read}
use Rattle.term_table.specs.Rule.{shape_of}
use Rattle.term_table.specs.Calls.{walker_of, told_of}
use Rattle.term_table.proofs.table.TermTable.read_word.Given as goal

abbrev pub ghosts-read_as : goal.ghosts-read_as
ghosts-read_as a = record {
  begun = record { shape = shape_of a.self.now.size; call = Read a.node; start = walker_of a.seat.now.me.0; told = told_of a.seat.now.me.0 };
}
