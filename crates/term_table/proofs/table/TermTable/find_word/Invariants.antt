use Rattle.term_core.specs.declared.Call.TheVariants.{Find}
use Rattle.term_table.specs.Rule.{shape_of}
use Rattle.term_table.specs.Calls.{walker_of, told_of}
use Rattle.term_table.proofs.table.TermTable.find_word.Given as goal

abbrev pub ghosts-find_with : goal.ghosts-find_with
ghosts-find_with a = record {
  begun = record { shape = shape_of a.self.now.size; call = Find a.word a.kids.now; start = walker_of a.seat.now.me.0; told = told_of a.seat.now.me.0 };
}
