use Rattle.term_core.specs.declared.Call.TheVariants.{Intern}
use Rattle.term_table.specs.Rule.{shape_of}
use Rattle.term_table.specs.Calls.{walker_of, told_of}
use Rattle.term_table.proofs.table.TermTable.intern_word.Given as goal

abbrev pub ghosts-intern_with : goal.ghosts-intern_with
ghosts-intern_with a = record {
  begun = record { shape = shape_of a.self.now.size; call = Intern a.word a.kids.now; start = walker_of a.seat.now.me.0; told = told_of a.seat.now.me.0 };
}
