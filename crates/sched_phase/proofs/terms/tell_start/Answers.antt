use Rattle.sym_exec.proofs.Starts.{start_learned}
use Rattle.sched_phase.proofs.terms.tell_start.Goals as goal

pub returns-clause-start : goal.returns-clause-start
returns-clause-start c = start_learned c.learn.ensures.learns (start_learned c.note-note.ensures.learns c.requires.start)
