use Rattle.std.proofs.Common.{sym, ◌∙◌}
use Rattle.term_table.specs.Passes.{Learned}
use Rattle.term_table.proofs.Meeting.{met}
use Rattle.term_table.proofs.Callers.{extends_learned, still_of, legal_learned, first_learns, second_learns}
use Rattle.term_table.proofs.table.TermTable.meet.Goals as goal

pub returns-clause-met : goal.returns-clause-met
returns-clause-met c =
    let first = c.note-note.ensures.same in
    let learned : Learned c.args.first.now c.note-note-2.result.seen c.learn-2.new.pass = rw first at c.learn-2.ensures.learned in
    rw c.note-note-2.ensures.same (met {p = c.args.first.now} {q = c.args.second.now} (c.requires.first.2 ∙ sym c.requires.second.2)
    c.note-note.ensures.seen c.learn.ensures.learned c.note-note-2.ensures.seen learned)

pub returns-clause-extends : goal.returns-clause-extends
returns-clause-extends c = let m = returns-clause-met c in (extends_learned m.first, extends_learned m.second)

pub returns-clause-own : goal.returns-clause-own
returns-clause-own c = let e = returns-clause-extends c in (still_of e.0 c.requires.first, still_of e.1 c.requires.second)

pub returns-clause-legal : goal.returns-clause-legal
returns-clause-legal c = let m = returns-clause-met c in (legal_learned m.first, legal_learned m.second)

pub returns-clause-first_learns : goal.returns-clause-first_learns
returns-clause-first_learns c = first_learns (returns-clause-met c)

pub returns-clause-second_learns : goal.returns-clause-second_learns
returns-clause-second_learns c = second_learns (returns-clause-met c)
