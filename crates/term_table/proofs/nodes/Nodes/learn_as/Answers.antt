use Rattle.std.proofs.Common.{subst}
use Rattle.atomic_table.specs.Table.{Me}
use Rattle.term_table.specs.declared.view.View.{View}
use Rattle.term_table.specs.Calls.{walker_of, told_of}
use Rattle.term_table.specs.Meets.{Saw}
use Rattle.term_table.proofs.Meeting.{is_pass}
use Rattle.term_table.proofs.nodes.Nodes.learn_as.Goals as goal

pub returns-clause-saw : goal.returns-clause-saw
returns-clause-saw g c =
    let told = c.inform.ensures.told in
    subst (λ (m : Me (Unit {0}) View). Saw g.C.Act.begun.shape (walker_of m.0) (told_of m.0) (walker_of c.see.new.seat.me.0)) told
    c.see.ensures.saw

pub returns-clause-pass : goal.returns-clause-pass
returns-clause-pass g c = is_pass c.see.new.seat.me _ _ c.see.ensures.pass
