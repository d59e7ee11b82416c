use Rattle.std.proofs.Common.{◌∙◌, sym, rules}
use Rattle.c_run.proofs.Turns.{past-list, past-popped, turn-left}
use Rattle.c_run.proofs.pending.Agenda.leave_turn.Goals as goal

pub loop-t-init : goal.loop-t-init
loop-t-init c = record { same = sym (past-list c.args.self.now.list.now _); none = search rules }

pub loop-t-preserved : goal.loop-t-preserved
loop-t-preserved c = record {
  same = past-popped c.loop-t.self.behind.items c.pop.new.self.items c.in-Some.t c.in-Some.ensures.items c.in-One.is ∙ c.loop-t.invariant.same;
  none = c.loop-t.invariant.none;
}

pub returns-in-Turn : goal.returns-in-Turn
returns-in-Turn c =
    sym (turn-left c.loop-t.self.behind.items c.pop.new.self.items c.in-Some.t _ _ c.in-Turn.list c.in-Some.ensures.items c.in-Turn.is)
    ∙ c.loop-t.invariant.same
