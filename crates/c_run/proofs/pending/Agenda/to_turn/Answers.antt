use Rattle.std.proofs.Common.{◌∙◌, sym, rules}
use Rattle.c_run.proofs.Turns.{at-list, at-popped, turn-back}
use Rattle.c_run.proofs.pending.Agenda.to_turn.Goals as goal

pub loop-t-init : goal.loop-t-init
loop-t-init c = record { same = sym (at-list c.args.self.now.list.now _); none = search rules }

pub loop-t-preserved : goal.loop-t-preserved
loop-t-preserved c = record {
  same = at-popped c.loop-t.self.behind.items c.pop.new.self.items c.in-Some.t c.in-Some.ensures.items c.in-One.is ∙ c.loop-t.invariant.same;
  none = c.loop-t.invariant.none;
}

pub returns-in-Turn : goal.returns-in-Turn
returns-in-Turn c =
    turn-back c.loop-t.self.behind.items c.pop.new.self.items c.push_reserved.new.self.items c.in-Some.t _ _ _ c.loop-t.self.list.now c.in-Some.ensures.items
    c.in-Turn.is c.push_reserved.ensures.items c.loop-t.invariant.none
    ∙ c.loop-t.invariant.same
