use Rattle.std.proofs.Common.{◌∙◌}
use Rattle.c_run.proofs.Sizes.{turn-less, one-less, rest-less, gone-less}
use Rattle.c_run.proofs.Turns.{rest-gone}
use Rattle.c_run.proofs.pending.Agenda.take_behind.Goals as goal

pub returns-in-Turn-clause-less : goal.returns-in-Turn-clause-less
returns-in-Turn-clause-less c = turn-less c.loop-t.self.behind.items c.pop.new.self.items c.in-Some.t c.in-Turn.last c.in-Turn.again c.in-Turn.list _
    c.in-Some.ensures.items c.in-Turn.is c.loop-t.invariant.less

pub returns-in-One-clause-less : goal.returns-in-One-clause-less
returns-in-One-clause-less c = one-less c.loop-t.self.behind.items c.pop.new.self.items c.in-Some.t c.in-One.s c.in-One.list _ c.in-Some.ensures.items
    c.in-One.is c.loop-t.invariant.less

pub returns-in-Some-split_first-clause-less : goal.returns-in-Some-split_first-clause-less
returns-in-Some-split_first-clause-less c =
    rest-less c.loop-t.self.behind.items c.pop.new.self.items c.in-Some.t c.in-Rest.list c.in-Some-split_first.rest c.in-Some-split_first.s _
    c.in-Some.ensures.items c.in-Rest.is c.in-Some-split_first.ensures.cases.0 c.loop-t.invariant.less

pub loop-t-preserved : goal.loop-t-preserved
loop-t-preserved c = record {
  same = rest-gone c.loop-t.self.behind.items c.pop.new.self.items c.in-Some.t c.in-Rest.list c.in-Some.ensures.items c.in-Rest.is
      c.in_default-split_first.ensures.cases ∙ c.loop-t.invariant.same;
  less = gone-less c.loop-t.self.behind.items c.pop.new.self.items c.in-Some.t _ c.in-Some.ensures.items c.loop-t.invariant.less;
  list = c.loop-t.invariant.list;
}
