use Rattle.explain.proofs.Readers.{still_state, waiting_left, waiting_more}
use Rattle.explain.proofs.terms.Open.next.Goals as goal

pub returns-in_err-extend_from_slice : goal.returns-in_err-extend_from_slice
returns-in_err-extend_from_slice c = record {
  own = c.read-label.ensures.own;
  state = still_state c.read-label.ensures.extends _ c.requires.state;
  waiting = waiting_left c.read-label.ensures.extends _ c.pop.new.self.items _ c.pop.result c.pop.ensures.items c.requires.waiting
      c.in_err-extend_from_slice.ensures.items;
}

pub returns : goal.returns
returns c = record {
  own = c.read-label.ensures.own;
  state = still_state c.read-label.ensures.extends _ c.requires.state;
  waiting = waiting_more c.read-label.ensures.extends _ c.pop.new.self.items _ c.as_slice.result.now c.read-label.result.children.items c.pop.result
      c.pop.ensures.items c.requires.waiting c.read-label.ensures.seen c.as_slice.ensures c.in_ok-extend_from_slice.ensures.items;
}
