use Rattle.std.specs.Vec.Iter.{into_iter_items}
use Rattle.steal_pool.proofs.Pairing.{Pairs}
use Rattle.steal_pool.proofs.start.members.Given as goal

abbrev pub invariant-loop-own : goal.invariant-loop-own
invariant-loop-own g l = Pairs l.fn.count l.fn.n l.members.items (into_iter_items l.own-iterator) l.ways.items
