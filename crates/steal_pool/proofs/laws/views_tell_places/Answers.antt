use Rattle.std.proofs.Common.{ap}
use Rattle.steal_pool.specs.declared.view.View.{View}
use Rattle.steal_pool.proofs.Shares.{shares_differ}
use Rattle.steal_pool.proofs.laws.views_tell_places.Goals as goal

pub returns : goal.returns
returns c count n i j v u below more other a b same = shares_differ count n i j v.put u.put below more other a b (ap (λ (x : View). x.put) same)
