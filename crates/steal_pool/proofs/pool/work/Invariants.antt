use Rattle.std.proofs.Common.{All}
use Rattle.steal_pool.specs.Members.{IsMember}
use Rattle.steal_pool.proofs.pool.work.Given as goal

abbrev pub invariant-loop : goal.invariant-loop
invariant-loop g l = IsMember l.station.member × g.J.Job.suits l.job l.station.pass × All (λ d. g.J.Job.right l.job d.0 d.1) l.station.done.items
