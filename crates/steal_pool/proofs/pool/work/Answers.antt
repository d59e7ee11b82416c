use Rattle.std.proofs.Common.{◌≡◌, ◌++◌, ◌∷◌, [], ℕ, rules}
use Rattle.std.proofs.lemmas.List.Elements.{All-push, All-same}
use Rattle.steal_pool.proofs.pool.work.Goals as goal

pub loop-init : goal.loop-init
loop-init g c = (c.requires.member, c.requires.suits, c.requires.right)

pub loop-preserved : goal.loop-preserved
loop-preserved g c =
    let D : ℕ × g.row.J-Out.Denot → Type 0 = λ d. g.J.Job.right c.args.job.now d.0 d.1 in
    let was = c.loop.invariant in
    let new : ℕ × g.row.J-Out.Denot = (c.in-Some-take.i, c.work-out.result) in
    let is : c.push_reserved.new.self.items ≡ c.loop.station.done.items ++ new ∷ [] = search rules in
    (c.take.ensures.member, c.work-out.ensures.suits, All-same D _ _ is (All-push D _ new was.2 c.work-out.ensures.right))
