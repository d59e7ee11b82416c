use Rattle.std.proofs.Common.{rules, ◌≡◌, List, [], ◌∷◌, ◌++◌, Vec, Global, map, length, subst, sym}
use Rattle.std.proofs.lemmas.List.{nil_from_length}
use Rattle.std.specs.Vec.Iter.{into_iter_items}
use Rattle.crossbeam_deque.specs.Handles.{worker_deque}
use Rattle.steal_pool.specs.declared.victim.Victim.{Victim}
use Rattle.steal_pool.specs.declared.member.Member.{Member}
use Rattle.steal_pool.specs.Members.{IsMember}
use Rattle.steal_pool.specs.Starts.{AreFilled, Start}
use Rattle.steal_pool.proofs.Pairing.{AreWays, Own, Pairs, all_at, paired, begun, done}
use Rattle.steal_pool.proofs.Rounds.{start_round}
use Rattle.steal_pool.proofs.start.members.Goals as goal

pub all_ways-requires-clause-filled : goal.all_ways-requires-clause-filled
all_ways-requires-clause-filled g c =
    subst (λ m. AreFilled m c.args.n c.in_ok-workers.workers.items) (sym c.in_ok-workers.ensures.len) c.in_ok-workers.ensures.filled

pub loop-own-init : goal.loop-own-init
loop-own-init g c =
    let zs = c.all_ways.new.workers.items in let ways = c.in_ok-ways.ways.items in
    let count = c.args.count in let n = c.args.n in
    let rest : into_iter_items c.into_iter-own-iterator.result ≡ zs = search rules in
    let none : c.new-members.result.items ≡ [] = search rules in
    let all = c.in_ok-workers.ensures.len in
    let long : length zs ≡ count = search rules in
    let ended : length ways ≡ count = search rules in
    let filled : AreFilled count n zs = subst (λ m. AreFilled m n zs) all c.in_ok-ways.ensures.filled in
    let to : AreWays count n (map (λ d. worker_deque d) zs) ways =
    subst (λ m. AreWays m n (map (λ d. worker_deque d) zs) ways) all c.in_ok-ways.ensures.ways in
    rw (rest, none) (begun count n zs ways long ended filled to)

pub loop-own-preserved : goal.loop-own-preserved
loop-own-preserved g c =
    let M = Member g.row.K.Denot in let X = Own g.row.K.Denot in let V = Vec (Victim g.row.K.Denot) Global in
    let ms = c.loop-own.members.items in
    let d : X = c.in-Some.own in let v : V = c.in-Some-pop.others in
    let rest = into_iter_items c.next.new.self in let ways = c.pop.new.self.items in
    let new : M = record { own = d; others = v } in
    let is : c.push.new.self.items ≡ ms ++ new ∷ [] = search rules in
    let taken : into_iter_items c.loop-own.own-iterator ≡ d ∷ rest = c.in-Some.ensures.steps.0 in
    let popped : c.loop-own.ways.items ≡ ways ++ v ∷ [] = c.in-Some-pop.ensures.items in
    let P = Pairs {K = g.row.K.Denot} c.args.count c.args.n in
    let was : P ms (d ∷ rest) (ways ++ v ∷ []) =
    subst (λ (l : List V). P ms (d ∷ rest) l) popped (subst (λ (l : List X). P ms l c.loop-own.ways.items) taken c.loop-own.invariant) in
    subst (λ (l : List M). P l rest ways) (sym is) (paired c.args.count c.args.n ms d rest ways v was)

pub returns : goal.returns
returns g c =
    let X = Own g.row.K.Denot in
    let rest = into_iter_items c.loop-own.own-iterator in
    let none : rest ≡ [] = nil_from_length rest (search rules) in
    let P = Pairs {K = g.row.K.Denot} c.args.count c.args.n in
    let last : P c.loop-own.members.items [] c.loop-own.ways.items = subst (λ (l : List X). P c.loop-own.members.items l c.loop-own.ways.items) none c.loop-own.invariant in
    let ms = c.loop-own.members.items in
    let start : Start c.args.count c.args.n ms = done c.args.count c.args.n ms c.loop-own.ways.items last in
    record {
      start = start;
      round = start_round c.args.count c.args.n ms start;
      each = all_at IsMember ms (λ w m at. (start.each w m at).member);
    }
