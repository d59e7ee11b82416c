use Rattle.std.proofs.Common.{rules, ℕ, All, sym, arith, ◌∙◌, ◌≤◌, length, drop}
use Rattle.std.proofs.lemmas.List.{take-append-le}
use Rattle.std.proofs.lemmas.List.Elements.{All-head, All-rest, All-same, All-take}
use Rattle.term_table.specs.declared.pass.Pass.{Pass}
use Rattle.steal_pool.specs.Members.{IsMember}
use Rattle.steal_pool.specs.declared.pool.Station.{Station}
use Rattle.steal_pool.proofs.Places.{nothing_placed}
use Rattle.steal_pool.proofs.pool.run.Goals as goal

pub loop-station-init : goal.loop-station-init
loop-station-init g c =
    let D : ℕ × g.row.J-Out.Denot → Type 0 = λ d. g.J.Job.right c.args.job.now d.0 d.1 in
    let S : Station g.row.J-Out.Denot → Type 0 = λ s. All D s.done.items in
    let xs = c.do_all.new.stations in let n = c.stations-stations.result.len in
    let long : n ≤ length xs = search rules in
    let same = take-append-le n xs (drop (length xs) c.stations-stations.result.items) long in (
      All-same S _ _ (c.into_iter-station-iterator.ensures.into_iter_gives.0 ∙ same) (All-take S n xs c.do_all.ensures),
      c.nones-all.ensures.len,
      nothing_placed (g.J.Job.right c.args.job.now) c.nones-all.result.items c.nones-all.ensures.none,
    )

pub put_done-requires-clause-right : goal.put_done-requires-clause-right
put_done-requires-clause-right g c κs within =
    let D : ℕ × g.row.J-Out.Denot → Type 0 = λ d. g.J.Job.right c.args.job.now d.0 d.1 in
    let S : Station g.row.J-Out.Denot → Type 0 = λ s. All D s.done.items in
    All-head S _ _ (All-same S _ _ (sym c.in-Some.ensures.steps.0) c.loop-station.invariant.0)

pub loop-station-preserved : goal.loop-station-preserved
loop-station-preserved g c =
    let D : ℕ × g.row.J-Out.Denot → Type 0 = λ d. g.J.Job.right c.args.job.now d.0 d.1 in
    let S : Station g.row.J-Out.Denot → Type 0 = λ s. All D s.done.items in
    let was = c.loop-station.invariant in
    (All-rest S _ _ _ c.in-Some.ensures.steps.0 was.0, omega (arith, c.put_done.ensures.len, was.1), c.put_done.ensures.right)

pub stations-stations-requires-clause-members : goal.stations-stations-requires-clause-members
stations-stations-requires-clause-members g c κs within = c.in-Ok.ensures.each

pub do_all-requires-clause-ready : goal.do_all-requires-clause-ready
do_all-requires-clause-ready g c κs within =
    let P : Pass → Type 0 = λ p. g.J.Job.suits c.args.job.now p in
    let D : ℕ × g.row.J-Out.Denot → Type 0 = λ d. g.J.Job.right c.args.job.now d.0 d.1 in
    let S : Station g.row.J-Out.Denot → Type 0 = λ s. IsMember s.member × P s.pass × All D s.done.items in
    All-same S _ _ c.as_mut_slice.ensures.value c.stations-stations.ensures

pub stations-stations-requires-clause-suits : goal.stations-stations-requires-clause-suits
stations-stations-requires-clause-suits g c κs within = c.requires.suits

pub put_done-requires-clause-so_far : goal.put_done-requires-clause-so_far
put_done-requires-clause-so_far g c κs within = c.loop-station.invariant.2

-- nothing is noted of an unmarked member's deque
pub members-requires-clause-begins : goal.members-requires-clause-begins
members-requires-clause-begins g c = tt

pub members-requires-clause-puts : goal.members-requires-clause-puts
members-requires-clause-puts g c xs items views port v real at puts = tt

pub members-requires-clause-shares : goal.members-requires-clause-shares
members-requires-clause-shares g c items views port v real at = tt

pub returns-clause-len : goal.returns-clause-len
returns-clause-len g c = c.loop-station.invariant.1

pub returns-clause-right : goal.returns-clause-right
returns-clause-right g c = c.loop-station.invariant.2

pub returns-then-count-eq0-clause-right : goal.returns-then-count-eq0-clause-right
returns-then-count-eq0-clause-right g c = nothing_placed (g.J.Job.right c.args.job.now) c.nones-all.result.items c.nones-all.ensures.none

pub returns-in_default-clause-right : goal.returns-in_default-clause-right
returns-in_default-clause-right g c = nothing_placed (g.J.Job.right c.args.job.now) c.nones-all.result.items c.nones-all.ensures.none
