use Rattle.std.proofs.Common.{rules, ◌≡◌, ◌++◌, ◌∷◌, [], ℕ, All, sym, Some}
use Rattle.std.proofs.lemmas.List.Elements.{All-head, All-rest, All-push, All-nil, All-same, All-pop}
use Rattle.term_table.specs.declared.pass.Pass.{Pass}
use Rattle.steal_pool.specs.Members.{IsMember}
use Rattle.steal_pool.specs.declared.pool.Station.{Station}
use Rattle.steal_pool.proofs.pool.stations.Goals as goal

pub loop-pass-preserved : goal.loop-pass-preserved
loop-pass-preserved g c =
    let P : Pass → Type 0 = λ p. g.J.Job.suits c.args.job.now p in
    let D : ℕ × g.row.J-Out.Denot → Type 0 = λ d. g.J.Job.right c.args.job.now d.0 d.1 in
    let S : Station g.row.J-Out.Denot → Type 0 = λ s. IsMember s.member × P s.pass × All D s.done.items in
    let new : Station g.row.J-Out.Denot = record { member = c.in-Some-pop.member; pass = c.in-Some.pass; done = c.new-done.result } in
    let h = c.in-Some.ensures.steps in let was = c.loop-pass.invariant in
    let suits : P c.in-Some.pass = All-head P _ _ (All-same P _ _ (sym h.0) was.0) in
    let none : All D c.new-done.result.items = All-same D _ _ c.new-done.ensures.items (All-nil D) in
    let left = All-pop IsMember _ _ (Some c.in-Some-pop.member) c.in-Some-pop.ensures.items was.1 in
    let is : c.push.new.self.items ≡ c.loop-pass.stations.items ++ new ∷ [] = search rules in
    (All-rest P _ _ _ h.0 was.0, left.0, All-same S _ _ is (All-push S _ new was.2 (left.1, suits, none)))

pub returns-then-is_err : goal.returns-then-is_err
returns-then-is_err g c =
    let D : ℕ × g.row.J-Out.Denot → Type 0 = λ d. g.J.Job.right c.args.job.now d.0 d.1 in
    let S : Station g.row.J-Out.Denot → Type 0 = λ s. IsMember s.member × g.J.Job.suits c.args.job.now s.pass × All D s.done.items in
    let is : c.push.new.self.items ≡ c.loop-pass.stations.items = search rules in All-same S _ _ is c.loop-pass.invariant.2
