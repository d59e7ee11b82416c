use Rattle.std.proofs.Common.{sym, ℕ}
use Rattle.std.proofs.lemmas.List.Elements.{All-head, All-rest, All-same}
use Rattle.steal_pool.proofs.Places.{placed}
use Rattle.steal_pool.proofs.answers.put_done.Goals as goal

pub loop-i-preserved-then-i-len : goal.loop-i-preserved-then-i-len
loop-i-preserved-then-i-len g c =
    let P : ℕ × g.row.J-Out.Denot → Type 0 = λ d. g.J.Job.right c.args.job.now d.0 d.1 in
    let h = c.in-Some.ensures.steps in let was = c.loop-i.invariant in
    let one : P (c.in-Some.i, c.in-Some.out) = All-head P _ _ (All-same P _ _ (sym h.0) was.0) in
    (All-rest P _ _ _ h.0 was.0, was.1, placed _ _ _ _ one was.2)

pub loop-i-preserved-then-i-len-2 : goal.loop-i-preserved-then-i-len-2
loop-i-preserved-then-i-len-2 g c =
    let P : ℕ × g.row.J-Out.Denot → Type 0 = λ d. g.J.Job.right c.args.job.now d.0 d.1 in
    let h = c.in-Some.ensures.steps in let was = c.loop-i.invariant in
    let one : P (c.in-Some.i, c.in-Some.out) = All-head P _ _ (All-same P _ _ (sym h.0) was.0) in
    (All-rest P _ _ _ h.0 was.0, was.1, placed _ _ _ _ one was.2)

pub loop-i-preserved : goal.loop-i-preserved
loop-i-preserved g c =
    let P : ℕ × g.row.J-Out.Denot → Type 0 = λ d. g.J.Job.right c.args.job.now d.0 d.1 in
    let h = c.in-Some.ensures.steps in let was = c.loop-i.invariant in (All-rest P _ _ _ h.0 was.0, was.1, was.2)
