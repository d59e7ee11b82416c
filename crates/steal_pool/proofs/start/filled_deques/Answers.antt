use Rattle.std.proofs.Common.{rules, ◌≡◌, ℕ, ◌+◌, List, [], ◌∷◌, ◌++◌, Some, length, length-append, slice_get, subst, sym, ap, ◌∙◌}
use Rattle.crossbeam_deque.specs.Handles.{worker_view}
use Rattle.steal_pool.specs.Shares.{Begins}
use Rattle.steal_pool.specs.Starts.{IsFilled}
use Rattle.steal_pool.proofs.Shares.{each_more}
use Rattle.steal_pool.proofs.Pairing.{Own}
use Rattle.steal_pool.proofs.start.filled_deques.Goals as goal

pub loop-w-preserved : goal.loop-w-preserved
loop-w-preserved g c =
    let X = Own g.row.K.Denot in
    let R : ℕ → X → Type 0 = IsFilled c.args.count c.args.n in
    let xs = c.loop-w.workers.items in let new : X = c.in_ok-own.own in
    let is : c.push.new.self.items ≡ xs ++ new ∷ [] = search rules in
    let was = c.loop-w.invariant in
    let fresh : R (length xs) new = (c.in_ok-own.ensures.fifo, subst (λ w. Begins w c.args.count c.args.n (worker_view new)) (sym was.0) c.in_ok-own.ensures.tasks) in
    let Q : List X → Type 0 = λ l. (k : ℕ) (d : X) → slice_get l k ≡ Some d → R k d in
    (ap length is ∙ (length-append xs (new ∷ []) ∙ ap (λ n. n + 1) was.0), subst Q (sym is) (each_more R xs new was.1 fresh))
