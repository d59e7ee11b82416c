use Rattle.std.proofs.Common.{rules, ◌≡◌, ◌+◌, ◌%◌, ◌≢◌, ◌∙◌, ◌∷◌, [], ap, sym, add-one}
use Rattle.std.proofs.Math.Nat.{suc-mod}
use Rattle.crossbeam_deque.specs.Handles.{worker_view, worker_flavor}
use Rattle.steal_pool.specs.Rule.{after_putting}
use Rattle.steal_pool.proofs.Shares.{begins_more, begins_same}
use Rattle.steal_pool.proofs.deques.filled_deque.Goals as goal
use Rattle.steal_pool.proofs.deques.filled_deque.Goals.{then-remainder-w+in_ok-put, else-remainder-w}

pub put-requires-clause-may : goal.put-requires-clause-may
put-requires-clause-may g c = c.loop-i.invariant.1.0.0

pub loop-i-preserved : goal.loop-i-preserved
loop-i-preserved g c =
    let at : c.loop-i.remainder ≡ c.loop-i.i % c.args.count = c.loop-i.invariant.2 in
    let next : c.next_remainder-remainder.result ≡ (c.loop-i.i + 1) % c.args.count =
    c.next_remainder-remainder.ensures ∙ (ap (λ r. (r + 1) % c.args.count) at ∙ rw (add-one, add-one) (sym (suc-mod c.loop-i.i c.args.count))) in
    elim c.if-remainder-w.branch [
      | then-remainder-w+in_ok-put w ↦
          let e : worker_view w.put.new.own ≡ after_putting (worker_view c.loop-i.own) (c.loop-i.i ∷ []) = search rules in
          let f : worker_flavor w.put.new.own ≡ 0 = search rules in
          let is : c.loop-i.i % c.args.count ≡ c.args.w = sym at ∙ w.if-remainder-w.true in
          rw w.own-is (f, begins_more _ _ _ (worker_view c.loop-i.own) _ e is c.loop-i.invariant.1, next)
      | else-remainder-w w ↦
          let not : c.loop-i.i % c.args.count ≢ c.args.w = λ e. w.if-remainder-w.false (at ∙ e) in
          rw w.own-is (c.loop-i.invariant.0, begins_same _ _ _ (worker_view c.loop-i.own) not c.loop-i.invariant.1, next)
    ]
