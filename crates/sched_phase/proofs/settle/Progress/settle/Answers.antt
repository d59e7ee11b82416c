use Rattle.std.proofs.Common.{rules, ◌≡◌, [], ◌∷◌, ◌++◌, length, ◌+◌, length-append, sym, ap, subst, ◌∙◌}
use Rattle.mblock.specs.Parts.{OrderParts}
use Rattle.image.specs.Views.{counts_of}
use Rattle.sched_phase.specs.Phases.{AreSettled}
use Rattle.sched_phase.specs.Settling.{kind_of}
use Rattle.sched_phase.proofs.Settled.{ServeAll, settled_more, serve_more}
use Rattle.sched_phase.proofs.settle.Progress.settle.Goals as goal

pub returns-clause-done : goal.returns-clause-done
returns-clause-done g c =
    let proposes = g.R.Reorder.proposes c.args.reorder.now in
    let blocks = c.args.unit.now.blocks in
    let b = c.args.block.now in
    let orders = c.args.self.now.orders.items in
    let o : OrderParts = c.in_ok-order.order in
    let is : c.push.new.self.items ≡ orders ++ o ∷ [] = search rules in
    let was = c.requires.done in
    let new = counts_of c.order_by_verdict.new.report in
    let old = counts_of c.args.self.now.report in
    let kind = kind_of c.args.verdict in
    let given = c.in_ok-order.ensures in
    record {
      settled = subst (λ l. AreSettled proposes blocks l new) (sym is)
          (settled_more proposes blocks orders old new b kind o c.requires.next was.settled given.suits given.counted);
      serve = subst (ServeAll blocks) (sym is) (serve_more blocks orders b o c.requires.next given.serves was.serve);
      sum = given.sum ∙ ap (λ n. n + 1) was.sum ∙ sym (length-append orders (o ∷ [])) ∙ ap length (sym is);
    }
