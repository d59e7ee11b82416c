use Rattle.std.proofs.Common.{[], ◌∷◌, All, sym, subst}
use Rattle.std.proofs.lemmas.List.Elements.{All-append, All-cons, All-nil}
use Rattle.term_table.specs.Terms.{HasSeenTerm}
use Rattle.bench_table.specs.Labels.{label_coding}
use Rattle.bench_table.proofs.Leaves.{still_all}
use Rattle.bench_table.proofs.worker.add_leaf.Goals as goal

pub returns-clause-seen : goal.returns-clause-seen
returns-clause-seen c =
    let q = c.intern.new.pass in
    let new = c.in-Ok.ensures.seen in
    let xs = c.args.leaves.now.items in
    let t = c.in-Ok.made.ticket in
    subst (All (HasSeenTerm label_coding q)) (sym c.in-Ok-push.ensures.items) (All-append (HasSeenTerm label_coding q) xs (t ∷ []) (still_all xs c.intern.ensures.extends c.requires.seen) (All-cons (HasSeenTerm label_coding q) t [] new (All-nil (HasSeenTerm label_coding q))))
