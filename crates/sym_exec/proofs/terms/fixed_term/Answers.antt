use Rattle.std.proofs.Common.{◌∙◌, sym}
use Rattle.sym_terms.specs.NormalForms.{const_tree, op_tree}
use Rattle.sym_exec.proofs.Tickets.{still_seen, still_tree, on_err_weaker, err_always, lacks_here, lacks_next}
use Rattle.sym_exec.proofs.terms.fixed_term.Goals as goal

pub returns-then-is_addition-clause-tree : goal.returns-then-is_addition-clause-tree
unfolding op_tree
returns-then-is_addition-clause-tree c = λ x h.
    let adds = sym c.is_addition.ensures ∙ c.if-is_addition.true in
    rw adds (c.constant_sum_term.ensures.tree x (const_tree c.args.word) h)

pub returns-then-is_addition-clause-absent : goal.returns-then-is_addition-clause-absent
unfolding op_tree
returns-then-is_addition-clause-absent c = λ x h.
    let k = const_tree c.args.word in
    let adds = sym c.is_addition.ensures ∙ c.if-is_addition.true in
    rw adds (on_err_weaker c.constant_sum_term.result (λ l. lacks_next k (lacks_here l)) (c.constant_sum_term.ensures.absent x k h))

pub returns-in_err-constant-clause-absent : goal.returns-in_err-constant-clause-absent
returns-in_err-constant-clause-absent c = λ x h. err_always _ (lacks_here c.in_err-constant.ensures.absent)

pub binary-requires-clause-a : goal.binary-requires-clause-a
binary-requires-clause-a c = still_seen c.in_ok-constant.ensures.pass.later.extends c.args.a c.requires

pub returns-clause-tree : goal.returns-clause-tree
unfolding op_tree
returns-clause-tree c = λ x h.
    let not = sym c.is_addition.ensures ∙ c.if-is_addition.false in
    rw not (c.binary.ensures.tree x (const_tree c.args.word) (still_tree c.in_ok-constant.ensures.pass.later.extends h) c.in_ok-constant.ensures.tree)

pub returns-clause-absent : goal.returns-clause-absent
unfolding op_tree
returns-clause-absent c = λ x h.
    let k = const_tree c.args.word in
    let not = sym c.is_addition.ensures ∙ c.if-is_addition.false in
    rw not (on_err_weaker c.binary.result (λ l. lacks_next k (lacks_here l))
    (c.binary.ensures.absent x k (still_tree c.in_ok-constant.ensures.pass.later.extends h) c.in_ok-constant.ensures.tree))
