use Rattle.std.proofs.Common.{ne_eqb, arith}
use Rattle.sym_exec.proofs.Tickets.{still_seen, still_tree, address-later, sum-reached}
use Rattle.sym_exec.proofs.address.reach.Goals as goal

pub returns-then-offset-eq0-clause-at : goal.returns-then-offset-eq0-clause-at
returns-then-offset-eq0-clause-at c = address-later c.in_ok-address.ensures.seen c.address_at-at.ensures.pass.later c.address_at-at.ensures.tree

pub returns-then-offset-eq0-clause-seen : goal.returns-then-offset-eq0-clause-seen
returns-then-offset-eq0-clause-seen c = still_seen c.address_at-at.ensures.pass.later.extends _ c.in_ok-address.ensures.seen

pub returns-then-offset-eq0-clause-tree : goal.returns-then-offset-eq0-clause-tree
returns-then-offset-eq0-clause-tree c = λ x h. still_tree c.address_at-at.ensures.pass.later.extends (c.in_ok-address.ensures.tree x h)

pub returns-clause-at : goal.returns-clause-at
returns-clause-at c =
    let sum = c.in_ok-address.ensures.tree c.requires.base.term c.requires.base.has in
    let is = rw (ne_eqb c.args.offset 0 c.if-offset-eq0.false) at sum in
    sum-reached (still_tree c.in_ok-address.ensures.pass.later.extends c.requires.base.has) (omega arith) is
