use Rattle.std.proofs.Common.{◌∙◌, sym, arith}
use Rattle.sym_exec.proofs.Tickets.{still_seen, still_tree, goes_on, goes_more, interns_by}
use Rattle.sym_exec.proofs.terms.sum_term.Goals as goal

pub constant_sum_term-requires : goal.constant_sum_term-requires
constant_sum_term-requires c = still_seen c.constant_at.ensures.pass.later.extends c.args.a c.requires.a

pub binary-requires-clause-a : goal.binary-requires-clause-a
binary-requires-clause-a c = still_seen c.constant_at.ensures.pass.later.extends c.args.a c.requires.a

pub binary-requires-clause-b : goal.binary-requires-clause-b
binary-requires-clause-b c = still_seen c.constant_at.ensures.pass.later.extends c.args.b c.requires.b

pub returns-in-Some : goal.returns-in-Some
returns-in-Some c =
    let at = c.constant_at.ensures in
    let sum = c.constant_sum_term.ensures in
    record {
      seen = sum.seen;
      tree = λ x y h k. rw (sym (at.value y k) ∙ c.in-Some.is) (sum.tree x y (still_tree at.pass.later.extends h));
      absent = λ x y h k. rw (sym (at.value y k) ∙ c.in-Some.is) (sum.absent x y (still_tree at.pass.later.extends h));
      pass = interns_by (goes_more at.pass (goes_on sum.pass)) sum.pass.full;
      grows = omega (arith, sum.grows, at.stays);
    }

pub returns-in-None : goal.returns-in-None
returns-in-None c =
    let at = c.constant_at.ensures in
    let on = at.pass.later.extends in
    let made = c.binary.ensures in
    record {
      seen = made.seen;
      tree = λ x y h k. rw (sym (at.value y k) ∙ c.in-None.is) (made.tree x y (still_tree on h) (still_tree on k));
      absent = λ x y h k. rw (sym (at.value y k) ∙ c.in-None.is) (made.absent x y (still_tree on h) (still_tree on k));
      pass = interns_by (goes_more at.pass (goes_on made.pass)) made.pass.full;
      grows = omega (arith, made.grows, at.stays);
    }
