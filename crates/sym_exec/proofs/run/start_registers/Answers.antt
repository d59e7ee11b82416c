use Rattle.std.proofs.Common.{rules, refl, ◌≡◌, ◌<◌, length, ◌∙◌, arith}
use Rattle.std.proofs.Math.ListN.{length-set}
use Rattle.sym_exec.proofs.Tickets.{still_tree, tree_seen, later_more, goes_on, goes_more, interns_by}
use Rattle.sym_exec.proofs.Tickets.{set_at, start_of, err_always, lacks_here, lacks_next, lacks_start}
use Rattle.sym_exec.specs.MipsTerms.{HasTree}
use Rattle.sym_exec.specs.Symbolic.{start_trees, register_tree}
use Rattle.sym_exec.specs.Asked.{asked_first}
use Rattle.sym_exec.proofs.run.start_registers.Goals as goal

pub loop-r-init : goal.loop-r-init
loop-r-init c = record {
  goes = goes_on c.in_ok-zero.ensures.pass;
  grows = omega (arith, c.in_ok-zero.ensures.grows);
  count = refl;
  stands = λ q lt. let e : q ≡ 0 = omega arith in rw e c.in_ok-zero.ensures.tree;
}

pub loop-r-preserved : goal.loop-r-preserved
loop-r-preserved c =
    let more = c.in_ok-regs.ensures.pass.later in
    let k = c.loop-r.r in
    let regs = c.loop-r.regs in
    let inside : k < length regs = (let n = c.loop-r.invariant.count in omega (arith, n, c.loop-r-test.true)) in
    record {
      goes = goes_more c.loop-r.invariant.goes (goes_on c.in_ok-regs.ensures.pass);
      grows = omega (arith, c.loop-r.invariant.grows, c.in_ok-regs.ensures.grows, c.loop-r-test.true);
      count = length-set regs k c.in_ok-regs.field-0 ∙ c.loop-r.invariant.count;
      stands = λ q lt.
          set_at (λ v. HasTree c.start_reg.new.terms.pass.now v (register_tree start_trees q)) regs k c.in_ok-regs.field-0 q inside
          (λ same. rw (same, start_of k c.loop-r.auto.r) c.in_ok-regs.ensures.tree)
          (λ other. still_tree more.extends (c.loop-r.invariant.stands q (omega (arith, lt, other))));
    }

pub returns-clause-hold : goal.returns-clause-hold
returns-clause-hold c = let last = c.in_ok-lo.ensures.pass.later in record {
  regs = λ r lt. still_tree (later_more c.in_ok-hi.ensures.pass.later last).extends (c.loop-r.invariant.stands r (omega (arith, lt, c.loop-r-test.false)));
  hi = still_tree last.extends c.in_ok-hi.ensures.tree;
  lo = c.in_ok-lo.ensures.tree;
}

pub returns-clause-known : goal.returns-clause-known
returns-clause-known c =
    let trees = returns-clause-hold c in
    record { regs = λ r lt. tree_seen (trees.regs r lt); hi = tree_seen trees.hi; lo = tree_seen trees.lo }

pub returns-clause-pass : goal.returns-clause-pass
returns-clause-pass c =
    interns_by (goes_more c.loop-r.invariant.goes (goes_more (goes_on c.in_ok-hi.ensures.pass) (goes_on c.in_ok-lo.ensures.pass))) tt

pub returns-in_err-regs-clause-pass : goal.returns-in_err-regs-clause-pass
returns-in_err-regs-clause-pass c = interns_by (goes_more c.loop-r.invariant.goes (goes_on c.in_err-regs.ensures.pass)) (search rules)

pub returns-in_err-hi-clause-pass : goal.returns-in_err-hi-clause-pass
returns-in_err-hi-clause-pass c = interns_by (goes_more c.loop-r.invariant.goes (goes_on c.in_err-hi.ensures.pass)) (search rules)

pub returns-in_err-lo-clause-pass : goal.returns-in_err-lo-clause-pass
returns-in_err-lo-clause-pass c =
    interns_by (goes_more (goes_more c.loop-r.invariant.goes (goes_on c.in_ok-hi.ensures.pass)) (goes_on c.in_err-lo.ensures.pass)) (search rules)

pub returns-in_err-zero-clause-absent : goal.returns-in_err-zero-clause-absent
returns-in_err-zero-clause-absent c = err_always _ (lacks_start 0 (omega arith) c.in_err-zero.ensures.absent)

pub returns-in_err-regs-clause-absent : goal.returns-in_err-regs-clause-absent
returns-in_err-regs-clause-absent c =
    err_always _ (lacks_start c.loop-r.r c.loop-r-test.true (rw (start_of c.loop-r.r c.loop-r.auto.r) c.in_err-regs.ensures.absent))

pub returns-in_err-hi-clause-absent : goal.returns-in_err-hi-clause-absent
unfolding asked_first
returns-in_err-hi-clause-absent c = err_always _ (lacks_next start_trees.memory (lacks_here c.in_err-hi.ensures.absent))

pub returns-in_err-lo-clause-absent : goal.returns-in_err-lo-clause-absent
unfolding asked_first
returns-in_err-lo-clause-absent c = err_always _ (lacks_next start_trees.memory (lacks_next start_trees.hi (lacks_here c.in_err-lo.ensures.absent)))
