use Rattle.sym_exec.proofs.Tickets.{still_seen, still_tree, later_more, hold_on, known_on, get_seen, get_tree, err_always, lacks_here, lacks_next}
use Rattle.sym_exec.specs.Standing.{with_halves}
use Rattle.sym_exec.proofs.registers.TermRegisters.put_halves.Goals as goal

pub op_term-requires-2 : goal.op_term-requires-2
op_term-requires-2 c = let on = c.in_ok-hi.ensures.pass.later.extends in record {
  a = still_seen on c.get-x.result (get_seen c.requires c.get-x.ensures.value c.get-x.ensures.range);
  b = still_seen on c.get-y.result (get_seen c.requires c.get-y.ensures.value c.get-y.ensures.range);
}

pub returns-clause-known : goal.returns-clause-known
returns-clause-known c =
    let all = known_on (later_more c.in_ok-hi.ensures.pass.later c.in_ok-lo.ensures.pass.later) c.requires in
    record { regs = all.regs; hi = still_seen c.in_ok-lo.ensures.pass.later.extends c.in_ok-hi.hi c.in_ok-hi.ensures.seen; lo = c.in_ok-lo.ensures.seen }

pub returns-clause-hold : goal.returns-clause-hold
returns-clause-hold c = λ t h.
    let all = hold_on (later_more c.in_ok-hi.ensures.pass.later c.in_ok-lo.ensures.pass.later) h in
    let x = get_tree {t = t} h c.get-x.ensures.value c.get-x.ensures.range in
    let y = get_tree {t = t} h c.get-y.ensures.value c.get-y.ensures.range in
    let on = c.in_ok-hi.ensures.pass.later.extends in record {
      regs = all.regs;
      hi = still_tree c.in_ok-lo.ensures.pass.later.extends (c.in_ok-hi.ensures.tree _ _ x y);
      lo = c.in_ok-lo.ensures.tree _ _ (still_tree on x) (still_tree on y);
    }

pub returns-in_err-hi-clause-absent : goal.returns-in_err-hi-clause-absent
returns-in_err-hi-clause-absent c = λ t h.
    let x = get_tree {t = t} h c.get-x.ensures.value c.get-x.ensures.range in
    let y = get_tree {t = t} h c.get-y.ensures.value c.get-y.ensures.range in
    err_always _ (lacks_here (c.in_err-hi.ensures.absent _ _ x y))

pub returns-in_err-lo-clause-absent : goal.returns-in_err-lo-clause-absent
returns-in_err-lo-clause-absent c = λ t h.
    let x = get_tree {t = t} h c.get-x.ensures.value c.get-x.ensures.range in
    let y = get_tree {t = t} h c.get-y.ensures.value c.get-y.ensures.range in
    let on = c.in_ok-hi.ensures.pass.later.extends in
    err_always _ (lacks_next (with_halves c.args.high c.args.low c.args.a c.args.b t).hi
    (lacks_here (c.in_err-lo.ensures.absent _ _ (still_tree on x) (still_tree on y))))
