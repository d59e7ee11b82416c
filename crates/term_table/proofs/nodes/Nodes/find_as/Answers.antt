use Rattle.std.proofs.Common.{rules, ◌<◌, refl, arith}
use Rattle.term_table.proofs.Steps.{paired, begins_at, at_link}
use Rattle.term_table.proofs.nodes.Nodes.find_as.Goals as goal

pub loop-walk-init : goal.loop-walk-init
loop-walk-init g c = (
  refl,
  begins_at g.C.Act.begun _ c.args.seat.now.me c.requires.may c.requires.before c.requires.chain,
  c.requires.link,
  omega arith,
)

pub same_content-requires-clause-before : goal.same_content-requires-clause-before
same_content-requires-clause-before g c =
    let some : 0 < c.follow-found.result = search rules in
    paired c.follow-found.new.seat.me _ _ (c.follow-found.ensures.found.some some).0 c.follow-found.ensures.table.1

pub loop-walk-preserved : goal.loop-walk-preserved
loop-walk-preserved g c = (
  search rules,
  at_link g.C.Act.begun _ _ _ _ _ c.in-Some.ensures.differs c.in-Some.ensures.next,
  search rules,
  search rules,
)
