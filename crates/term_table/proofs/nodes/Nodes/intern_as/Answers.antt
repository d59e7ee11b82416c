use Rattle.std.proofs.Common.{rules, ◌≡◌, ◌<◌, ◌+◌, true, false, ap, refl, ◌∙◌, arith}
use Rattle.std.proofs.lemmas.Bool.{not-true, not-false}
use Rattle.term_table.specs.declared.view.Walk.{Walk}
use Rattle.term_table.proofs.Steps.{paired, begins_at, at_link, goes_on}
use Rattle.term_table.proofs.nodes.Nodes.intern_as.Goals as goal
use Rattle.term_table.proofs.nodes.Nodes.intern_as.Goals.{then-found-eq0+else-room-eq0+else-found-eq0-2, then-not-walk, else-not-walk, else-found-eq0}

pub loop-walk-init : goal.loop-walk-init
loop-walk-init g c = (
  refl,
  begins_at g.C.Act.begun _ c.args.seat.now.me c.requires.may c.requires.before c.requires.chain,
  c.requires.link,
  omega arith,
)

pub write_node-walk-requires-clause-before : goal.write_node-walk-requires-clause-before
write_node-walk-requires-clause-before g c =
    let b = g.C.Act.begun in
    let came = c.follow-found.ensures in
    let some : 0 < b.start.room = search rules in
    goes_on b (record c.loop-walk.walk { probes = c.loop-walk.walk.probes + 1 }) false c.follow-found.new.seat.me (not-true _ c.if-not-walk.true)
    (came.found.free c.if-found-eq0.true c.requires.call some) came.table.1

pub join-found-requires-clause-before : goal.join-found-requires-clause-before
join-found-requires-clause-before g c =
    let b = g.C.Act.begun in
    let came = c.follow-found.ensures in
    let some : 0 < b.start.room = search rules in
    elim c.if-not-walk.branch [
      | then-not-walk w ↦ rw (w.seat-is, w.walk-is ∙ w.write_node-walk.ensures.walk) w.write_node-walk.ensures.after
      | else-not-walk w ↦
          rw (w.seat-is, w.walk-is)
          (goes_on b (record c.loop-walk.walk { probes = c.loop-walk.walk.probes + 1 }) true c.follow-found.new.seat.me
          (not-false _ w.if-not-walk.false) (came.found.free c.if-found-eq0.true c.requires.call some) came.table.1)
    ]

pub same_content-requires-clause-before : goal.same_content-requires-clause-before
same_content-requires-clause-before g c =
    elim c.if-found-eq0.branch [
      | then-found-eq0+else-room-eq0+else-found-eq0-2 w ↦
          let is : w.if-not-walk.walk.written ≡ true =
          elim w.if-not-walk.branch [
            | then-not-walk x ↦ ap (λ (k : Walk). k.written) (x.walk-is ∙ x.write_node-walk.ensures.walk)
            | else-not-walk x ↦ ap (λ (k : Walk). k.written) x.walk-is ∙ not-false _ x.if-not-walk.false
          ] in
          let some : 0 < w.join-found.result = search rules in
          let lost = w.join-found.ensures.lost some in
          rw (w.seat-is, w.walk-is, is, w.found-is) (paired w.join-found.new.seat.me _ _ lost.0 w.join-found.ensures.table.1)
      | else-found-eq0 w ↦
          let came = c.follow-found.ensures in
          let some : 0 < c.follow-found.result = search rules in
          rw (w.seat-is, w.walk-is, w.found-is) (paired c.follow-found.new.seat.me _ _ (came.found.some some).0 came.table.1)
    ]

pub loop-walk-preserved : goal.loop-walk-preserved
loop-walk-preserved g c = (
  search rules,
  at_link g.C.Act.begun _ _ _ _ _ c.in-Some.ensures.differs c.in-Some.ensures.next,
  search rules,
  search rules,
)
