use Rattle.std.proofs.Common.{subst}
use Rattle.std.specs.Prelude.{IfSome}
use Rattle.term_table.proofs.Meanings.{still_means, learns_means, same_means}
use Rattle.example_circuits.specs.Encoded.{IsOutput}
use Rattle.example_circuits.proofs.threads.are_alike_by_two.Goals as goal

pub returns : goal.returns
returns g c =
    let one = subst (λ r. IfSome r (IsOutput c.in_ok-table.table c.args.left.now)) c.in_ok-one.was c.join-one.ensures.first in
    let other = subst (λ r. IfSome r (IsOutput c.in_ok-table.table c.args.right.now)) c.in_ok-other.was c.join-one.ensures.second in
    let learnt = learns_means c.learn.ensures.learns (learns_means c.note-note.ensures.learns one.means) in
    same_means c.same_term.ensures.same learnt (still_means c.learn.ensures.extends other.means)
