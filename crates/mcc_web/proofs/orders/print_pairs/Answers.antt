use Rattle.std.proofs.Common.{ℕ, List, sym, subst}
use Rattle.std.specs.Io.KnownBytes.{Appends}
use Rattle.mcc_web.proofs.Pairs.{appends_on, pairs_taken}
use Rattle.mcc_web.proofs.orders.print_pairs.Goals as goal

pub loop-number-preserved : goal.loop-number-preserved
loop-number-preserved g c =
    let contents = g.W.Write.contents in
    let more = pairs_taken c.loop-number.number c.args.owners.now c.args.blocks.now c.args.orders.now c.index-owners-number.result
    c.index-blocks-number.result c.index-orders-number.result c.requires.owners c.requires.orders c.loop-number-test.true
    c.index-owners-number.is c.index-blocks-number.is c.index-orders-number.is in
    subst (λ (t : List ℕ). Appends (contents c.args.out.now) (contents c.print_pair.new.out) t) (sym more)
    (appends_on _ _ _ _ _ c.loop-number.invariant c.in_ok-print_pair.ensures)
