use Rattle.std.proofs.Common.{◌∙◌}
use Rattle.term_table.specs.Opens.{state_of}
use Rattle.term_table.proofs.Opening.{new_passes_more}
use Rattle.term_table.proofs.nodes.Nodes.deal_all.Goals as goal

pub loop-number-preserved : goal.loop-number-preserved
loop-number-preserved c =
    let was = c.loop-number.invariant in
    let dealt = c.deal-pass.ensures in
    let t = state_of c.args.self.now.table.shared.table_id c.args.self.now.size in (
      dealt.opener.0 ∙ was.0,
      dealt.opener.1,
      new_passes_more t c.loop-number.number c.loop-number.passes.items _ c.deal-pass.result was.2 dealt.pass c.in_ok-push.ensures.items,
    )
