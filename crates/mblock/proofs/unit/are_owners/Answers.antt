use Rattle.std.proofs.Common.{◌≡◌, ℕ, ◌<◌, Some, slice_get, slice_index, length, sym, subst, ◌∙◌, arith}
use Rattle.std.proofs.lemmas.List.{get_or_default}
use Rattle.std.proofs.lemmas.Option.{same_Some, slice_get-get_or}
use Rattle.mblock.specs.Parts.{BlockParts}
use Rattle.mblock.specs.Units.{Continues, BranchesWithin}
use Rattle.mblock.proofs.Elements.{one_more}
use Rattle.mblock.proofs.unit.are_owners.Goals as goal

pub loop-i-preserved : goal.loop-i-preserved
loop-i-preserved c =
    let blocks = c.args.blocks.now in
    let owner = c.args.owner.now in
    let k = c.loop-i.i in
    let inside = c.loop-i-test.true in
    let was = c.loop-i.invariant in
    let o = c.index-owner-i.result in
    let b = c.index-blocks-i.result in
    let read : slice_index owner k ≡ o = get_or_default owner k 0 o inside ∙ sym c.index-owner-i.is in
    let continues = subst (Continues owner k) read (c.continues.ensures.0 c.if-not-continues.false) in
    let within = subst (BranchesWithin owner o) c.exit.ensures (c.branches_within.ensures.0 c.if-not-branches_within.false) in
    let Within : ℕ → BlockParts → Type 0 = λ i x. (p : ℕ) → slice_get owner i ≡ Some p → BranchesWithin owner p x.exit in
    let long : k < length blocks = omega (arith, c.if-owner-blocks.false, inside) in
    let here : Within k b = λ p at.
    let same : o ≡ p = c.index-owner-i.is ∙ same_Some _ p (sym (slice_get-get_or owner k o inside) ∙ at) in
    subst (λ q. BranchesWithin owner q b.exit) same within in
    let all = one_more Within blocks k b long c.index-blocks-i.is here (λ i x low at p own. was.within i p x low at own) in
    record {
      continues = one_more (Continues owner) owner k o inside c.index-owner-i.is continues was.continues;
      within = λ i p x low at own. all i x low at p own;
    }
