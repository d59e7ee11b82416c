use Rattle.std.proofs.Common.{sym, subst, ◌∙◌, arith}
use Rattle.rtl_emit.specs.Blocks.{open_code, At}
use Rattle.rtl_emit.proofs.Blocks.{coded, at_seam, one_longer, insts_push}
use Rattle.rtl_emit.proofs.Sound.{sound_push}
use Rattle.rtl_emit.proofs.block.seal.Goals as goal

pub returns-clause-at : goal.returns-clause-at
returns-clause-at c = λ bs h.
    subst (λ n. At bs n (open_code c.args.code)) (sym (c.len-number.ensures ∙ c.args.blocks.now.ok.0))
    (at_seam bs _ _ _ (open_code c.args.code) c.in_ok-put_block.ensures.added (coded c.reverse.ensures.items) h)

pub returns-clause-insts : goal.returns-clause-insts
returns-clause-insts c = insts_push _ _ _ (open_code c.args.code) c.in_ok-put_block.ensures.added (coded c.reverse.ensures.items)

pub returns-clause-sound : goal.returns-clause-sound
returns-clause-sound c = λ s n g h.
    let e = one_longer _ _ _ c.in_ok-put_block.ensures.added in (
      sound_push s _ _ _ (open_code c.args.code) c.in_ok-put_block.ensures.added (coded c.reverse.ensures.items) g h,
      omega (arith, n, e, c.len-number.ensures ∙ c.args.blocks.now.ok.0),
    )
