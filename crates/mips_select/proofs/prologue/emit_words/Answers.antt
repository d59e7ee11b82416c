use Rattle.std.proofs.Common.{get_or, refl, arith}
use Rattle.std.proofs.lemmas.List.{get_or_default}
use Rattle.mips_select.specs.Code.{frame_words}
use Rattle.std.proofs.lemmas.Option.{slice_get-get_or}
use Rattle.mips_select.proofs.Lists.{made_more, all_made}
use Rattle.mips_select.proofs.prologue.emit_words.Goals as goal

pub register-requires : goal.register-requires
register-requires c = omega (arith, c.requires.registers _ _ (slice_get-get_or c.args.registers.now c.loop-r.r-index 0 c.loop-r-test.true))

pub loop-r-preserved : goal.loop-r-preserved
loop-r-preserved c =
    let rs = c.args.registers.now in
    let i = c.loop-r.r-index in
    let place = c.loop-r.invariant.0 in (
      omega (arith, place),
      rw (c.in_ok-emit_word.ensures, c.register.ensures) (made_more (frame_words c.args.direction c.loop-r.place) rs i _ _ _ c.loop-r-test.true
          (get_or_default rs i 0 (get_or rs i 0) c.loop-r-test.true) refl c.loop-r.invariant.1),
    )

pub returns : goal.returns
returns c = all_made (frame_words c.args.direction c.loop-r.place) c.args.registers.now c.loop-r.r-index c.loop-r-test.false refl c.loop-r.invariant.1
