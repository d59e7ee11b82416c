use Rattle.std.proofs.Common.{◌≡◌, suc, ◌-◌, ◌<◌, length, refl, ap, ◌∙◌, arith}
use Rattle.std.proofs.lemmas.Option.{slice_get_read}
use Rattle.mblock.specs.OrderMeaning.{exit_touches}
use Rattle.mblock.specs.CleanTests.{loads_named}
use Rattle.mblock.proofs.WordPlaces.{end_test, some_length}
use Rattle.mblock.proofs.delays.is_quiet_end.Goals as goal

pub returns : goal.returns
returns c =
    let some : 0 < length c.args.insts.now = some_length (length c.args.insts.now) c.if-is_empty.ensures in
    let low : length c.args.insts.now - 1 < length c.args.insts.now = omega (arith, some) in
    let last : suc (length c.args.insts.now - 1) ≡ length c.args.insts.now = omega (arith, some) in
    end_test c.args.insts.now (exit_touches c.args.exit.now) (length c.args.insts.now - 1) c.index-insts-last.result c.loads_for_exit.result
    (slice_get_read c.args.insts.now (length c.args.insts.now)
    (length c.args.insts.now - 1) c.index-insts-last.result refl low c.index-insts-last.is) last
    (c.loads_for_exit.ensures ∙ ap (λ a. loads_named a (exit_touches c.args.exit.now)) c.action.ensures)
