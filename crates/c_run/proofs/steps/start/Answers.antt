use Rattle.std.proofs.Common.{refl, sym, length}
use Rattle.std.proofs.lemmas.Option.{slice_get_read}
use Rattle.c_run.proofs.Calls.{new-frame, starts, unset-locals}
use Rattle.c_run.proofs.steps.start.Goals as goal

pub returns : goal.returns
returns c =
    let x = c.index-functions-main.result in
    let there = slice_get_read c.functions.result.now (length c.functions.result.now) c.main.result x refl (rw c.functions.ensures.value c.main.ensures.there)
    c.index-functions-main.is in
    let f = new-frame c.new.result c.of.result c.as_slice.result x _ _ (unset-locals c.new.result.items c.new.ensures.items) c.of.ensures
    c.as_slice.ensures.value in
    starts c.args.program.now x c.new-2.result _ c.in_ok-globals.globals (rw (sym c.functions.ensures.value, sym c.main.ensures.value) there)
    c.new-2.ensures.calls c.new-2.ensures.globals c.new-2.ensures.output f c.in_ok-globals.ensures
