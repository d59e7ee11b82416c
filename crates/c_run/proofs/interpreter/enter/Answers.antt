use Rattle.std.proofs.Common.{◌∙◌, ap, sym}
use Rattle.runs.specs.Kept.{places}
use Rattle.runs.proofs.Kept.{places-set_to}
use Rattle.runs.proofs.Lookups.{found, past}
use Rattle.c_run.proofs.Calls.{new-frame, entered, refused, called-nowhere}
use Rattle.c_run.proofs.interpreter.enter.Goals as goal

pub returns-in_default : goal.returns-in_default
returns-in_default c vs is =
    let nowhere = past c.functions.result.now c.args.function c.get.result c.get.ensures.lookup.0 c.in_default.is in
    called-nowhere c.args.program.now c.args.depth c.args.function vs c.args.to c.args.interpreter.now (rw (sym c.functions.ensures.value) nowhere)

pub returns-then-not-has_room : goal.returns-then-not-has_room
returns-then-not-has_room c vs is =
    refused c.args.program.now c.args.depth c.args.function vs c.args.to c.args.interpreter.now (sym c.has_room.ensures ∙ c.if-not-has_room.true)

pub returns : goal.returns
returns c vs is =
    let x = c.in-Some.function.now in
    let f = new-frame c.args.values c.of.result c.as_slice.result x c.args.to _ (ap places is ∙ places-set_to vs) c.of.ensures
    c.as_slice.ensures.value in
    let there = found c.args.program.now.functions c.args.function c.get.result c.in-Some.function
    (rw (sym c.functions.ensures.value) c.get.ensures.lookup.0) (rw (sym c.functions.ensures.value) c.get.ensures.lookup.1) c.in-Some.is in
    entered c.args.program.now c.args.depth c.args.function vs c.args.to c.args.interpreter.now x c.enter.new.self _ there
    (sym c.has_room.ensures ∙ c.if-not-has_room.false) c.in_ok-enter.ensures.calls c.enter.ensures.globals c.enter.ensures.output f
