use Rattle.std.proofs.Common.{◌≡◌, ◌∙◌, Bor, Some, ap, length, sym, rules, arith}
use Rattle.std.specs.List.{slice_get}
use Rattle.std.specs.Option.{option_map}
use Rattle.std.proofs.lemmas.List.{length-map}
use Rattle.runs.proofs.Lookups.{past}
use Rattle.rtl.specs.declared.block.RBlock.{RBlock}
use Rattle.rtl.proofs.Calls.{entered, function-at, calls-nothing, calls-too-deep, calls-with-others, calls-no-block}
use Rattle.rtl.proofs.interpreter.enter.Goals as goal

pub returns : goal.returns
returns c vs is =
    let x = c.in-Some.function.now in
    let entry = c.in-Some-block_at.entry.now in
    let there = function-at c.args.program.now c.functions.result c.args.callee.function c.get.result c.in-Some.function c.functions.ensures.value
    c.get.ensures.lookup.0 c.get.ensures.lookup.1 c.in-Some.is in
    let first : slice_get x.blocks.items 0 ≡ Some entry =
    rw (sym c.as_slice-blocks.ensures.value) (sym c.block_at.ensures ∙ ap (option_map (λ (b : Bor RBlock). b.now)) c.in-Some-block_at.is) in
    let same : length c.args.registers.items ≡ length vs = search (rules, length-map, is) in
    let count : length vs ≡ x.parameters = omega (arith, same, c.if-len-function.false, c.len.ensures, c.args.registers.ok.0) in
    entered c.args.program.now c.args.depth c.args.callee.function vs c.args.callee.result_to c.args.interpreter.now x entry c.enter.new.self
    c.first_frame-frame.result c.args.registers.items c.as_slice-blocks.result.now there (sym c.has_room.ensures ∙ c.if-not-has_room.false) count first
    c.in_ok-enter.ensures.calls c.enter.ensures.globals c.enter.ensures.output c.first_frame-frame.ensures is c.as_slice-blocks.ensures.value

pub returns-in_default : goal.returns-in_default
returns-in_default c vs is =
    calls-nothing c.args.program.now c.args.depth c.args.callee.function vs c.args.callee.result_to c.args.interpreter.now
    (past c.args.program.now.functions c.args.callee.function c.get.result (rw (sym c.functions.ensures.value) c.get.ensures.lookup.0) c.in_default.is)

pub returns-then-not-has_room : goal.returns-then-not-has_room
returns-then-not-has_room c vs is =
    calls-too-deep c.args.program.now c.args.depth c.args.callee.function vs c.args.callee.result_to c.args.interpreter.now c.in-Some.function.now
    (function-at c.args.program.now c.functions.result c.args.callee.function c.get.result c.in-Some.function c.functions.ensures.value
    c.get.ensures.lookup.0 c.get.ensures.lookup.1 c.in-Some.is)
    (sym c.has_room.ensures ∙ c.if-not-has_room.true)

pub returns-then-len-function : goal.returns-then-len-function
returns-then-len-function c vs is =
    let same : length c.args.registers.items ≡ length vs = search (rules, length-map, is) in
    calls-with-others c.args.program.now c.args.depth c.args.callee.function vs c.args.callee.result_to c.args.interpreter.now c.in-Some.function.now
    (function-at c.args.program.now c.functions.result c.args.callee.function c.get.result c.in-Some.function c.functions.ensures.value
    c.get.ensures.lookup.0 c.get.ensures.lookup.1 c.in-Some.is)
    (λ e. omega (arith, e, same, c.if-len-function.true, c.len.ensures, c.args.registers.ok.0))

pub returns-in_default-block_at : goal.returns-in_default-block_at
returns-in_default-block_at c vs is =
    calls-no-block c.args.program.now c.args.depth c.args.callee.function vs c.args.callee.result_to c.args.interpreter.now c.in-Some.function.now
    (function-at c.args.program.now c.functions.result c.args.callee.function c.get.result c.in-Some.function c.functions.ensures.value
    c.get.ensures.lookup.0 c.get.ensures.lookup.1 c.in-Some.is)
    (rw (sym c.as_slice-blocks.ensures.value) (sym c.block_at.ensures ∙ ap (option_map (λ (b : Bor RBlock). b.now)) c.in_default-block_at.is))
