use Rattle.std.proofs.Common.{refl, arith}
use Rattle.std.proofs.lemmas.List.{append-nil, drop_all}
use Rattle.mips_emit.specs.Locations.{facts_of}
use Rattle.mips_emit.specs.Code.{context_of}
use Rattle.mips_emit.specs.Prefixes.{emission}
use Rattle.mips_emit.proofs.Emitted.{insts_more, stops_before, stops_last, all_emitted, all_known, last_known}
use Rattle.mips_emit.proofs.Prefixes.{whole_prefix, at_err}
use Rattle.mips_emit.proofs.inst.emit_insts.Goals as goal

pub loop-inst-preserved : goal.loop-inst-preserved
loop-inst-preserved c = insts_more (context_of c.args.setting.now) c.args.asked c.args.insts.now (emission (facts_of c.args.facts.now) c.args.code.now.items)
    (emission (facts_of c.loop-inst.facts) c.loop-inst.code.items) (emission _ _) c.loop-inst.inst-index c.loop-inst.left _ c.loop-inst-test.true
    c.if-left-eq0.false c.in_ok-emit_inst.ensures c.in_ok-learn.ensures.is c.loop-inst.invariant

pub loop-inst-init : goal.loop-inst-init
loop-inst-init c = (omega arith, refl, refl, refl, λ final now s. s)

pub returns-clause-code : goal.returns-clause-code
returns-clause-code c = rw (drop_all c.loop-inst.inst-index c.args.insts.now c.loop-inst-test.false, append-nil) at c.loop-inst.invariant.1

pub returns-clause-last : goal.returns-clause-last
returns-clause-last c = rw (drop_all c.loop-inst.inst-index c.args.insts.now c.loop-inst-test.false) at c.loop-inst.invariant.3

pub returns-clause-known : goal.returns-clause-known
returns-clause-known c = rw (drop_all c.loop-inst.inst-index c.args.insts.now c.loop-inst-test.false) at c.loop-inst.invariant.2

pub returns-in_err-emit_inst-clause-left : goal.returns-in_err-emit_inst-clause-left
returns-in_err-emit_inst-clause-left c = at_err c.from_residual-in_err-emit_inst.result (stops_before (context_of c.args.setting.now) c.args.asked c.args.insts.now
    (emission (facts_of c.args.facts.now) c.args.code.now.items) (emission (facts_of c.loop-inst.facts) c.loop-inst.code.items) c.loop-inst.inst-index
    c.loop-inst.left _ (facts_of c.loop-inst.facts) c.emit_inst.new.code.items c.loop-inst-test.true
    c.if-left-eq0.false refl c.in_err-emit_inst.ensures c.loop-inst.invariant)

pub returns-in_err-learn-clause-left : goal.returns-in_err-learn-clause-left
returns-in_err-learn-clause-left c = at_err c.from_residual-in_err-learn.result (stops_before (context_of c.args.setting.now) c.args.asked c.args.insts.now
    (emission (facts_of c.args.facts.now) c.args.code.now.items) (emission (facts_of c.loop-inst.facts) c.loop-inst.code.items) c.loop-inst.inst-index
    c.loop-inst.left _ (facts_of c.learn.new.facts) c.emit_inst.new.code.items c.loop-inst-test.true
    c.if-left-eq0.false c.in_err-learn.ensures.kept (whole_prefix _ _ _ c.in_ok-emit_inst.ensures) c.loop-inst.invariant)

pub returns-in_err-last-clause-left : goal.returns-in_err-last-clause-left
returns-in_err-last-clause-left c = at_err c.from_residual.result (stops_last (context_of c.args.setting.now) c.args.asked c.args.insts.now
    (emission (facts_of c.args.facts.now) c.args.code.now.items) (emission (facts_of c.loop-inst.facts) c.loop-inst.code.items) c.loop-inst.inst-index
    c.loop-inst.left _ (facts_of c.emit_last.new.facts) c.emit_last.new.code.items c.loop-inst-test.true
    c.if-left-eq0.true c.in_err-last.ensures.kept c.in_err-last.ensures.code c.loop-inst.invariant)

pub returns-then-left-eq0-clause-code : goal.returns-then-left-eq0-clause-code
returns-then-left-eq0-clause-code c = all_emitted (context_of c.args.setting.now) c.args.asked c.args.insts.now
    (emission (facts_of c.args.facts.now) c.args.code.now.items) (emission (facts_of c.loop-inst.facts) c.loop-inst.code.items) c.loop-inst.inst-index
    c.loop-inst.left _ (facts_of c.emit_last.new.facts) c.emit_last.new.code.items c.loop-inst-test.true
    c.if-left-eq0.true c.in_ok-last.ensures.code c.loop-inst.invariant

pub returns-then-left-eq0-clause-known : goal.returns-then-left-eq0-clause-known
returns-then-left-eq0-clause-known c = all_known (context_of c.args.setting.now) c.args.asked c.args.insts.now
    (emission (facts_of c.args.facts.now) c.args.code.now.items) (emission (facts_of c.loop-inst.facts) c.loop-inst.code.items) c.loop-inst.inst-index
    c.loop-inst.left _ (facts_of c.emit_last.new.facts) c.emit_last.new.code.items c.loop-inst-test.true
    c.if-left-eq0.true c.in_ok-last.ensures.known c.loop-inst.invariant

pub returns-then-left-eq0-clause-last : goal.returns-then-left-eq0-clause-last
returns-then-left-eq0-clause-last c = last_known (context_of c.args.setting.now) c.args.asked c.args.insts.now
    (emission (facts_of c.args.facts.now) c.args.code.now.items) (emission (facts_of c.loop-inst.facts) c.loop-inst.code.items) c.loop-inst.inst-index
    c.loop-inst.left _ (facts_of c.emit_last.new.facts) c.emit_last.new.code.items c.loop-inst-test.true
    c.in_ok-last.last c.if-left-eq0.true c.in_ok-last.ensures.last c.loop-inst.invariant
