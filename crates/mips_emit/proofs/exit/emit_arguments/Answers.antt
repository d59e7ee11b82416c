use Rattle.std.proofs.Common.{arith, append_assoc}
use Rattle.std.proofs.lemmas.List.{append-nil, drop_all}
use Rattle.mips_emit.specs.Locations.{facts_of, locations}
use Rattle.mips_emit.proofs.Emitted.{arguments_next}
use Rattle.mips_emit.proofs.Prefixes.{prefix_behind, prefix_before, at_prefix}
use Rattle.mips_emit.proofs.exit.emit_arguments.Goals as goal

pub returns-in_err-emit_departure : goal.returns-in_err-emit_departure
returns-in_err-emit_departure c =
    let next = arguments_next (locations c.args.frame.now) (facts_of c.args.facts.now) c.loop-x.t c.register.result c.loop-x.x-index 0 c.args.arguments.now
    c.loop-x-test.true c.register.ensures in
    at_prefix c.from_residual.result _ _ _ c.from_residual.ensures.0 (c.loop-x.invariant.2 _ (rw next (prefix_before _ _ _ _ c.in_err-emit_departure.ensures)))

pub loop-x-preserved : goal.loop-x-preserved
loop-x-preserved c =
    let next = arguments_next (locations c.args.frame.now) (facts_of c.args.facts.now) c.loop-x.t c.register.result c.loop-x.x-index 0 c.args.arguments.now
    c.loop-x-test.true c.register.ensures in
    let made = c.in_ok-emit_departure.ensures in (
      omega (arith, c.loop-x.invariant.0),
      rw (made, append_assoc, ← next) c.loop-x.invariant.1,
      λ now some. c.loop-x.invariant.2 now (rw next (prefix_behind _ _ now _ _ made some)),
    )

pub returns : goal.returns
returns c = rw (drop_all c.loop-x.x-index c.args.arguments.now c.loop-x-test.false, append-nil) at c.loop-x.invariant.1
