use Rattle.std.proofs.Common.{◌≡◌, ◌+◌, suc, append_assoc, arith}
use Rattle.mips_emit.specs.Locations.{locations}
use Rattle.mips_select.proofs.Blocks.{parameters_more}
use Rattle.mips_select.proofs.prologue.emit_parameters.Goals as goal

pub loop-x-preserved : goal.loop-x-preserved
loop-x-preserved c =
    let x = c.loop-x.x in
    let next : x + 1 ≡ suc x = omega arith in
    let more = parameters_more (locations c.args.frame.now) 4 0 x x c.register.result (omega arith) c.register.ensures in
    rw (c.in_ok-emit_arrival.ensures, c.loop-x.invariant, next, more) (simp append_assoc)

pub returns : goal.returns
returns c = (let same : c.loop-x.x ≡ c.args.n = omega (arith, c.loop-x.auto.x-end, c.loop-x-test.false) in rw (← same) c.loop-x.invariant)
