use Rattle.std.proofs.Common.{arith, length-set, ◌∙◌}
use Rattle.mips_machine.specs.Views.{machine_of}
use Rattle.mcc_web.proofs.Words.{holds_more}
use Rattle.mcc_web.proofs.machines.words_from.Goals as goal

pub loop-k-preserved : goal.loop-k-preserved
loop-k-preserved c = (
  length-set c.loop-k.words c.loop-k.k c.in-Ok.word ∙ c.loop-k.invariant.0,
  holds_more (machine_of c.args.machine.now) c.args.address c.loop-k.k c.in-Ok.word c.loop-k.words
      (omega (arith, c.loop-k-test.true, c.loop-k.invariant.0)) c.in-Ok.ensures.rule c.in-Ok.ensures.word c.loop-k.invariant.1,
)
