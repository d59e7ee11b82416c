use Rattle.std.proofs.Common.{refl}
use Rattle.mips_select.specs.Data.{padded_bytes}
use Rattle.mips_select.proofs.Lists.{made_more, all_made}
use Rattle.mips_select.proofs.globals.padded_bytes.Goals as goal

pub loop-global-preserved : goal.loop-global-preserved
loop-global-preserved c =
    rw c.in_ok-push_global.ensures (made_more padded_bytes c.args.globals.now c.loop-global.global-index _ _ _ c.loop-global-test.true c.global-item.is refl
    c.loop-global.invariant)

pub returns : goal.returns
returns c = all_made padded_bytes c.args.globals.now c.loop-global.global-index c.loop-global-test.false refl c.loop-global.invariant
