use Rattle.std.proofs.Common.{refl}
use Rattle.mips_select.specs.Data.{bare_bytes}
use Rattle.mips_select.proofs.Lists.{all_made}
use Rattle.mips_select.proofs.globals.push_bare.Goals as goal

pub returns : goal.returns
returns c = all_made bare_bytes c.args.globals.now c.loop-global.global-index c.loop-global-test.false refl c.loop-global.invariant
