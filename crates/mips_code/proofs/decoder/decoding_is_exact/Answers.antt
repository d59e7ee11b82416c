use Rattle.mips_code.proofs.Exact.{exact}
use Rattle.mips_code.proofs.decoder.decoding_is_exact.Goals as goal

pub returns : goal.returns
returns c = exact
