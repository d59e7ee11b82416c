use Rattle.block_validator.proofs.Deciding.{one_decision}
use Rattle.block_validator.proofs.verdict.one_verdict.Goals as goal

pub returns : goal.returns
returns c = one_decision
