use Rattle.std.proofs.Common.{length}
use Rattle.rtl_emit.proofs.expression.+operands_into.Given as goal

abbrev pub decreases-operands_into : goal.decreases-operands_into
decreases-operands_into l = length l.es.now
