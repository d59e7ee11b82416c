use Rattle.c_front.proofs.Theorems.{first-wrong}
use Rattle.c_front.proofs.declaration.fault_at.Goals as goal

pub overflow_sub-result : goal.overflow_sub-result
overflow_sub-result c = (first-wrong _ _ (rw c.in-Syntax.is at c.requires)).0

pub returns-in-Syntax : goal.returns-in-Syntax
returns-in-Syntax c = (first-wrong _ _ (rw c.in-Syntax.is at c.requires)).1
