use Rattle.std.proofs.Common.{refl}
use Rattle.std.proofs.lemmas.List.{nil_from_length}
use Rattle.c_statements.proofs.symbol_table.named_at.Goals as goal

pub returns-then-is_empty-clause-none : goal.returns-then-is_empty-clause-none
returns-then-is_empty-clause-none c = rw (nil_from_length _ (c.is_empty.ensures.0 c.if-is_empty.true)) refl
