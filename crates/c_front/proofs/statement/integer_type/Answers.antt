use Rattle.std.proofs.Common.{refl}
use Rattle.c_front.specs.Grammar.{maybe_int, is_the, type_int, type_unsigned, int_none, int_some}
use Rattle.c_front.specs.Reading.{read_nothing}
use Rattle.c_front.proofs.Steps.{whole, taken}
use Rattle.c_front.proofs.Choices.{otherwise}
use Rattle.c_front.proofs.statement.integer_type.Goals as goal

pub returns-in-Some-clause-some : goal.returns-in-Some-clause-some
returns-in-Some-clause-some c = taken type_int is_the c.in-Some.ensures.some refl read_nothing

pub returns-in-Some-starts-clause-some : goal.returns-in-Some-starts-clause-some
returns-in-Some-starts-clause-some c =
    taken type_unsigned is_the c.in_ok-rest.ensures.some refl (taken int_some is_the c.in-Some-starts.ensures.some refl read_nothing)

pub returns-in-None-clause-some : goal.returns-in-None-clause-some
returns-in-None-clause-some c =
    taken type_unsigned is_the c.in_ok-rest.ensures.some refl (whole int_none (otherwise maybe_int _ c.in-None.ensures.none) read_nothing)
