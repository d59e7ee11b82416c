use Rattle.std.proofs.Common.{rules}
use Rattle.c_statements.specs.Types.{return_typed}
use Rattle.c_statements.proofs.Joins.{answers-both, answers-err, answers-of}
use Rattle.c_statements.proofs.statement.return_from.Goals as goal

pub returns-in_err-value : goal.returns-in_err-value
returns-in_err-value c =
    let told = answers-both (answers-of c.fits.ensures.none c.fits.ensures.err) c.returned_value-value.ensures in
    answers-err c.in_err-value.field-0.0 (search rules) (rw c.in_err-value.ensures.err at told).err

pub returns : goal.returns
returns c =
    let told = answers-both (answers-of c.fits.ensures.none c.fits.ensures.err) c.returned_value-value.ensures in
    let second = c.in_ok-value.ensures.ok in
    let all = rw second.1 at told in
    record { ok = return_typed (rw second.2 all.ok.1); none = all.none; err = tt }
