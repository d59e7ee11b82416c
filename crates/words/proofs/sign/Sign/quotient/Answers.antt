-- The signed division is one of numbers that fit.
use Rattle.std.proofs.Common.{◌∙◌, sym}
use Rattle.words.proofs.Divisions.{divides}
use Rattle.words.proofs.sign.Sign.quotient.Goals as goal

pub nonzero_div-cast_signed : goal.nonzero_div-cast_signed
nonzero_div-cast_signed c =
    divides c.cast_signed.result c.cast_signed-in-Signed.result c.args.self c.args.a c.args.b c.ranges.a.fits c.ranges.b.fits c.cast_signed.ensures
    c.cast_signed-in-Signed.ensures c.in-Signed.is (sym c.has_quotient.ensures ∙ c.if-not-has_quotient.false)
