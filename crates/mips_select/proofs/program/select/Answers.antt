use Rattle.std.proofs.lemmas.Result.{IfOk-weaker, IfErr-weaker}
use Rattle.mips_select.proofs.Selecting.{told_beyond}
use Rattle.mips_select.proofs.program.select.Goals as goal

pub returns-in_err-long-clause-limit : goal.returns-in_err-long-clause-limit
returns-in_err-long-clause-limit c = told_beyond _ _ c.from_residual-in_err-long.ensures.1 c.in_ok-homed.ensures.lent
    c.in_ok-homed.ensures.places c.in_err-long.ensures.limit

pub returns-clause-limit : goal.returns-clause-limit
returns-clause-limit c = IfErr-weaker c.unit_of.result _ _
    (λ e many is fit. record { homed = c.in_ok-homed.homed; lent = c.in_ok-homed.ensures.lent; choices = c.in_ok-homed.ensures.places; many = many is })
    c.unit_of.ensures.limit

pub returns-clause-runs : goal.returns-clause-runs
returns-clause-runs c = IfOk-weaker c.unit_of.result _ _
    (λ u h. rw (← c.in_ok-homed.ensures.lent) (h c.args.depth (rw c.in_ok-homed.ensures.lent c.in_ok-homed.ensures.within))) c.unit_of.ensures.runs

pub returns-clause-unit : goal.returns-clause-unit
returns-clause-unit c = IfOk-weaker c.unit_of.result _ _
    (λ u h. record { homed = c.in_ok-homed.homed; lent = c.in_ok-homed.ensures.lent; places = c.in_ok-homed.ensures.places; unit = h }) c.unit_of.ensures.unit

pub returns-clause-data : goal.returns-clause-data
returns-clause-data c = IfOk-weaker c.unit_of.result _ _ (λ u h. cc (c.in_ok-homed.ensures.lent)) c.unit_of.ensures.unit
