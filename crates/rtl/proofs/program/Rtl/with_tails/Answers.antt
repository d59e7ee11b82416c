use Rattle.std.proofs.Common.{refl, subst}
use Rattle.rtl.specs.Programs.{program_of}
use Rattle.rtl.specs.Tails.{IsTailed}
use Rattle.rtl.proofs.Copies.{program_fits}
use Rattle.rtl.proofs.Simulation.{runs_alike}
use Rattle.rtl.proofs.program.Rtl.with_tails.Goals as goal

pub invariant_of-result : goal.invariant_of-result
invariant_of-result c =
    program_fits c.self.inside.functions.items c.in_ok-functions.functions.items c.self.inside.globals.items c.self.inside.main
    c.in_ok-functions.ensures c.self.invariant

pub returns-clause-runs : goal.returns-clause-runs
returns-clause-runs c =
    let new = program_of c.in_ok-functions.functions.items c.self.inside.globals.items c.self.inside.main in
    runs_alike c.args.self new
    (subst (λ p. IsTailed p new) c.self.view_is (record { functions = c.in_ok-functions.ensures; globals = refl; main = refl }))
