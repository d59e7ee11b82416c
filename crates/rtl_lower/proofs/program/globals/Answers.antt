use Rattle.std.proofs.Common.{◌≡◌, refl, rules}
use Rattle.rtl_emit.specs.declared.fault.LowerFault.TheVariants.{Limit}
use Rattle.c_typed.specs.WellFormed.{words_in}
use Rattle.c_typed.specs.declared.limits.TheConstants.{MAX_GLOBAL_WORDS}
use Rattle.std.specs.Prelude.{◌≤◌}
use Rattle.rtl_lower.specs.Coded.{IsGlobalOf}
use Rattle.rtl_lower.proofs.Functions.{one_pair}
use Rattle.rtl_lower.proofs.Sizes.{take_one}
use Rattle.rtl_lower.proofs.Sound.{too_long_at}
use Rattle.rtl_lower.proofs.program.globals.Goals as goal

pub loop-g-preserved : goal.loop-g-preserved
loop-g-preserved c =
    one_pair IsGlobalOf _ _ _ _ _ _ (take_one c.args.all.now c.loop-g.g-index _ _ _ c.loop-g-test.true refl refl)
    c.in_ok-put.ensures c.in_ok-next.ensures.is c.loop-g.invariant

pub returns-in_err-next-clause-limit : goal.returns-in_err-next-clause-limit
returns-in_err-next-clause-limit c =
    let beyond : c.in_err-next.field-0.0 ≡ Limit → words_in c.args.all.now ≤ MAX_GLOBAL_WORDS → ⊥ =
    λ e le. too_long_at c.args.all.now c.loop-g.g-index _ c.loop-g-test.true (c.in_err-next.ensures.limit e) le in
    search rules
