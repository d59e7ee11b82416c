use Rattle.std.proofs.Common.{◌≡◌, ◌≤◌, take_all, rules}
use Rattle.c_typed.specs.Shape.{functions_of}
use Rattle.std.proofs.lemmas.List.Elements.{All-push}
use Rattle.rtl.specs.declared.limits.TheConstants.{MAX_REGISTERS}
use Rattle.rtl_emit.specs.declared.fault.LowerFault.TheVariants.{Limit}
use Rattle.rtl_lower.specs.Coded.{IsCodeOf}
use Rattle.rtl_lower.specs.Sizes.{function_registers, IsPlain, HaveRoom}
use Rattle.rtl_lower.proofs.Functions.{one_pair, each_at, functions_more, too_large, codes_count}
use Rattle.rtl_lower.proofs.program.functions.Goals as goal

pub loop-f-preserved : goal.loop-f-preserved
loop-f-preserved c =
    let more = functions_more c.args.all.now c.loop-f.f-index c.f-item.result c.loop-f-test.true c.f-item.is in (
      one_pair IsCodeOf _ _ _ _ _ _ more c.in_ok-put.ensures c.in_ok-next.ensures.code c.loop-f.invariant.0,
      rw more (All-push (λ f. function_registers f ≤ MAX_REGISTERS) _ _ c.loop-f.invariant.1 c.in_ok-next.ensures.room),
    )

pub function-requires : goal.function-requires
function-requires c =
    record { plain = each_at IsPlain c.args.all.now c.loop-f.f-index c.f-item.result c.loop-f-test.true c.f-item.is c.requires.plain }

pub returns-in_err-next-clause-limit : goal.returns-in_err-next-clause-limit
returns-in_err-next-clause-limit c =
    let beyond : c.in_err-next.field-0.0 ≡ Limit → HaveRoom (functions_of c.args.all.now) → ⊥ =
    λ e room. too_large c.args.all.now c.loop-f.f-index c.f-item.result c.loop-f-test.true c.f-item.is (c.in_err-next.ensures.limit e) room in
    search rules

pub returns-clause-codes : goal.returns-clause-codes
returns-clause-codes c = rw (take_all c.loop-f.f-index c.args.all.now c.loop-f-test.false) at c.loop-f.invariant.0

pub returns-clause-count : goal.returns-clause-count
returns-clause-count c = codes_count _ _ (returns-clause-codes c)
