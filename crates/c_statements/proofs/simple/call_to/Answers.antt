use Rattle.std.proofs.Common.{◌≡◌, length, rules, is_some, sym, arith, ◌∙◌}
use Rattle.c_statements.proofs.CallsTyped.{call-told, function-ok, out-ok, out-some}
use Rattle.c_statements.proofs.Joins.{answers-err}
use Rattle.c_statements.proofs.simple.call_to.Goals as goal

pub returns-in_err-target : goal.returns-in_err-target
returns-in_err-target c =
    let n : c.len.result ≡ length c.deref.result.now = omega (arith, c.deref.ensures.len) in
    let told = call-told _ n c.is_some.ensures c.callee-target.ensures c.arguments-typed.ensures in
    answers-err c.in_err-target.field-0.0 (search rules) (rw (← c.deref.ensures.value) (rw (sym c.both.ensures ∙ c.in_err-target.was) at told).err)

pub unreachable-requires : goal.unreachable-requires
unreachable-requires c =
    let n : c.len.result ≡ length c.deref.result.now = omega (arith, c.deref.ensures.len) in
    let told = rw (sym c.both.ensures ∙ c.in_ok-target.was) at (call-told _ n c.is_some.ensures c.callee-target.ensures c.arguments-typed.ensures) in
    out-some _ (is_some c.args.to) _ _ told.ok.0 c.in-Out.is told.none told.ok.1 (omega (arith, c.in-None.ensures.cases, c.in_ok-target.all.ok))

pub returns-in-Function : goal.returns-in-Function
returns-in-Function c =
    let n : c.len.result ≡ length c.deref.result.now = omega (arith, c.deref.ensures.len) in
    let told = rw (sym c.both.ensures ∙ c.in_ok-target.was) at (call-told _ n c.is_some.ensures c.callee-target.ensures c.arguments-typed.ensures) in
    rw (← c.deref.ensures.value) (record { ok = function-ok _ _ _ _ _ _ _ told.ok.0 c.in-Function.is told.ok.1; none = told.none; err = tt })

pub returns-in-Some : goal.returns-in-Some
returns-in-Some c =
    let n : c.len.result ≡ length c.deref.result.now = omega (arith, c.deref.ensures.len) in
    let told = rw (sym c.both.ensures ∙ c.in_ok-target.was) at (call-told _ n c.is_some.ensures c.callee-target.ensures c.arguments-typed.ensures) in
    rw (← c.deref.ensures.value) (record {
      ok = out-ok c.args.to _ _ _ _ told.ok.0 c.in-Out.is told.none told.ok.1 c.in-Some.ensures.items;
      none = told.none;
      err = tt;
    })
