use Rattle.std.proofs.Common.{rules}
use Rattle.c_statements.specs.Names.{environment_in}
use Rattle.c_statements.specs.Shape.{scopes_of, environment_of}
use Rattle.c_statements.proofs.Uses.{told-first, undeclared-told}
use Rattle.c_statements.proofs.Calls.{Serves, no-function-first, void-first, count-first, call-right, target-is, serves-result, serves-unwanted}
use Rattle.c_statements.proofs.call.callee.Goals.{else-wanted-via-then-wanted+else-not-gives, else-wanted-via-else-wanted}
use Rattle.c_statements.proofs.call.callee.Goals as goal

pub returns-in_err-named : goal.returns-in_err-named
returns-in_err-named c = undeclared-told _ (environment_of c.args.program.now c.args.scopes.now) c.args.name _ _ _ (search rules) c.in_err-named.ensures.err

pub returns-in_default : goal.returns-in_default
returns-in_default c =
    told-first _ _ _ _ _ c.misuse.ensures
    (no-function-first (environment_in c.args.program.now.text.items (scopes_of c.args.scopes.now)) c.args.name c.in_ok-named.named _ _ c.in_ok-named.ensures.ok c.in_default.ensures.none)

pub returns-then-not-gives : goal.returns-then-not-gives
returns-then-not-gives c =
    told-first _ _ _ _ _ c.misuse-then-not-gives.ensures
    (void-first (environment_in c.args.program.now.text.items (scopes_of c.args.scopes.now)) c.args.name c.in_ok-named.named c.in-Some.target c.in-Some.parameters c.in-Some.gives _ _ c.in_ok-named.ensures.ok c.in-Some.ensures.some c.if-wanted.true c.if-not-gives.true)

pub returns-then-count-parameters : goal.returns-then-count-parameters
returns-then-count-parameters c = record {
  ok = tt;
  none = tt;
  err = let s : Serves c.args.wanted c.in-Some.gives =
      elim c.else-wanted.branch [
        | else-wanted-via-then-wanted+else-not-gives w ↦ serves-result _ _ w.if-not-gives.false
        | else-wanted-via-else-wanted w ↦ serves-unwanted _ _ w.if-wanted.false
      ]
      in
      rw c.misuse-then-count-parameters.ensures
      (count-first (environment_in c.args.program.now.text.items (scopes_of c.args.scopes.now)) c.args.name c.in_ok-named.named
      c.in-Some.target c.in-Some.parameters c.in-Some.gives _ _
      c.in_ok-named.ensures.ok c.in-Some.ensures.some s c.if-count-parameters.true);
}

pub returns : goal.returns
returns c = record {
  ok = target-is _ c.in_ok-named.named _ c.in-Some.parameters c.in-Some.gives c.in_ok-named.ensures.ok c.in-Some.ensures.some;
  none = let s : Serves c.args.wanted c.in-Some.gives =
      elim c.else-wanted.branch [
        | else-wanted-via-then-wanted+else-not-gives w ↦ serves-result _ _ w.if-not-gives.false
        | else-wanted-via-else-wanted w ↦ serves-unwanted _ _ w.if-wanted.false
      ]
      in
      call-right (environment_in c.args.program.now.text.items (scopes_of c.args.scopes.now)) c.args.name c.in_ok-named.named
      c.in-Some.target c.in-Some.parameters c.in-Some.gives c.args.count c.args.wanted
      c.in_ok-named.ensures.ok c.in-Some.ensures.some s c.if-count-parameters.false;
  err = tt;
}
