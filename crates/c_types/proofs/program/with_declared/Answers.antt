use Rattle.std.proofs.Common.{refl, sym, ◌∙◌}
use Rattle.c_types.proofs.Declarations.{with-global, with-function}
use Rattle.c_types.proofs.program.with_declared.Goals.{in-Variable+in_ok-push-in-Variable, in-Function+in_ok-push-in-Function}
use Rattle.c_types.proofs.program.with_declared.Goals as goal

pub returns-clause-ok : goal.returns-clause-ok
returns-clause-ok c =
    let whole = sym c.both.ensures ∙ c.in_ok-parts.was in
    elim c.match-next.branch [
      | in-Variable+in_ok-push-in-Variable w ↦ rw w.parts-is
          (_, whole, λ all h. rw w.in-Variable.is (with-global _ _ _ all refl w.in_ok-push-in-Variable.ensures.items h))
      | in-Function+in_ok-push-in-Function w ↦ rw w.parts-is
          (_, whole, λ all h. rw w.in-Function.is (with-function _ _ _ all refl w.in_ok-push-in-Function.ensures.items h))
    ]
