use Rattle.std.proofs.Common.{refl, sym, append_assoc, append-nil}
use Rattle.std.proofs.lemmas.Result.{IfOk-at_ok}
use Rattle.c_front.specs.Grammar.{program_rule, declarations_end, declarations_more}
use Rattle.c_front.specs.Reading.{read_nothing}
use Rattle.c_tree.specs.Shape.{declarations_of}
use Rattle.c_front.proofs.Ends.{failed, stops}
use Rattle.c_front.proofs.Reading.{derived, takes}
use Rattle.c_front.proofs.Steps.{whole, within, inside, goes-more}
use Rattle.c_front.proofs.Choices.{declarations_of-append}
use Rattle.c_front.proofs.declaration.declarations.Goals as goal

pub returns-in_err-rest-clause-err : goal.returns-in_err-rest-clause-err
returns-in_err-rest-clause-err c = failed _ c.from_residual.ensures.1 (inside program_rule refl (λ z. z) (c.declarations.invariant.stuck _
    (inside declarations_more (rw c.in-Some.ensures.some) (λ z. z)
    (within _ (stops _ _ _ _ c.in_err-rest.ensures.err c.declaration.ensures.err)))))

pub declarations-preserved : goal.declarations-preserved
declarations-preserved c =
    let r = c.in_ok-rest.ensures.ok in
    rw (r.2, declarations_of-append c.declarations.all.items r.0) (goes-more c.declarations.invariant declarations_more (rw c.in-Some.ensures.some) (λ z. z)
    (IfOk-at_ok _ r.1 c.declaration.ensures.ok) (append_assoc (declarations_of c.declarations.all.items) _))

pub returns-clause-ok : goal.returns-clause-ok
returns-clause-ok c = rw (sym (append-nil (declarations_of c.declarations.all.items))) (derived (whole program_rule refl
    (c.declarations.invariant.reads _ _ (rw c.in_default.ensures.none (whole declarations_end refl read_nothing)))))

pub declarations-smaller : goal.declarations-smaller
declarations-smaller c = takes tt (IfOk-at_ok _ c.in_ok-rest.ensures.ok.1 c.declaration.ensures.ok)
