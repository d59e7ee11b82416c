use Rattle.std.proofs.Common.{◌≡◌, ◌∙◌, take, length, true, false, refl, rules}
use Rattle.std.proofs.Math.Seq.{take-append_seam}
use Rattle.std.proofs.lemmas.List.{nil_from_length}
use Rattle.sym_terms.specs.NormalForms.{load_tree}
use Rattle.sym_exec.proofs.Chains.{load-at, walk-on}
use Rattle.sym_exec.proofs.stores.stores_seen.Goals as goal

pub returns-then-not-is_passed-clause-tree : goal.returns-then-not-is_passed-clause-tree
returns-then-not-is_passed-clause-tree c = λ p m b legal made at.
    let i = c.loop-last.invariant in
    let inner : take (length c.loop-last.inner.now) c.args.stores.now ≡ c.loop-last.inner.now =
    rw i.parts (take-append_seam c.loop-last.inner.now i.outer) in
    let now = i.trees p m b legal made at in
    let whole = rw c.in-Some.ensures.cases.0 at now.1 in
    (now.0, rw inner now.1, now.2 ∙ (load-at now.0 false c.in-Some.rest.now c.in-Some.last.now c.args.width b legal whole at (search rules)).2)

pub loop-last-preserved : goal.loop-last-preserved
loop-last-preserved c =
    walk-on c.in-Some.rest.now c.in-Some.last.now c.loop-last.invariant c.in-Some.ensures.cases.0 (λ p m b legal made at.
    let now = c.loop-last.invariant.trees p m b legal made at in
    let whole = rw c.in-Some.ensures.cases.0 at now.1 in
    let next = load-at now.0 true c.in-Some.rest.now c.in-Some.last.now c.args.width b legal whole at (search rules) in
    (next.0, next.1, now.2 ∙ next.2))

pub returns-clause-tree : goal.returns-clause-tree
unfolding load_tree
returns-clause-tree c = λ p m b legal made at.
    let now = c.loop-last.invariant.trees p m b legal made at in
    let none = nil_from_length c.loop-last.inner.now c.in_default.ensures.cases in
    let whole = rw none at now.1 in
    (now.0, whole, now.2 ∙ rw (← whole) refl)
