use Rattle.std.proofs.Common.{◌≡◌, ◌∙◌, ◌++◌, [], take, drop, length, refl, sym, ap, rules}
use Rattle.std.proofs.Math.Seq.{take-append_seam, drop-append_seam}
use Rattle.std.proofs.lemmas.List.{append-nil, nil_from_length}
use Rattle.sym_terms.specs.NormalForms.{store_tree}
use Rattle.sym_exec.proofs.Chains.{store-stays, store-goes, store-last, walk-on}
use Rattle.sym_exec.proofs.stores.stores_inside.Goals as goal

pub loop-last-init : goal.loop-last-init
loop-last-init c = record { outer = []; parts = sym (append-nil c.args.stores.now); trees = λ p m b v legal made at. (m, made, refl) }

pub returns-then-not-is_passed_inward-clause-tree : goal.returns-then-not-is_passed_inward-clause-tree
returns-then-not-is_passed_inward-clause-tree c = λ p m b v legal made at.
    let i = c.loop-last.invariant in
    let n = length c.loop-last.inner.now in
    let inner : take n c.args.stores.now ≡ c.loop-last.inner.now = rw i.parts (take-append_seam c.loop-last.inner.now i.outer) in
    let outer : drop n c.args.stores.now ≡ i.outer = rw i.parts (drop-append_seam c.loop-last.inner.now i.outer) in
    let now = i.trees p m b v legal made at in
    let whole = rw c.in-Some.ensures.cases.0 at now.1 in
    let stays = store-stays c.in-Some.rest.now c.in-Some.last.now c.args.width b v legal whole at (search rules) in
    (now.0, rw inner now.1, rw (outer, ← stays) now.2)

pub loop-last-preserved : goal.loop-last-preserved
loop-last-preserved c =
    walk-on c.in-Some.rest.now c.in-Some.last.now c.loop-last.invariant c.in-Some.ensures.cases.0 (λ p m b v legal made at.
    let now = c.loop-last.invariant.trees p m b v legal made at in
    let whole = rw c.in-Some.ensures.cases.0 at now.1 in
    let next = store-goes now.0 c.in-Some.rest.now c.in-Some.last.now c.args.width b v legal whole at (search rules) in
    (next.0, next.1, (store_tree c.args.width now.0 b v, next.2, now.2)))

pub returns-clause-tree : goal.returns-clause-tree
returns-clause-tree c = λ p m b v legal made at.
    let i = c.loop-last.invariant in
    let now = i.trees p m b v legal made at in
    let none = nil_from_length c.loop-last.inner.now c.in_default.ensures.cases in
    let whole = rw none at now.1 in
    let all : c.args.stores.now ≡ i.outer = i.parts ∙ ap (λ xs. xs ++ i.outer) none in
    (now.0, whole, rw (all, ← store-last p now.0 c.args.width b v whole) now.2)
