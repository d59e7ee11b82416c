use Rattle.std.proofs.Common.{refl, rules, ◌∷◌, take, drop}
use Rattle.sym_terms.specs.declared.label.Label.TheVariants.{Mem0}
use Rattle.sym_terms.specs.Trees.{leaf}
use Rattle.sym_terms.specs.NormalForms.{store_tree}
use Rattle.sym_exec.proofs.Chains.{leads-join, chain-insert}
use Rattle.sym_exec.proofs.stores.StoreChain.store.Goals as goal

pub returns-clause-tree : goal.returns-clause-tree
returns-clause-tree c = λ p m b v legal made hb hv at.
    let place = c.stores_inside-place.result in
    let xs = c.args.self.now.stores.items in
    let s = c.args.stored in
    let n = c.stores_inside-place.ensures.tree p m b v legal (rw c.as_slice.ensures.value made) (rw c.at.ensures at) in
    rw c.in-Ok.ensures.items (leads-join p (leaf Mem0) (take place xs) (s ∷ drop place xs) n.0 (store_tree s.width m b v) (rw c.as_slice.ensures.value at n.1)
    (_, record { address = b; value = v; has_address = hb; has_value = hv; at = at; tree = refl }, rw c.as_slice.ensures.value at n.2))

pub returns-clause-chain : goal.returns-clause-chain
returns-clause-chain c = λ p b v legal h hb hv at.
    chain-insert c.stores_inside-place.result c.args.stored (store_tree c.args.stored.width h.memory b v) h (search rules)
    c.in-Ok.ensures.items c.truncate.ensures.items
    (returns-clause-tree c p h.memory b v legal h.made hb hv at)
