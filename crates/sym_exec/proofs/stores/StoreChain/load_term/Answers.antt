use Rattle.sym_terms.specs.declared.label.Label.TheVariants.{Load}
use Rattle.sym_terms.specs.Trees.{none, more}
use Rattle.sym_exec.proofs.Tickets.{still_tree, still_seen, err_always}
use Rattle.sym_exec.proofs.Chains.{chain-on}
use Rattle.sym_exec.proofs.Parts.{lacks_first}
use Rattle.sym_exec.proofs.stores.StoreChain.load_term.Goals as goal

pub returns-clause-tree : goal.returns-clause-tree
returns-clause-tree c = λ m b h k.
    let n = c.stores_seen-count.ensures.tree c.args.terms.now.pass.now m b c.requires.legal
    (rw c.as_slice.ensures.value h) (c.requires.at b k) in
    let made = rw c.as_slice.ensures.value at n.1 in
    rw n.2 (c.binary.ensures.tree n.0 b (c.in_ok-memory.ensures.tree n.0 made) (still_tree c.in_ok-memory.ensures.pass.later.extends k))

pub binary-requires-clause-b : goal.binary-requires-clause-b
binary-requires-clause-b c = still_seen c.in_ok-memory.ensures.pass.later.extends c.args.address c.requires.address

pub returns-clause-chain : goal.returns-clause-chain
returns-clause-chain c = chain-on c.binary.ensures.pass.later c.in_ok-memory.ensures.chain

pub returns-in_err-memory-clause-absent : goal.returns-in_err-memory-clause-absent
returns-in_err-memory-clause-absent c = λ m b h k.
    let n = c.stores_seen-count.ensures.tree c.args.terms.now.pass.now m b c.requires.legal
    (rw c.as_slice.ensures.value h) (c.requires.at b k) in
    let made = rw c.as_slice.ensures.value at n.1 in
    rw n.2 (err_always _ (lacks_first c.memory_behind.new.terms.pass.now (Load c.args.width) n.0 (more b none) (c.in_err-memory.ensures.absent n.0 made)))

pub returns-clause-absent : goal.returns-clause-absent
returns-clause-absent c = λ m b h k.
    let n = c.stores_seen-count.ensures.tree c.args.terms.now.pass.now m b c.requires.legal
    (rw c.as_slice.ensures.value h) (c.requires.at b k) in
    let made = rw c.as_slice.ensures.value at n.1 in
    rw n.2 (c.binary.ensures.absent n.0 b (c.in_ok-memory.ensures.tree n.0 made) (still_tree c.in_ok-memory.ensures.pass.later.extends k))
