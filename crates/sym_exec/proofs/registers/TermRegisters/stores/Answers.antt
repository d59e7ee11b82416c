use Rattle.sym_exec.proofs.Tickets.{still_tree, get_seen, get_tree}
use Rattle.sym_exec.specs.Symbolic.{register_tree, address_tree}
use Rattle.sym_exec.proofs.Chains.{chain-on, memory-on}
use Rattle.sym_exec.proofs.registers.TermRegisters.stores.Goals as goal

pub returns-clause-memory : goal.returns-clause-memory
returns-clause-memory c = λ t h m.
    let before = c.in_ok-address.ensures.pass.later in
    let b = c.in_ok-address.ensures.tree t h in
    c.store.ensures.tree _ t.memory (address_tree t c.args.access.base c.args.access.offset) (register_tree t c.args.r) c.in_ok-address.ensures.legal
    (memory-on before c.args.chain.now.stores.items t.memory m) b
    (still_tree before.extends (get_tree {t = t} h c.get-value.ensures.value c.get-value.ensures.range)) (c.in_ok-address.ensures.at _ b)

pub returns-clause-chain : goal.returns-clause-chain
returns-clause-chain c =
    let before = c.in_ok-address.ensures.pass.later in
    let b = c.in_ok-address.ensures.seen in
    let v = get_seen c.requires.known c.get-value.ensures.value c.get-value.ensures.range in
    c.store.ensures.chain _ b.term v.term c.in_ok-address.ensures.legal (chain-on before c.requires.chain) b.has (still_tree before.extends v.has)
    (c.in_ok-address.ensures.at b.term b.has)
