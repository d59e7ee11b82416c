use Rattle.std.proofs.Common.{refl}
use Rattle.sym_exec.proofs.Tickets.{still_tree, later_more, hold_on, known_on, known_put, hold_put, hold_same, err_always, lacks_here, lacks_next}
use Rattle.sym_exec.specs.Symbolic.{address_tree}
use Rattle.sym_exec.proofs.Chains.{chain-on, memory-on}
use Rattle.sym_exec.proofs.registers.TermRegisters.loads.Goals as goal

pub load_term-requires-clause-chain : goal.load_term-requires-clause-chain
load_term-requires-clause-chain c = chain-on c.in_ok-address.ensures.pass.later c.requires.chain

pub returns-clause-known : goal.returns-clause-known
returns-clause-known c =
    known_put (known_on (later_more c.in_ok-address.ensures.pass.later c.in_ok-value.ensures.pass.later) c.requires.known)
    c.in_ok-value.ensures.seen c.set.ensures.value c.set.ensures.range c.set.ensures.count

pub returns-clause-hold : goal.returns-clause-hold
returns-clause-hold c = λ t h m.
    let before = c.in_ok-address.ensures.pass.later in
    let all = later_more before c.in_ok-value.ensures.pass.later in
    let value = c.in_ok-value.ensures.tree t.memory (address_tree t c.args.access.base c.args.access.offset)
    (memory-on before c.args.chain.now.stores.items t.memory m) (c.in_ok-address.ensures.tree t h) in
    let put = hold_put {t = t} (hold_on all h) value c.set.ensures.value c.set.ensures.range c.set.ensures.count in
    hold_same (rw c.reg.ensures.value at put) refl refl refl

pub returns-clause-address : goal.returns-clause-address
returns-clause-address c = λ t h. still_tree c.in_ok-value.ensures.pass.later.extends (c.in_ok-address.ensures.tree t h)

pub returns-in_err-address-clause-absent : goal.returns-in_err-address-clause-absent
returns-in_err-address-clause-absent c = λ t h m. err_always _ (lacks_here (c.in_err-address.ensures.absent t h))

pub returns-in_err-value-clause-absent : goal.returns-in_err-value-clause-absent
returns-in_err-value-clause-absent c = λ t h m.
    let address = address_tree t c.args.access.base c.args.access.offset in
    err_always _ (lacks_next address (lacks_here (c.in_err-value.ensures.absent t.memory address
    (memory-on c.in_ok-address.ensures.pass.later c.args.chain.now.stores.items t.memory m) (c.in_ok-address.ensures.tree t h))))
