use Rattle.std.proofs.Common.{refl, ap, arith}
use Rattle.std.specs.Prelude.{vec_len}
use Rattle.sym_exec.proofs.Tickets.{still_tree, goes_none, get_tree, known_on, known_put, hold_on, hold_put}
use Rattle.sym_exec.proofs.Tickets.{hold_same, on_ok_weaker, ok_always, err_always, on_err_weaker, lacks_here}
use Rattle.sym_exec.proofs.Chains.{chain-on, memory-on}
use Rattle.sym_exec.proofs.Tracking.{tracks_on, tracks_guard, room_guard}
use Rattle.sym_exec.proofs.run.step.Goals as goal

pub returns-in-Computes-clause-tracks : goal.returns-in-Computes-clause-tracks
returns-in-Computes-clause-tracks c = λ t h.
    rw c.in-Computes.is (on_ok_weaker c.computes.result (λ e. tracks_on c.computes.ensures.pass.later h e refl refl) (c.computes.ensures.hold t h.hold))

pub returns-in-Sets-clause-tracks : goal.returns-in-Sets-clause-tracks
returns-in-Sets-clause-tracks c = λ t h.
    rw c.in-Sets.is (on_ok_weaker c.put_leaf.result (λ e. tracks_on c.put_leaf.ensures.pass.later h e refl refl) (c.put_leaf.ensures.hold t h.hold))

pub returns-in_ok-address-in-Loads-clause-tracks : goal.returns-in_ok-address-in-Loads-clause-tracks
returns-in_ok-address-in-Loads-clause-tracks c = λ t h.
    let d = c.in_ok-address-in-Loads.ensures in
    let memory = memory-on d.pass.later c.args.lists.now.chain.stores.items t.memory h.memory in
    rw c.in-Loads.is (tracks_guard d.pass.later _ h (d.hold t h.hold h.memory) (rw (c.push_guard.ensures.chain, d.stores) memory)
    c.push_guard.ensures.pushed refl (refl, d.address t h.hold))

pub returns-in_ok-address-in-Stores-clause-tracks : goal.returns-in_ok-address-in-Stores-clause-tracks
returns-in_ok-address-in-Stores-clause-tracks c = λ t h.
    let d = c.in_ok-address-in-Stores.ensures in
    rw c.in-Stores.is (tracks_guard d.pass.later _ h (hold_same (hold_on d.pass.later h.hold) refl refl refl)
    (rw c.push_guard-in-Stores.ensures.chain (d.memory t h.hold h.memory)) c.push_guard-in-Stores.ensures.pushed refl (refl, d.address t h.hold))

pub returns-in-Multiplies-clause-tracks : goal.returns-in-Multiplies-clause-tracks
returns-in-Multiplies-clause-tracks c = λ t h.
    let held = rw (c.product_high.ensures, c.product_low.ensures) at (c.put_halves.ensures.hold t h.hold) in
    rw c.in-Multiplies.is (on_ok_weaker c.put_halves.result (λ e. tracks_on c.put_halves.ensures.pass.later h e refl refl) held)

pub returns-in_ok-put_halves-in-Divides-clause-tracks : goal.returns-in_ok-put_halves-in-Divides-clause-tracks
returns-in_ok-put_halves-in-Divides-clause-tracks c = λ t h.
    let later = c.in_ok-put_halves-in-Divides.ensures.pass.later in
    let x = still_tree later.extends (get_tree {t = t} h.hold c.get-dividend.ensures.value c.get-dividend.ensures.range) in
    let y = still_tree later.extends (get_tree {t = t} h.hold c.get-divisor.ensures.value c.get-divisor.ensures.range) in
    let memory = memory-on later c.args.lists.now.chain.stores.items t.memory h.memory in
    let held = rw (c.remainder_operator.ensures, c.quotient_operator.ensures) at (c.in_ok-put_halves-in-Divides.ensures.hold t h.hold) in
    rw c.in-Divides.is (tracks_guard later _ h (hold_same held refl refl refl) (rw c.push_guard-in-Divides.ensures.chain memory)
    c.push_guard-in-Divides.ensures.pushed refl (refl, x, y))

pub returns-in-MovesHigh-clause-tracks : goal.returns-in-MovesHigh-clause-tracks
returns-in-MovesHigh-clause-tracks c = λ t h.
    rw c.in-MovesHigh.is (tracks_on (goes_none c.args.terms.now).later h
    (hold_put {t = t} h.hold h.hold.hi c.set.ensures.value c.set.ensures.range c.set.ensures.count) refl refl)

pub returns-in-MovesLow-clause-tracks : goal.returns-in-MovesLow-clause-tracks
returns-in-MovesLow-clause-tracks c = λ t h.
    rw c.in-MovesLow.is (tracks_on (goes_none c.args.terms.now).later h
    (hold_put {t = t} h.hold h.hold.lo c.set-in-MovesLow.ensures.value c.set-in-MovesLow.ensures.range c.set-in-MovesLow.ensures.count) refl refl)

pub returns-in-Computes-clause-chain : goal.returns-in-Computes-clause-chain
returns-in-Computes-clause-chain c = ok_always c.computes.result (chain-on c.computes.ensures.pass.later c.requires.chain)

pub returns-in-Sets-clause-chain : goal.returns-in-Sets-clause-chain
returns-in-Sets-clause-chain c = ok_always c.put_leaf.result (chain-on c.put_leaf.ensures.pass.later c.requires.chain)

pub returns-in-Multiplies-clause-chain : goal.returns-in-Multiplies-clause-chain
returns-in-Multiplies-clause-chain c = ok_always c.put_halves.result (chain-on c.put_halves.ensures.pass.later c.requires.chain)

pub returns-in_ok-address-in-Stores-clause-known : goal.returns-in_ok-address-in-Stores-clause-known
returns-in_ok-address-in-Stores-clause-known c = known_on c.in_ok-address-in-Stores.ensures.pass.later c.requires.known

pub returns-in_ok-put_halves-in-Divides-clause-chain : goal.returns-in_ok-put_halves-in-Divides-clause-chain
returns-in_ok-put_halves-in-Divides-clause-chain c =
    rw c.push_guard-in-Divides.ensures.chain (chain-on c.in_ok-put_halves-in-Divides.ensures.pass.later c.requires.chain)

pub returns-in_ok-address-in-Loads-clause-room : goal.returns-in_ok-address-in-Loads-clause-room
returns-in_ok-address-in-Loads-clause-room c =
    let d = c.in_ok-address-in-Loads.ensures in
    room_guard c.args.lists.now c.push_guard.new.self c.loads.new.chain (rw d.stores c.requires.room.guards) d.room
    (omega (arith, c.requires.room.few, ap vec_len d.stores)) c.push_guard.ensures.count c.push_guard.ensures.capacity c.push_guard.ensures.chain

pub returns-in_ok-address-in-Stores-clause-room : goal.returns-in_ok-address-in-Stores-clause-room
returns-in_ok-address-in-Stores-clause-room c =
    let d = c.in_ok-address-in-Stores.ensures in
    room_guard c.args.lists.now c.push_guard-in-Stores.new.self c.stores.new.chain (rw d.capacity c.requires.room.guards) d.room
    (omega (arith, c.requires.room.few, d.count))
    c.push_guard-in-Stores.ensures.count c.push_guard-in-Stores.ensures.capacity c.push_guard-in-Stores.ensures.chain

pub returns-in_ok-put_halves-in-Divides-clause-room : goal.returns-in_ok-put_halves-in-Divides-clause-room
returns-in_ok-put_halves-in-Divides-clause-room c =
    room_guard c.args.lists.now c.push_guard-in-Divides.new.self c.args.lists.now.chain c.requires.room.guards c.requires.room.chain
    (omega (arith, c.requires.room.few)) c.push_guard-in-Divides.ensures.count c.push_guard-in-Divides.ensures.capacity c.push_guard-in-Divides.ensures.chain

pub returns-in-MovesHigh-clause-known : goal.returns-in-MovesHigh-clause-known
returns-in-MovesHigh-clause-known c =
    known_put c.requires.known c.requires.known.hi c.set.ensures.value c.set.ensures.range c.set.ensures.count

pub returns-in-MovesLow-clause-known : goal.returns-in-MovesLow-clause-known
returns-in-MovesLow-clause-known c =
    let put = c.set-in-MovesLow.ensures in
    known_put c.requires.known c.requires.known.lo put.value put.range put.count

pub returns-in_err-address-in-Stores-clause-absent : goal.returns-in_err-address-in-Stores-clause-absent
returns-in_err-address-in-Stores-clause-absent c = λ t h.
    rw c.in-Stores.is (err_always _ (lacks_here (c.in_err-address-in-Stores.ensures.absent t h.hold)))

pub returns-in_err-put_halves-in-Divides-clause-absent : goal.returns-in_err-put_halves-in-Divides-clause-absent
returns-in_err-put_halves-in-Divides-clause-absent c = λ t h.
    rw c.in-Divides.is (err_always _ (rw (c.remainder_operator.ensures, c.quotient_operator.ensures) at
    (c.in_err-put_halves-in-Divides.ensures.absent t h.hold)))

pub returns-in-Sets-clause-absent : goal.returns-in-Sets-clause-absent
returns-in-Sets-clause-absent c = λ t h. rw c.in-Sets.is (on_err_weaker c.put_leaf.result lacks_here c.put_leaf.ensures.absent)

pub returns-in-Multiplies-clause-absent : goal.returns-in-Multiplies-clause-absent
returns-in-Multiplies-clause-absent c = λ t h.
    rw c.in-Multiplies.is (rw (c.product_high.ensures, c.product_low.ensures) at (c.put_halves.ensures.absent t h.hold))
