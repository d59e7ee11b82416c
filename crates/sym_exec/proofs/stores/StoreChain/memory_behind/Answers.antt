use Rattle.std.proofs.Common.{◌-◌, ◌<◌, take, length, suc, refl, arith, rules}
use Rattle.std.proofs.lemmas.List.{get_or_default}
use Rattle.sym_exec.proofs.Tickets.{tree_seen, goes_on, goes_more, err_always}
use Rattle.sym_exec.proofs.Chains.{lacks_behind, chain-on, chain-next, chain-push, memory-on}
use Rattle.sym_exec.proofs.stores.StoreChain.memory_behind.Goals as goal

pub ternary-requires : goal.ternary-requires
ternary-requires c =
    let next = chain-next (c.len-made.result - 1) c.loop-self.invariant.chain (search rules) c.index-before.ensures (search rules) c.index-stored.ensures in
    record {
      arity = refl;
      a = tree_seen {x = next.0} next.3;
      b = tree_seen {x = next.4.address} next.4.has_address;
      c = tree_seen {x = next.4.value} next.4.has_value;
    }

pub returns-in_err-memory-clause-chain : goal.returns-in_err-memory-clause-chain
returns-in_err-memory-clause-chain c = chain-on c.in_err-memory.ensures.pass.later c.loop-self.invariant.chain

pub loop-self-preserved : goal.loop-self-preserved
loop-self-preserved c =
    let i = c.loop-self.invariant in
    let next = chain-next (c.len-made.result - 1) i.chain (search rules) c.index-before.ensures (search rules) c.index-stored.ensures in
    record {
      goes = goes_more i.goes (goes_on c.in_ok-memory.ensures.pass);
      grows = omega (arith, i.grows, c.in_ok-memory.ensures.grows);
      chain = chain-push (c.len-made.result - 1) next.1 c.in_ok-memory.ensures.pass.later i.chain (search rules) (search rules) next.2
          (rw next.4.tree (c.in_ok-memory.ensures.tree next.0 next.4.address next.4.value next.3 next.4.has_address next.4.has_value))
          refl c.push_reserved.ensures.items;
      stores = i.stores;
      room = search rules;
    }

pub returns-clause-tree : goal.returns-clause-tree
returns-clause-tree c = λ t made.
    let i = c.loop-self.invariant in
    let k = c.args.count in
    let inside : k < length c.loop-self.self.memories.items = search rules in
    let here = rw (← i.stores) at (memory-on i.goes.later (take k c.args.self.now.stores.items) t made) in
    rw (c.index.ensures, ← get_or_default c.loop-self.self.memories.items k 0 _ inside) (i.chain.memories k inside t here)

pub returns-in_err-memory-clause-absent : goal.returns-in_err-memory-clause-absent
returns-in_err-memory-clause-absent c = λ t made.
    let i = c.loop-self.invariant in
    let k = c.len-made.result - 1 in
    let next = chain-next k i.chain (search rules) c.index-before.ensures (search rules) c.index-stored.ensures in
    let lacks = c.in_err-memory.ensures.absent next.0 next.4.address next.4.value next.3 next.4.has_address next.4.has_value in
    let here = rw (← i.stores) at (memory-on i.goes.later (take c.args.count c.args.self.now.stores.items) t made) in
    let low : k < c.args.count = search rules in
    err_always _ (lacks_behind c.loop-self.terms.pass.now c.ternary.new.self.pass.now next.1 (suc k) c.args.count
    c.loop-self.self.stores.items t low next.2 (rw next.4.tree lacks) here)
