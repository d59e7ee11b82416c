use Rattle.std.proofs.Common.{◌∙◌, ◌≤◌, subst, length}
use Rattle.counterexample.specs.Fillings.{filled_byte}
use Rattle.counterexample.proofs.Memories.{all_behind, next_behind_of, all_done}
use Rattle.counterexample.proofs.memory.Memory.byte.Goals as goal

pub loop-stored-preserved : goal.loop-stored-preserved
loop-stored-preserved c =
    next_behind_of _ c.args.self.now.stores.items c.loop-stored.stored-index _ c.args.a c.loop-stored.byte c.byte_behind-byte.result
    c.as_slice-stored-items.ensures.value c.loop-stored-test.true c.byte_behind-byte.ensures ∙ c.loop-stored.invariant

pub returns : goal.returns
returns c =
    let s = c.args.self.now in
    let k = c.loop-stored.stored-index in
    let past = subst (λ xs. length xs ≤ k) c.as_slice-stored-items.ensures.value c.loop-stored-test.false in
    all_done s.stores.items k c.args.a c.loop-stored.byte past ∙ c.loop-stored.invariant
    ∙ all_behind s.stores.items (filled_byte s.filling) c.args.a
