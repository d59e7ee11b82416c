use Rattle.std.proofs.Common.{◌∙◌, ap}
use Rattle.counterexample.specs.Fillings.{filled_byte}
use Rattle.counterexample.specs.Memories.{stored}
use Rattle.counterexample.proofs.Memories.{stored_more}
use Rattle.counterexample.proofs.memory.Memory.store.Goals as goal

pub returns-clause-bytes : goal.returns-clause-bytes
returns-clause-bytes c = λ e.
    let m = c.args.self.now in
    ap (stored (filled_byte m.filling)) c.in_ok-push.ensures.items ∙ stored_more m.stores.items (filled_byte m.filling) _
