use Rattle.std.proofs.Common.{◌≡◌, drop}
use Rattle.counterexample.specs.Fillings.{filled_byte}
use Rattle.counterexample.specs.Memories.{byte_behind_all}
use Rattle.counterexample.proofs.memory.Memory.byte.Given as goal

-- the rest of the stores gives the byte behind all
abbrev pub invariant-loop-stored : goal.invariant-loop-stored
invariant-loop-stored l =
    (byte_behind_all (drop l.stored-index l.self.stores.items) l.a l.byte
    ≡ byte_behind_all l.self.stores.items l.a (filled_byte l.self.filling l.a))
