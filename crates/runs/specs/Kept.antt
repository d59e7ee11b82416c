-- What an interpreter keeps a run's words in, and what that stands for.
use Rattle.std.specs.Prelude.{ℕ, List, Option, None, map, slice_index_or}
use Rattle.std.specs.declared.vec.Vec.{Vec}
use Rattle.std.specs.declared.alloc.Global.{Global}
use Rattle.runs.specs.Stores.{Places, Arrays}

-- the locals or registers by their numbers, None outside
abbrev pub places : List (Option ℕ) → Places
places words = λ x. slice_index_or words x None

-- the words of each global
abbrev pub arrays : List (Vec ℕ Global) → Arrays
arrays globals = map (λ a. a.items) globals
