-- The calls that are active: kept with the latest one last, and meant with the latest one first.
use Rattle.std.proofs.Common.{◌≡◌, ℕ, Bool, List, ◌∙◌, ap, length, map, nat_lt}
use Rattle.std.proofs.lemmas.List.{length-map}
use Rattle.std.specs.declared.vec.Vec.{Vec}
use Rattle.std.specs.declared.alloc.Global.{Global}
use Rattle.runs.specs.Kept.{arrays}
use Rattle.runs.specs.Runs.{Running}
use Rattle.runs.specs.Calls.{calls_of, state_by}
use Rattle.runs.specs.declared.interpreter.Interpreter.{Interpreter}

-- as many calls as frames
pub room-of : {F Call : Type 0} (call_of : F → Call) (m : Interpreter F) (depth : ℕ) (b : Bool) → nat_lt (length (calls_of m)) depth ≡ b
    → nat_lt (length (map call_of (calls_of m))) depth ≡ b
room-of call_of m depth b is =
    let same : length (map call_of (calls_of m)) ≡ length (calls_of m) = simp length-map in
    ap (λ n. nat_lt n depth) same ∙ is

-- another interpreter with these calls, and with the globals and the output of the first
pub with-calls : {F Call : Type 0} (call_of : F → Call) (m new : Interpreter F) (calls : List F) → calls_of new ≡ calls → new.globals ≡ m.globals
    → new.output ≡ m.output → state_by call_of new ≡ Running (map call_of calls) (arrays m.globals.items) m.output.items
with-calls call_of m new calls is globals output =
    ap (λ cs. Running (map call_of cs) (arrays new.globals.items) new.output.items) is
    ∙ ap (λ (g : Vec (Vec ℕ Global) Global). Running (map call_of calls) (arrays g.items) new.output.items) globals
    ∙ ap (λ (out : Vec ℕ Global). Running (map call_of calls) (arrays m.globals.items) out.items) output
