use Rattle.std.proofs.Common.{◌≡◌, List, ◌++◌, ◌+◌, drop}
use Rattle.mips_emit.specs.Locations.{facts_of, locations}
use Rattle.mips_emit.specs.Code.{arguments_code}
use Rattle.mips_emit.specs.Prefixes.{EmitsPrefix}
use Rattle.mips_isa.specs.declared.inst.Plain.{Plain}
use Rattle.mips_emit.proofs.exit.emit_arguments.Given as goal

abbrev pub invariant-loop-x : goal.invariant-loop-x
invariant-loop-x l =
    (l.t ≡ 4 + l.x-index)
    × (l.code.items ++ arguments_code (locations l.frame) (facts_of l.facts) l.t (drop l.x-index l.arguments)
    ≡ l.fn.code.items ++ arguments_code (locations l.frame) (facts_of l.facts) 4 l.arguments)
    × ((now : List Plain) → EmitsPrefix l.code.items (arguments_code (locations l.frame) (facts_of l.facts) l.t (drop l.x-index l.arguments)) now
    → EmitsPrefix l.fn.code.items (arguments_code (locations l.frame) (facts_of l.facts) 4 l.arguments) now)
