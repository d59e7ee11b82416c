-- One word of the machine, and words one after another: nothing where a rule is broken.
use Rattle.std.specs.Prelude.{List, [], ◌∷◌, Option, Some, None, if◌then◌else◌}
use Rattle.mips_isa.specs.declared.action.Action.{Action}
use Rattle.mips_isa.specs.Flows.{Flow, flow_after}
use Rattle.mips_isa.specs.Rules.{is_stuck}

-- one word
abbrev pub word : Action → Flow → Option Flow
word a f = if is_stuck a f then None else Some (flow_after a f)

abbrev pub words_from : List Action → Option Flow → Option Flow
words_from acts None = None
words_from [] (Some f) = Some f
words_from (a ∷ rest) (Some f) = words_from rest (word a f)
