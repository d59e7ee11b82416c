use Rattle.std.proofs.Common.{List, ℕ}
use Rattle.std.proofs.lemmas.Result.{IfOk-weaker, IfErr-weaker}
use Rattle.c_types.specs.Shape.{program_of}
use Rattle.c_types.specs.Typed.{SpellsTyped}
use Rattle.driver.specs.BuildCommand.{IsBuiltAs, IsUnbuilt}
use Rattle.driver.proofs.build_command.built_as_asked.Goals as goal

pub returns-clause-built : goal.returns-clause-built
returns-clause-built g c =
    let asked = c.args.asked.now in
    IfOk-weaker _ _ (λ b. (text : List ℕ) → SpellsTyped text (program_of c.args.typed.now) → IsBuiltAs text asked.depth asked.plain b)
    (λ b of text spelled. of text (c.in_ok-unit.ensures.unit text spelled)) c.ordered_as_asked-built.ensures.built

pub returns-clause-fault : goal.returns-clause-fault
returns-clause-fault g c =
    IfErr-weaker _ _ (λ fault. (text : List ℕ) → SpellsTyped text (program_of c.args.typed.now) → IsUnbuilt text c.args.asked.now.depth fault)
    (λ fault of text spelled. of text (c.in_ok-unit.ensures.unit text spelled)) c.ordered_as_asked-built.ensures.fault
