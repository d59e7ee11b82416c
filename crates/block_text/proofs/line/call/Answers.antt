use Rattle.mblock.specs.declared.exit.Exit.{Exit}
use Rattle.mblock.specs.declared.exit.Exit.TheVariants as exits
use Rattle.block_text.specs.declared.line.TwoBlocks.{TwoBlocks}
use Rattle.block_text.proofs.Values.{made-one}
use Rattle.block_text.proofs.line.call.Goals as goal

pub returns-in_err-targets-clause-only : goal.returns-in_err-targets-clause-only
returns-in_err-targets-clause-only c = λ f n h.
    absurd (let none = c.in_err-targets.ensures.only (record { first = f; second = n }) h.0 h.2 in cc)

pub returns-clause-only : goal.returns-clause-only
returns-clause-only c = λ f n h.
    let call : TwoBlocks → Exit = λ t. exits.Call t.first t.second in
    made-one call _ (record { first = f; second = n }) (c.in_ok-targets.ensures.only (record { first = f; second = n }) h.0 h.2)
