use Rattle.std.proofs.Common.{ℕ}
use Rattle.block_text.specs.declared.line.TwoBlocks.{TwoBlocks}
use Rattle.block_text.proofs.Lacking.{comma_block}
use Rattle.block_text.proofs.Values.{made-two, nothing}
use Rattle.block_text.proofs.line.TwoBlocksSpelled.read.Goals as goal

pub returns-in_err-first-clause-only : goal.returns-in_err-first-clause-only
returns-in_err-first-clause-only c = λ t h e.
    absurd (nothing (t.first, t.second) (c.in_err-first.ensures.only t.first t.second (comma_block t.first h.0) h.0 h.1 e))

pub returns-clause-only : goal.returns-clause-only
returns-clause-only c = λ t h e.
    let make : ℕ → ℕ → TwoBlocks = λ a b. record { first = a; second = b } in
    made-two make _ t.first t.second (c.in_ok-first.ensures.only t.first t.second (comma_block t.first h.0) h.0 h.1 e)
