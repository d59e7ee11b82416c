use Rattle.mblock.specs.declared.exit.Exit.TheVariants as exits
use Rattle.block_text.proofs.Lacking.{read_two}
use Rattle.block_text.proofs.Values.{made-two, nothing}
use Rattle.block_text.proofs.line.zero.Goals as goal

pub returns-in_err-rs-clause-only : goal.returns-in_err-rs-clause-only
returns-in_err-rs-clause-only c = λ rs t e h.
    absurd (nothing _ (read_two c.in_err-rs.ensures.only rs (record { first = t; second = e }) (h.0.0, (h.0.1, h.0.2)) h.2))

pub returns-clause-only : goal.returns-clause-only
returns-clause-only c = λ rs t e h.
    made-two (λ r b. exits.BranchZero c.args.test r b.first b.second) _ rs (record { first = t; second = e })
    (read_two c.in_ok-rs.ensures.only rs (record { first = t; second = e }) (h.0.0, (h.0.1, h.0.2)) h.2)
