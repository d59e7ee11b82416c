use Rattle.mblock.specs.declared.exit.Exit.TheVariants as exits
use Rattle.block_text.proofs.Lacking.{read_three}
use Rattle.block_text.proofs.Values.{made-three, nothing}
use Rattle.block_text.proofs.line.pair.Goals as goal

pub returns-in_err-rs-clause-only : goal.returns-in_err-rs-clause-only
returns-in_err-rs-clause-only c = λ rs rt t e h.
    absurd (nothing _ (read_three c.in_err-rs.ensures.only rs rt (record { first = t; second = e }) (h.0.0, h.0.1, (h.0.2, h.0.3)) h.2))

pub returns-clause-only : goal.returns-clause-only
returns-clause-only c = λ rs rt t e h.
    made-three (λ r q b. exits.BranchPair c.args.test r q b.first b.second) _ rs rt (record { first = t; second = e })
    (read_three c.in_ok-rs.ensures.only rs rt (record { first = t; second = e }) (h.0.0, h.0.1, (h.0.2, h.0.3)) h.2)
