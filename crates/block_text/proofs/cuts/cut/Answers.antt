use Rattle.std.proofs.Common.{◌∙◌, sym}
use Rattle.block_text.proofs.Marks.{cut_here, cut_only, cut_none, first_lacks, none_lacks}
use Rattle.block_text.proofs.cuts.cut.Goals as goal

pub returns-clause-found : goal.returns-clause-found
returns-clause-found c = cut_here c.args.mark c.args.text.now c.in_ok-at.at (sym c.position_of.ensures ∙ c.in_ok-at.was)

pub returns-in_err-at-clause-only : goal.returns-in_err-at-clause-only
returns-in_err-at-clause-only c = λ a b l e.
    absurd (cut_none c.args.mark c.args.text.now a b (sym c.position_of.ensures ∙ c.in_err-at.was) l e)

pub returns-clause-only : goal.returns-clause-only
returns-clause-only c = λ a b l e.
    cut_only c.args.mark c.args.text.now c.in_ok-at.at a b (sym c.position_of.ensures ∙ c.in_ok-at.was) l e

pub returns-clause-first : goal.returns-clause-first
returns-clause-first c = first_lacks c.args.mark c.args.text.now c.in_ok-at.at (sym c.position_of.ensures ∙ c.in_ok-at.was)

pub returns-in_err-at-clause-none : goal.returns-in_err-at-clause-none
returns-in_err-at-clause-none c = rw c.from_residual.ensures (none_lacks c.args.mark c.args.text.now (sym c.position_of.ensures ∙ c.in_err-at.was))
