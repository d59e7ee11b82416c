use Rattle.c_tokens.specs.declared.token.Token.TheVariants.{The}
use Rattle.c_front.proofs.Choices.{item-follows}
use Rattle.c_front.proofs.Steps.{at-first}
use Rattle.c_front.proofs.statement.ends_items.Goals as goal

pub returns-in_default-clause-more : goal.returns-in_default-clause-more
returns-in_default-clause-more c = λ h. rw c.in-Some.ensures.some (item-follows _ (c.in_default.not-The _))

pub returns-in_default-mark-clause-more : goal.returns-in_default-mark-clause-more
returns-in_default-mark-clause-more c = λ h. rw (at-first c.in-Some.ensures.some c.in-The.is)
    (item-follows (The c.in-The.mark) (λ e. c.in_default-mark.not-RightBrace (cc)))
