use Rattle.std.proofs.Common.{ap, ◌∙◌, List, ℕ}
use Rattle.c_tokens.specs.declared.keywords.Reserved.{Reserved}
use Rattle.c_tokens.specs.Lexing.{entry_in}
use Rattle.c_tokens.proofs.Beginning.{looked-up, no-keyword}
use Rattle.c_tokens.proofs.keywords.keyword.Goals as goal

pub returns-then-word-eq1 : goal.returns-then-word-eq1
returns-then-word-eq1 c = no-keyword c.args.word.now c.if-word-eq1.true

pub returns : goal.returns
returns c = c.look_up.ensures ∙ ap (λ (ks : List (List ℕ × Reserved)). entry_in ks c.args.word.now) c.beginning.ensures ∙ looked-up c.args.word.now
