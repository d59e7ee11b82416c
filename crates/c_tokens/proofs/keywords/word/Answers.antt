use Rattle.std.proofs.Common.{ap, sym, subst, ◌∙◌, ℕ, Option, length, take, arith}
use Rattle.c_tokens.specs.declared.keywords.Reserved.{Reserved}
use Rattle.c_tokens.specs.declared.lexer.Lexeme.{Lexeme}
use Rattle.c_tokens.specs.Lexing.{entry_in, keywords, word_lexeme}
use Rattle.c_tokens.specs.Texts.{Fits}
use Rattle.c_tokens.proofs.Beginning.{word-fits}
use Rattle.c_tokens.proofs.keywords.word.Goals as goal

pub returns-clause-same : goal.returns-clause-same
returns-clause-same c = c.lexeme_of.ensures ∙ ap (λ (x : Option Reserved). word_lexeme x c.word_length-n.result) c.keyword.ensures
    ∙ ap (λ (n : ℕ). word_lexeme (entry_in keywords (take n c.args.text.now)) n) c.word_length-n.ensures.same

pub returns-clause-fits : goal.returns-clause-fits
returns-clause-fits c = subst (λ (x : Lexeme). Fits x (length c.args.text.now)) (sym c.lexeme_of.ensures)
    (word-fits c.keyword.result c.word_length-n.result (length c.args.text.now) (omega (arith, c.requires, c.word_length-n.ensures.same)) c.word_length-n.ensures.fits)
