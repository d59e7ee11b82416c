use Rattle.c_tokens.proofs.Once.{lexes-once, never-lexes, stops-once}
use Rattle.c_tokens.proofs.lexer.one_lexing.Goals as goal

pub returns-clause-once : goal.returns-clause-once
returns-clause-once c = λ text ts us ks js p q. lexes-once p us js q

pub returns-clause-refused : goal.returns-clause-refused
returns-clause-refused c = λ text r k ts ks s d. never-lexes s ts ks d

pub returns-clause-one_refusal : goal.returns-clause-one_refusal
returns-clause-one_refusal c = λ text r q k j s d. stops-once s q j d
