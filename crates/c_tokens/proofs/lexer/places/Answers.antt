use Rattle.c_tokens.proofs.Placing.{places-end, places-stop, places-skip, places-take}
use Rattle.c_tokens.proofs.lexer.places.Goals as goal

pub returns-in-Done : goal.returns-in-Done
returns-in-Done c = places-end _ _ _ _ c.lexemes.invariant c.in-Done.ensures.found

pub returns-in-Stop : goal.returns-in-Stop
returns-in-Stop c = places-stop _ _ _ _ _ _ c.lexemes.invariant c.in-Stop.ensures.found

pub lexemes-preserved-in-Skip : goal.lexemes-preserved-in-Skip
lexemes-preserved-in-Skip c = places-skip _ _ _ _ _ _ c.lexemes.invariant c.in-Skip.ensures.found c.in-Skip.ensures.fits.1 c.after-rest.ensures

pub lexemes-preserved : goal.lexemes-preserved
lexemes-preserved c = places-take _ _ _ _ _ _ _ _ c.lexemes.invariant c.in-Take.ensures.found c.in-Take.ensures.fits.1 c.after-rest-in-Take.ensures
    c.in_ok-push-in-Take.ensures.items
