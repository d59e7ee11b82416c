use Rattle.c_front.proofs.Faulting.{lexical-is, syntactic-is, told-memory}
use Rattle.c_front.proofs.text.read.Goals as goal

pub returns-in-Err-clause-err : goal.returns-in-Err-clause-err
returns-in-Err-clause-err c = lexical-is _ _ _ c.in_default.ensures.short c.in_default.ensures.bytes c.in-Err.ensures.err c.lexical.ensures

pub returns-in-Ok-parse-clause-err : goal.returns-in-Ok-parse-clause-err
returns-in-Ok-parse-clause-err c = told-memory _ _ c.in_default.ensures.short c.in_default.ensures.bytes c.no_memory.ensures

pub returns-clause-err : goal.returns-clause-err
returns-clause-err c = syntactic-is _ _ _ _ _ c.in_default.ensures.short c.in_default.ensures.bytes c.in-Ok.ensures.ok c.deref.ensures.value
    c.in-Err-parse.ensures.err c.syntactic.ensures
