use Rattle.counterexample.proofs.Same.{no_byte}
use Rattle.counterexample.proofs.difference.first_byte.Goals as goal

pub returns-in-None-clause-none : goal.returns-in-None-clause-none
returns-in-None-clause-none c =
    no_byte c.args.a.now c.args.b.now _ _ c.byte_of_stores-in-None.result c.as_slice.ensures.value c.as_slice-in-None.ensures.value c.requires
    c.in-None.ensures.none c.byte_of_stores-in-None.ensures.none
