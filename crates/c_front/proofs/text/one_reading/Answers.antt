use Rattle.c_front.proofs.Excluding.{once, excluded, one-fault}
use Rattle.c_front.proofs.text.one_reading.Goals as goal

pub returns-clause-once : goal.returns-clause-once
returns-clause-once c = once

pub returns-clause-refused : goal.returns-clause-refused
returns-clause-refused c = λ text k at p f n s. excluded f p n s

pub returns-clause-one_fault : goal.returns-clause-one_fault
returns-clause-one_fault c = λ text k j at n f g a b. one-fault f j n g a b
