use Rattle.driver.proofs.portions.end_of.Goals as goal

pub returns-in-Some-clause-last : goal.returns-in-Some-clause-last
returns-in-Some-clause-last g c = λ n at. rw c.in-Some.is
