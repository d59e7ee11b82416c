use Rattle.driver.proofs.verdicts.check.Goals as goal

pub returns-in-Ok-clause-answer : goal.returns-in-Ok-clause-answer
returns-in-Ok-clause-answer c = λ n b o s.
    let same = c.in-Ok.ensures.only b o s in
    rw (same.0, same.1) at c.judge.ensures

pub returns-in-Err-Line-clause-answer : goal.returns-in-Err-Line-clause-answer
returns-in-Err-Line-clause-answer c = λ n b o s. absurd (let no = (rw c.in-Err-Line.field-0-is at c.in-Err-Line.ensures.only) b o s in cc)
