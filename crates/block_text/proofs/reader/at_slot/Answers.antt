use Rattle.std.proofs.Common.{ap}
use Rattle.block_text.specs.StageParts.{Done}
use Rattle.block_text.proofs.reader.at_slot.Goals as goal

pub returns-in-None-clause-leads : goal.returns-in-None-clause-leads
returns-in-None-clause-leads c = λ q s. absurd (let none = c.in-None.ensures.only s.0 s.1 in cc)

pub returns-in-Some-new-clause-leads : goal.returns-in-Some-new-clause-leads
returns-in-Some-new-clause-leads c =
    let o = c.in-Some-new.ensures.1 in (
      (c.in-Some.inst, c.in-Some.ensures.found, ap (λ x. Done c.args.block x) o),
      λ q s. let same = c.in-Some.ensures.only s.0 s.1 in let to = s.2 in cc,
    )
