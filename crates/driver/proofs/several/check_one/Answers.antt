use Rattle.std.proofs.Common.{refl, inl, inr}
use Rattle.host.specs.Requests.Request.{Read, NotRead}
use Rattle.host.proofs.Asked.{read_as}
use Rattle.driver.specs.Checks.{IsAnswerTo}
use Rattle.driver.proofs.several.check_one.Goals as goal

pub returns-in-Err : goal.returns-in-Err
returns-in-Err g c =
    let why = c.in-Err.ensures.asked in (
      NotRead c.args.name.now why.0,
      why.2,
      rw c.bare.ensures ((refl, inr (why.0, why.1, refl)), (_, c.tell_unread-one.ensures.told, refl)),
    )

pub returns : goal.returns
returns g c =
    let text = c.as_slice-text.result.now in
    let spelled = c.in-Ok-check.ensures.spelled in
    let right : IsAnswerTo text c.in-Ok-check.answer = record {
      small = spelled.0;
      block = spelled.1;
      order = spelled.2;
      spelled = spelled.3;
      decided = c.in-Ok-check.ensures.answer spelled.0 spelled.1 spelled.2 spelled.3;
    } in (
      Read c.args.name.now text,
      read_as g.F.Files.answers _ _ _ _ text c.as_slice-text.ensures.value c.in-Ok.ensures.asked,
      rw c.bare-in-Err-more_of.ensures (
        (refl, inl (refl, c.in-Err-more_of.ensures.refused, (text, c.in-Ok-check.answer, refl, right))),
        (_, c.tell-one.ensures.told, refl),
      ),
    )
