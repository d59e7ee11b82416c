use Rattle.std.proofs.Common.{refl, inl, inr}
use Rattle.host.specs.Requests.{reading_fault}
use Rattle.host.specs.Requests.Request.{Read, NotRead}
use Rattle.host.specs.OneFile.StopsFile.{unread, faulty, untold}
use Rattle.host.specs.Texts.{host_fault_text}
use Rattle.host.proofs.Told.{told_as}
use Rattle.host.proofs.Asked.{asked_once, asks_once, on_host, ran_answered, ran_stopped, read_as}
use Rattle.host.proofs.one_file.answer_file.Goals as goal

pub returns-in-Err-clause-ran : goal.returns-in-Err-clause-ran
returns-in-Err-clause-ran g c =
    let fault = c.in-Err.ensures.asked.0 in
    on_host refl refl refl (ran_stopped _ _ _ _ _ c.tell_unread.ensures.status (inl (asks_once _ _ _ (NotRead c.args.file.now fault) (host_fault_text (reading_fault fault)) _
    c.in-Err.ensures.asked.2 (told_as _ _ _ _ _ c.in-Err.ensures.asked.1 c.tell_unread.ensures.told) (unread fault (refl {a = c.args.host.now.out.now})))))

pub returns-in-Ok-run-clause-ran : goal.returns-in-Ok-run-clause-ran
returns-in-Ok-run-clause-ran g c =
    let answers = g.F.Files.answers in
    let bytes = c.as_slice-bytes.result.now in
    let took = c.in-Ok-run.ensures.took in
    record {
      same = record { files = refl; out = refl; err = refl };
      ran = ran_answered _ _ _ _ _ c.in-Ok-run.ensures.possible.1
          (record {
            requests = _;
            printed = took.took.0;
            asked = asked_once answers _ _ (Read c.args.file.now bytes) (read_as answers _ _ _ _ bytes c.as_slice-bytes.ensures.value c.in-Ok.ensures.asked);
            took = took.took.1;
            told = c.remark.ensures.0;
            heard = c.remark.ensures.1;
            means = record {
              bytes = bytes;
              asked = refl;
              answer = took.answer;
              answered = took.answered;
              prints = took.took.2;
              ends = took.ends;
              remarks = c.remark.ensures.2;
            };
          })
          c.in-Ok-run.ensures.sent;
    }

pub returns-in-Err-Faulty-clause-ran : goal.returns-in-Err-Faulty-clause-ran
returns-in-Err-Faulty-clause-ran g c =
    let bytes = c.as_slice-bytes.result.now in
    let broken = rw c.in-Err-Faulty.field-0-is at c.in-Err-Faulty.ensures.broken in
    on_host refl refl refl (ran_stopped _ _ _ _ _ c.tell.ensures.status (inl (asks_once _ _ _ (Read c.args.file.now bytes) _ _
    (read_as g.F.Files.answers _ _ _ _ bytes c.as_slice-bytes.ensures.value c.in-Ok.ensures.asked) c.tell.ensures.told
    (faulty bytes c.in-Err-Faulty.found broken.0 broken.1))))

pub returns-in-Err-Unprinted-clause-ran : goal.returns-in-Err-Unprinted-clause-ran
returns-in-Err-Unprinted-clause-ran g c =
    let bytes = c.as_slice-bytes.result.now in
    let broken = rw c.in-Err-Unprinted.field-0-is at c.in-Err-Unprinted.ensures.broken in
    on_host refl refl refl (ran_stopped _ _ _ _ _ c.tell_unprinted.ensures.status (inl (asks_once _ _ _ (Read c.args.file.now bytes) (host_fault_text c.in-Err-Unprinted.fault) _
    (read_as g.F.Files.answers _ _ _ _ bytes c.as_slice-bytes.ensures.value c.in-Ok.ensures.asked) c.tell_unprinted.ensures.told
    (untold bytes broken.0.0 broken.0.1 c.in-Err-Unprinted.fault broken.1 broken.2))))

pub returns-clause-ran : goal.returns-clause-ran
returns-clause-ran g c =
    let bytes = c.as_slice-bytes.result.now in
    let broken = rw c.in-Err-Midway.field-0-is at c.in-Err-Midway.ensures.broken in
    on_host refl refl refl (ran_stopped _ _ _ _ _ c.tell-in-Err-Midway.ensures.status (inr (record {
      requests = _;
      printed = broken.1.0;
      asked = asked_once g.F.Files.answers _ _ (Read c.args.file.now bytes)
          (read_as g.F.Files.answers _ _ _ _ bytes c.as_slice-bytes.ensures.value c.in-Ok.ensures.asked);
      took = broken.1.1;
      told = c.tell-in-Err-Midway.ensures.told;
      begins = record { bytes = bytes; asked = refl; streams = broken.0; begins = broken.1.2 };
    })))
