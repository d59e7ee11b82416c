use Rattle.std.proofs.Common.{◌++◌}
use Rattle.host.proofs.Told.{folds_on}
use Rattle.driver.proofs.remarks.tell_run.Goals as goal

pub returns : goal.returns
returns g c =
    let tells = g.E.Complaints.tells in
    let count = c.tell_count.ensures in
    let more = c.tell_more.ensures in
    let reason = c.tell_reason.ensures in (
      count.0 ++ (more.0 ++ reason.0),
      folds_on tells _ _ _ count.0 (more.0 ++ reason.0) count.1 (folds_on tells _ _ _ more.0 reason.0 more.1 reason.1),
      record {
        reason = reason.0;
        all = rw (count.2, more.2);
        shown = reason.2.0;
        only = reason.2.1;
      },
    )
