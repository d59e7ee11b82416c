use Rattle.std.proofs.Common.{map, take}
use Rattle.driver.specs.CheckTexts.{IsCheckStatus}
use Rattle.driver.specs.FileLine.{AreChecked}
use Rattle.host.specs.Hosts.{IsSameHost}
use Rattle.host.specs.Requests.{host_of, relations}
use Rattle.driver.proofs.several.check_files.Given as goal

abbrev pub invariant-loop-name : goal.invariant-loop-name
invariant-loop-name g l = record {
  status : IsCheckStatus l.totals.status;
  lines : AreChecked (relations g.F.Files.answers g.W.Write.contents g.W.Output.sends g.W.Output.refuses g.E.Complaints.tells)
      (host_of l.fn.host.files.now (g.W.Write.contents l.fn.host.out.now) l.fn.host.err.now)
      (host_of l.host.files.now (g.W.Write.contents l.host.out.now) l.host.err.now) l.explain (take l.name-index (map (λ s. s.now) l.names)) l.totals;
  same : IsSameHost l.fn.host l.host;
}
