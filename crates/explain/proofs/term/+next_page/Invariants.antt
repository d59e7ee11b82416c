use Rattle.std.proofs.Common.{◌<◌}
use Rattle.explain.proofs.term.+next_page.Given as goal

abbrev pub decreases-next_page : goal.decreases-next_page
decreases-next_page l = l.depth

abbrev pub invariant-loop : goal.invariant-loop
invariant-loop l = 0 < l.depth
