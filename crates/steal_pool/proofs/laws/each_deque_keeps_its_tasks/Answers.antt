use Rattle.steal_pool.proofs.Steps.{begins, dealt_puts, dealt_takes, dealt_shares, dealt_notes}
use Rattle.steal_pool.proofs.laws.each_deque_keeps_its_tasks.Goals as goal

pub returns : goal.returns
returns c = record { begins = begins; puts = dealt_puts; takes = dealt_takes; shares = dealt_shares; empty = dealt_notes }
