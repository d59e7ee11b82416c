-- What a clause says of a member: its deques, its own first, and what it took of each.
use Rattle.std.specs.Prelude.{◌≡◌, List, ◌∷◌, All, map}
use Rattle.crossbeam_deque.specs.Handles.{view, worker_view, worker_deque, worker_flavor, stealer_deque}
use Rattle.steal_pool.specs.declared.view.View.{View}
use Rattle.steal_pool.specs.declared.member.Member.{Member}
use Rattle.std.specs.declared.alloc.Global.{Global}
use Rattle.atomic_blocks.specs.Lent.{RowsId}
use Rattle.steal_pool.specs.Victims.{IsVictim}

module _ {K : Type 0} where
  -- each way is one of a deque that is first in, first out, and the member has no other part
  abbrev pub IsMember : Member K → Type 0
  IsMember m = (worker_flavor m.own ≡ 0) × All IsVictim m.others.items × (m ≡ record { own = m.own; others = m.others })

  abbrev pub views_of : Member K → List View
  views_of m = worker_view m.own ∷ map (λ l. view l.pass) m.others.items

  abbrev pub deques_of : Member K → List (RowsId × Global)
  deques_of m = worker_deque m.own ∷ map (λ l. stealer_deque l.stealer) m.others.items
