-- What a step is made on: the seat of a pass, and a word of the table's nodes.
use Rattle.std.specs.Prelude.{◌≡◌, true, []}
use Rattle.atomic_table.specs.declared.shared.Seat.{Seat}
use Rattle.term_core.specs.declared.Stage.TheVariants.{Idle}
use Rattle.term_core.specs.World.{Shape, may_begin}
use Rattle.term_table.specs.declared.nodes.Nodes.{Nodes}
use Rattle.term_table.specs.declared.view.View.{View}
use Rattle.term_table.specs.declared.view.View.TheVariants.{Walking}
use Rattle.term_table.specs.Calls.{Begun, walker_of, told_of}
use Rattle.term_table.specs.Rule.{shape_of}

-- the seat is of this table
abbrev pub IsSeatOf : {S : Type 0} → Nodes → Seat S View → Type 0
IsSeatOf n seat = seat.table_id ≡ n.table.shared.table_id

-- the seat is of this table, and the shape of the call is that of its sizes
abbrev pub Serves : {S : Type 0} → Nodes → Shape → Seat S View → Type 0
Serves n s seat = IsSeatOf n seat × (s ≡ shape_of n.size)

-- the seat is of the same table as before, and nothing is out with it
abbrev pub IsSameSeat : {S : Type 0} → Seat S View → Seat S View → Type 0
IsSameSeat before after = (after.table_id ≡ before.table_id) × (after.me.1 ≡ [])

-- the seat is that of a pass, and nothing is out with it
abbrev pub IsPass : {S : Type 0} → Seat S View → Type 0
IsPass seat = seat.me ≡ (Walking (walker_of seat.me.0) (told_of seat.me.0), [])

-- the pass may begin the call: it is between two calls, and has seen the tickets that the call names
abbrev pub MayBegin : Begun → Type 0
MayBegin b = (b.start.stage ≡ Idle) × (may_begin b.start.seen b.call ≡ true)
