use Rattle.std.proofs.Common.{◌∙◌, sym, true≢false}
use Rattle.mips_select.proofs.FrameSizes.{reachable, room_fits}
use Rattle.mips_select.proofs.program.homes_with_room.Goals as goal

pub returns-then-not-have_room-clause-limit : goal.returns-then-not-have_room-clause-limit
returns-then-not-have_room-clause-limit c = λ e fit.
    let h = c.in_ok-homed.homed in
    let room = (room_fits h c.args.depth c.in_ok-homed.ensures.places).1 (rw c.in_ok-homed.ensures.lent fit) in
    absurd (true≢false (sym (c.have_room.ensures.1 (rw c.as_slice.ensures.value room)) ∙ c.if-not-have_room.true))

pub returns-clause-frames : goal.returns-clause-frames
returns-clause-frames c = reachable c.in_ok-homed.homed c.args.depth c.in_ok-homed.ensures.places
    (rw (← c.as_slice.ensures.value) (c.have_room.ensures.0 c.if-not-have_room.false))

pub returns-clause-within : goal.returns-clause-within
returns-clause-within c = rw (← c.in_ok-homed.ensures.lent) ((room_fits c.in_ok-homed.homed c.args.depth c.in_ok-homed.ensures.places).0
    (rw (← c.as_slice.ensures.value) (c.have_room.ensures.0 c.if-not-have_room.false)))
