use Rattle.std.proofs.Common.{◌∙◌, ap}
use Rattle.c_types.specs.Shape.{program_of}
use Rattle.rtl.specs.Programs.{Program}
use Rattle.rtl_lower.proofs.Functions.{program_made, plain_functions, room_of}
use Rattle.rtl_lower.proofs.Sound.{parts_program, sizes_are}
use Rattle.rtl_lower.proofs.program.lower.Goals as goal

pub returns-clause-runs : goal.returns-clause-runs
returns-clause-runs c =
    program_made c.args.program.now c.functions.result.now c.globals.result.now c.in_ok-functions.functions.items c.in_ok-globals.globals.items
    c.in_ok-main.main c.in-Some.lowered c.in-Some.ensures.1 (c.in_ok-main.ensures.is ∙ c.main.ensures.value) c.functions.ensures.value c.globals.ensures
    c.in_ok-functions.ensures.codes c.in_ok-globals.ensures.are c.functions.ensures.fits

pub returns-clause-sizes : goal.returns-clause-sizes
returns-clause-sizes c =
    sizes_are c.args.program.now c.functions.result.now c.in_ok-functions.functions.items _ c.functions.ensures.value
    (ap (λ (p : Program). p.functions) c.in-Some.ensures.1) c.in_ok-functions.ensures.codes c.functions.ensures.fits

pub functions-requires-2 : goal.functions-requires-2
functions-requires-2 c = record { plain = rw c.functions.ensures.value (plain_functions (program_of c.args.program.now) c.functions.ensures.fits) }

pub returns-in_default-clause-limit : goal.returns-in_default-clause-limit
returns-in_default-clause-limit c = λ e room.
    c.in_default.ensures (parts_program c.args.program.now c.functions.result.now c.globals.result.now c.in_ok-functions.functions.items
    c.in_ok-globals.globals.items c.in_ok-main.main (c.in_ok-main.ensures.is ∙ c.main.ensures.value) c.functions.ensures.value c.globals.ensures
    c.in_ok-functions.ensures.codes c.in_ok-globals.ensures.are c.in_ok-functions.ensures.count c.functions.ensures.fits room)

pub if_blocks_fit-requires : goal.if_blocks_fit-requires
if_blocks_fit-requires c = λ fit.
    parts_program c.args.program.now c.functions.result.now c.globals.result.now c.in_ok-functions.functions.items
    c.in_ok-globals.globals.items c.in_ok-main.main (c.in_ok-main.ensures.is ∙ c.main.ensures.value) c.functions.ensures.value c.globals.ensures
    c.in_ok-functions.ensures.codes c.in_ok-globals.ensures.are c.in_ok-functions.ensures.count c.functions.ensures.fits
    (rw (← c.functions.ensures.value)
    (room_of _ c.in_ok-functions.functions.items fit c.in_ok-functions.ensures.count c.in_ok-functions.ensures.room))
