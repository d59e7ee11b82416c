use Rattle.std.proofs.Common.{◌∙◌, length, ap}
use Rattle.mips_select.specs.Data.{starts_from}
use Rattle.mips_select.proofs.DataPlaces.{starts_inside, starts_length}
use Rattle.mips_select.proofs.Selecting.{functions_emittable}
use Rattle.mips_select.proofs.program.emit_program.Goals as goal

pub invariant_of-linkage : goal.invariant_of-linkage
invariant_of-linkage c = record {
  inside = starts_inside _ _ (c.as_slice-starts.ensures.value ∙ c.in_ok-table.ensures ∙ ap (starts_from 0) c.globals-globals.ensures.value)
      (c.globals-globals.ensures.sound).words_fit;
}

pub emit_functions-requires-clause-functions : goal.emit_functions-requires-clause-functions
emit_functions-requires-clause-functions c =
    functions_emittable _ _ _ c.functions-functions.ensures.sound c.functions-functions.ensures.value
    (ap length (c.as_slice-starts.ensures.value ∙ c.in_ok-table.ensures) ∙ starts_length 0 c.globals-globals.result.now
    ∙ ap length c.globals-globals.ensures.value)

pub returns : goal.returns
returns c = rw (c.in_ok-emit_functions.ensures, c.in_ok-emit_end.ensures, c.in_ok-emit_start.ensures, c.in_ok-out.ensures.items, c.number_at.ensures)
    (rw (c.requires.entries, c.as_slice-starts.ensures.value, c.in_ok-table.ensures, c.globals-globals.ensures.value)
    (rw (c.functions-functions.ensures.value, c.as_slice-frames.ensures.value, c.main.ensures.value)))
