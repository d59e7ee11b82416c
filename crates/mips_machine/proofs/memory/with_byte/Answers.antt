use Rattle.std.proofs.Common.{◌∙◌, ap, arith}
use Rattle.std.specs.Prelude.{slice_set}
use Rattle.std.specs.Int.{w32, from_be_bytes}
use Rattle.mips_machine.proofs.Rows.{byte_put}
use Rattle.mips_machine.proofs.memory.with_byte.Goals as goal

pub returns : goal.returns
returns c =
    let small = c.ranges.byte.fits in
    byte_put c.args.word c.args.place c.args.byte c.from_be_bytes.result c.requires (omega arith)
    (c.from_be_bytes.ensures ∙ ap (λ xs. from_be_bytes w32 (slice_set xs c.args.place c.args.byte)) c.to_be_bytes-bytes.ensures)
