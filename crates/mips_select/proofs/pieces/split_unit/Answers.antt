use Rattle.std.proofs.Common.{rules, arith}
use Rattle.std.proofs.lemmas.Result.{err_from_is_err_and}
use Rattle.mips_select.specs.Split.{first_piece_of}
use Rattle.mips_select.proofs.Places.{length-split_from, total_above}
use Rattle.mips_select.proofs.Well.{pieces_linked, pieces_owned}
use Rattle.mips_select.proofs.SplitSimulation.{comes_to}
use Rattle.mips_select.proofs.pieces.split_unit.Goals as goal

pub returns-in_err-numbers-clause-limit : goal.returns-in_err-numbers-clause-limit
returns-in_err-numbers-clause-limit c =
    let p = err_from_is_err_and c.from_residual.result c.from_residual.ensures.1 in
    let long = length-split_from 512 (first_piece_of 512 c.args.long.items) 0 c.args.long.items in
    rw (p.1, p.2) (λ e. omega (arith, rw c.as_slice.ensures.value at (c.in_err-numbers.ensures.limit e), long))

pub of-requires : goal.of-requires
of-requires c =
    let long = c.args.long.items in
    let count = length-split_from 512 (first_piece_of 512 long) 0 long in
    let few = rw c.as_slice.ensures.value at c.in_ok-numbers.ensures.few in
    let numbers = rw c.as_slice.ensures.value at c.in_ok-numbers.ensures.numbers in
    rw (c.in_ok-blocks.ensures, c.in_ok-owners.ensures, c.as_slice-3.ensures.value, c.as_slice-4.ensures.value, c.as_slice-2.ensures.value, numbers) (record {
      some = omega (arith, c.requires.some, total_above 512 long, count);
      few = omega (arith, few, count);
      linked = pieces_linked 512 (omega arith) long c.requires.linked;
      owners = pieces_owned 512 (omega arith) long c.args.owner.now c.requires.owners;
      data_fits = c.requires.few;
      data_bytes = search rules;
    })

pub returns-clause-runs : goal.returns-clause-runs
returns-clause-runs c = λ s r end comes.
    let numbers = rw c.as_slice.ensures.value at c.in_ok-numbers.ensures.numbers in
    rw (c.of.ensures, c.in_ok-blocks.ensures, c.as_slice-4.ensures.value, numbers) (comes_to 512 c.args.long.items c.requires.linked s r end comes)
