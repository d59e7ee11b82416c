use Rattle.std.proofs.Common.{◌≡◌, suc, ◌+◌, ◌-◌, length, ap, ◌∙◌, append_assoc, arith}
use Rattle.std.proofs.lemmas.List.{length-drop}
use Rattle.mips_asm.proofs.listing.put_words.Goals as goal

pub loop-preserved : goal.loop-preserved
loop-preserved c =
    let lt = c.loop-test.true in
    let at = c.loop.invariant.1 in
    let room = c.loop.invariant.2 in
    let rest = c.split_at.ensures.back in
    let shorter : length c.split_at.result.1.now ≡ length c.loop.rest.now - 4 = ap length rest ∙ length-drop 4 c.loop.rest.now in
    let next : c.args.count - c.loop.counter ≡ suc (c.args.count - (c.loop.counter + 1)) = omega arith in
    let so_far = rw next at c.loop.invariant.0 in
    (rw (rest, c.in_ok-writeln.ensures.bytes, append_assoc, c.word_at_byte.ensures) so_far, omega arith, omega arith)
