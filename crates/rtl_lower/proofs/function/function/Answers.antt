use Rattle.std.proofs.Common.{ap, arith, subst, sym}
use Rattle.std.specs.Prelude.{false, is_some, None}
use Rattle.c_typed.specs.Shape.{function_of, statements_of}
use Rattle.c_typed.specs.Trees.{TypedStatements}
use Rattle.c_typed.specs.WellFormed.{FitsStatements}
use Rattle.rtl.specs.declared.instruction.RExit.TheVariants as X
use Rattle.rtl_emit.proofs.Sound.{sound_along, sound_exit, sound_line}
use Rattle.rtl_emit.specs.Blocks.{insts_in, insts_of, spot}
use Rattle.rtl_emit.proofs.Blocks.{line_insts, within}
use Rattle.rtl_lower.specs.Sizes.{statements_registers}
use Rattle.rtl_lower.proofs.Sound.{fewer}
use Rattle.rtl_lower.proofs.Functions.{function_code}
use Rattle.rtl_lower.proofs.function.function.Goals as goal

pub returns-clause-code : goal.returns-clause-code
returns-clause-code c =
    function_code _ _ _ _ _ _ _ _ _ _ _ c.in_ok-free.ensures.is c.in_ok-parameters.ensures.is (ap statements_of c.as_slice.ensures.value)
    c.in_ok-blocks.ensures.items
    c.in_ok-entry.ensures.reserves c.in_ok-code.ensures.does c.open_block.ensures c.fill.ensures.fills c.in_ok-code.ensures.count
    (let filled = ap insts_of c.open_block.ensures in let end = ap insts_of c.exit_block.ensures in let line = line_insts (spot c.in_ok-code.code) in
    omega (arith, c.in_ok-entry.ensures.insts, ap insts_in c.in_ok-blocks.ensures.items, c.in_ok-code.ensures.sound.2, filled, line, end, c.fill.ensures.insts))
    (λ p s su fits le.
    let n = rw c.fill.ensures.fills.same_length at le in
    let some = rw (c.in_ok-entry.ensures.reserves.longer, c.in_ok-blocks.ensures.items) at (within c.in_ok-code.ensures.grows n) in
    let g = c.in_ok-entry.ensures.sound s (rw c.in_ok-blocks.ensures.items tt) in
    let body = subst (λ (b : TypedStatements). FitsStatements p c.args.f.now.locals (is_some c.args.f.now.result) false b)
    (sym (ap statements_of c.as_slice.ensures.value))
    fits.body in
    let same = ap (λ b. statements_registers b c.in_ok-free.free) (ap statements_of c.as_slice.ensures.value) in
    let low = ap (statements_registers (function_of c.args.f.now).body) c.in_ok-free.ensures.is in
    let m = c.in_ok-code.ensures.sound.1 p c.args.f.now.locals (is_some c.args.f.now.result) false body s n g
    (fewer su (omega (arith, same, low)), (some, (tt, sound_exit (X.Return None) c.exit_block.ensures tt))) in
    c.fill.ensures.sound s m.0 (sound_along c.open_block.ensures (sound_line _ m.1)))
