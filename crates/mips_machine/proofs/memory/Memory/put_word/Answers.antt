use Rattle.std.proofs.Common.{◌<◌, length, ap, subst, ◌∙◌}
use Rattle.std.specs.Prelude.{slice_set}
use Rattle.std.proofs.Common.{arith}
use Rattle.mips_machine.specs.Places.{bytes_in, with_word}
use Rattle.mips_machine.proofs.Rows.{stack_written, stack_reached, data_written, mapped, in_stack, in_data}
use Rattle.mips_machine.proofs.memory.Memory.put_word.Goals as goal

pub returns-then-a-ge-STACK_BASE-clause-bytes : goal.returns-then-a-ge-STACK_BASE-clause-bytes
returns-then-a-ge-STACK_BASE-clause-bytes c =
    let s = c.args.self.now in
    let g = s.globals.items in
    let grown = c.reach.new.stack.items in
    let below = in_stack (length g) c.args.a c.if-a-ge-STACK_BASE.true s.globals_fit (mapped (length g) c.args.a c.requires) in
    let place = c.stack_place-place.ensures.value in
    ap (λ k. bytes_in g (slice_set grown k c.args.word)) place
    ∙ stack_written g grown c.args.a c.args.word c.if-a-ge-STACK_BASE.true below (subst (λ k. k < length grown) place c.reach.ensures.held)
    ∙ ap (λ m. with_word m c.args.a c.args.word) (stack_reached g s.stack.items grown c.reach.ensures.same)

pub returns-else-a-ge-STACK_BASE-clause-bytes : goal.returns-else-a-ge-STACK_BASE-clause-bytes
returns-else-a-ge-STACK_BASE-clause-bytes c =
    let s = c.args.self.now in
    let n = length s.globals.items in
    let high = c.if-a-ge-STACK_BASE.false in
    let d = in_data n c.args.a high (mapped n c.args.a c.requires) in
    let lt = d.1 in
    let le = d.0 in
    data_written s.globals.items s.stack.items c.args.a c.args.word le high (omega arith)
