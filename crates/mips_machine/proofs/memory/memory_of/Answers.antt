use Rattle.std.proofs.Common.{◌<◌, ◌^◌, arith}
use Rattle.std.specs.Prelude.{All}
use Rattle.std.proofs.lemmas.List.Elements.{All-from_get_or}
use Rattle.mips_machine.proofs.Rows.{bytes_first}
use Rattle.mips_machine.proofs.memory.memory_of.Goals as goal

pub returns-clause-bytes : goal.returns-clause-bytes
returns-clause-bytes c =
    let small : All (λ b. b < 2 ^ 8) c.args.bytes.now =
    All-from_get_or (λ b. b < 2 ^ 8) c.args.bytes.now 0 (λ i _. let fits = c.type_inv.bytes i in omega arith) in
    bytes_first c.args.bytes.now c.in_ok-globals.globals.items c.in_ok-stack.stack.items small c.in_ok-globals.ensures.count
    c.in_ok-globals.ensures.words c.in_ok-stack.ensures.items
