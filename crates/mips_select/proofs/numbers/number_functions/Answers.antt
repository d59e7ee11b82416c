use Rattle.std.proofs.Common.{map, refl, arith}
use Rattle.std.proofs.lemmas.List.{at_drop_all, map_push}
use Rattle.std.specs.declared.alloc.Global.{Global}
use Rattle.std.specs.declared.vec.Vec.{Vec}
use Rattle.mips_select.specs.declared.heads.Naming.{Naming}
use Rattle.mips_select.specs.Heads.{namings_of}
use Rattle.mips_select.specs.Whole.{entries_from, functions_size, owners_from}
use Rattle.std.proofs.lemmas.Option.{slice_get_read}
use Rattle.mips_select.proofs.Linked.{function_some}
use Rattle.mips_select.proofs.Lists.{drop_item, made_more, all_made}
use Rattle.mips_select.proofs.numbers.number_functions.Goals as goal

pub loop-func-init : goal.loop-func-init
loop-func-init c =
    let none = c.in_ok-numbers.ensures in rw (none.namings, none.entries, none.owners) (omega arith, refl, refl, refl, refl)

pub count_function-size-requires-clause-few : goal.count_function-size-requires-clause-few
count_function-size-requires-clause-few c =
    c.requires c.loop-func.func-index c.func-item.result (slice_get_read _ _ c.loop-func.func-index _ refl c.loop-func-test.true c.func-item.is)

pub number-requires : goal.number-requires
number-requires c = omega (arith, function_some c.func-item.result.blocks.items, c.count_function-size.ensures.value, c.if-size-k.false)

pub returns-then-size-k-clause-limit : goal.returns-then-size-k-clause-limit
returns-then-size-k-clause-limit c = λ _.
    let sizes = drop_item functions_size c.args.functions.now c.loop-func.func-index c.loop-func-test.true c.func-item.is in
    omega (arith, sizes, c.count_function-size.ensures.value, c.loop-func.invariant.1, c.if-size-k.true)

pub loop-func-preserved : goal.loop-func-preserved
loop-func-preserved c =
    let items = λ (t : Vec Naming Global). t.items in
    let k = c.loop-func.k in
    let funcs = c.args.functions.now in
    let i = c.loop-func.func-index in
    let lt = c.loop-func-test.true in
    let size = c.count_function-size.ensures.value in
    let old = c.loop-func.numbers in (
      omega (arith, c.if-size-k.false),
      omega (arith, drop_item functions_size funcs i lt c.func-item.is, size, c.loop-func.invariant.1),
      rw (c.in_ok-push_function.ensures.namings, map_push items old.namings.items c.in_ok-table.table, c.in_ok-table.ensures, c.as_slice.ensures.value)
          (made_more (map namings_of) funcs i _ _ _ lt c.func-item.is refl c.loop-func.invariant.2),
      rw (c.in_ok-push_function.ensures.entries, c.number.ensures, size)
          (made_more (entries_from k) funcs i _ _ _ lt c.func-item.is refl c.loop-func.invariant.3),
      rw (c.in_ok-push_function.ensures.owners, c.number.ensures, size)
          (made_more (owners_from k) funcs i _ _ _ lt c.func-item.is refl c.loop-func.invariant.4),
    )

pub returns-clause-namings : goal.returns-clause-namings
returns-clause-namings c = all_made (map namings_of) c.args.functions.now c.loop-func.func-index c.loop-func-test.false refl c.loop-func.invariant.2

pub returns-clause-entries : goal.returns-clause-entries
returns-clause-entries c = all_made (entries_from c.loop-func.k) c.args.functions.now c.loop-func.func-index c.loop-func-test.false refl
    c.loop-func.invariant.3

pub returns-clause-owners : goal.returns-clause-owners
returns-clause-owners c = all_made (owners_from c.loop-func.k) c.args.functions.now c.loop-func.func-index c.loop-func-test.false refl
    c.loop-func.invariant.4

pub returns-clause-few : goal.returns-clause-few
returns-clause-few c =
    let none = at_drop_all functions_size c.args.functions.now c.loop-func.func-index c.loop-func-test.false in
    omega (arith, none, c.loop-func.invariant.0, c.loop-func.invariant.1)
