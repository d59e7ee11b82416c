use Rattle.std.proofs.Common.{◌≡◌, Bool, true, rules, subst, sym}
use Rattle.std.specs.Prelude.{IsTrue, ◌↔◌}
use Rattle.rtl.proofs.program.is_program.Goals as goal

tested : {P : Type 0} (b : Bool) → IsTrue b ↔ P → b ≡ true → P
tested b tests is_true = let yes : IsTrue true = search rules in tests.0 (subst IsTrue (sym is_true) yes)

pub returns-then-is_callee : goal.returns-then-is_callee
returns-then-is_callee c =
    let blocks = tested c.blocks_fit.result c.blocks_fit.ensures c.if-not-blocks_fit.false in
    let words = tested c.words_fit.result c.words_fit.ensures c.if-not-words_fit.false in
    let globals = tested c.are_globals.result c.are_globals.ensures c.if-not-are_globals.false in
    let main = tested c.is_callee.result c.is_callee.ensures c.if-is_callee.true in (
      λ t. record { functions = c.are_functions.ensures.0 t; globals = globals; main = main; blocks_fit = blocks; words_fit = words },
      λ p. c.are_functions.ensures.1 p.functions,
    )
