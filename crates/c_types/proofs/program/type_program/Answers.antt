use Rattle.std.proofs.Common.{rules, sym, ap, ◌∙◌}
use Rattle.c_statements.specs.Names.{Scopes}
use Rattle.c_statements.proofs.Joins.{answers-err, answers-of}
use Rattle.c_types.proofs.Main.{main-is, program-told, typed-program}
use Rattle.c_types.proofs.program.type_program.Goals as goal

pub returns-in_err-parts-2 : goal.returns-in_err-parts-2
returns-in_err-parts-2 c =
    let there = ap (λ (s : Scopes). s.inner) (c.declarations.ensures.scopes c.in_ok-parts.ensures.ok.1) in
    let told = program-told _ _ there c.declarations.ensures.typed (answers-of c.has_main.ensures.none c.has_main.ensures.err) in
    let was = rw c.in_ok-parts.ensures.ok.0 at (sym c.both.ensures ∙ c.in_err-parts-2.was) in
    answers-err c.in_err-parts-2.field-0.0 (search rules) (rw (← c.as_slice-all.ensures.value) (rw was at told).err)

pub number_of-main-requires : goal.number_of-main-requires
number_of-main-requires c =
    let there = ap (λ (s : Scopes). s.inner) (c.declarations.ensures.scopes c.in_ok-parts.ensures.ok.1) in
    let told = program-told _ _ there c.declarations.ensures.typed (answers-of c.has_main.ensures.none c.has_main.ensures.err) in
    let was = rw c.in_ok-parts.ensures.ok.0 at (sym c.both.ensures ∙ c.in_ok-parts-2.was) in
    rw c.innermost.ensures (main-is _ _ there (rw was at told).none)

pub returns : goal.returns
returns c =
    let there = ap (λ (s : Scopes). s.inner) (c.declarations.ensures.scopes c.in_ok-parts.ensures.ok.1) in
    let told = program-told _ _ there c.declarations.ensures.typed (answers-of c.has_main.ensures.none c.has_main.ensures.err) in
    let was = rw c.in_ok-parts.ensures.ok.0 at (sym c.both.ensures ∙ c.in_ok-parts-2.was) in
    let all = rw was at told in
    rw (c.new.ensures, ← c.as_slice-all.ensures.value) (record {
      ok = typed-program _ _ _ _ _ _ all.ok.0 there c.innermost.ensures c.number_of-main.ensures;
      none = all.none;
      err = tt;
    })
