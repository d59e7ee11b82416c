use Rattle.std.proofs.Common.{◌≡◌, sym, ap, ◌∙◌, arith}
use Rattle.std.proofs.lemmas.List.{take_all}
use Rattle.c_tree.specs.Shape.{declaration_of}
use Rattle.c_statements.specs.Shape.{scopes_of}
use Rattle.c_statements.specs.Names.{Scopes}
use Rattle.c_types.specs.Files.{counts_of, file_of, file_scopes}
use Rattle.c_types.specs.Programs.{Counts, File, after, no_declarations}
use Rattle.c_types.proofs.Declarations.{SoFar, after-more, functions-grow, globals-grow, none-so-far, one-so-far}
use Rattle.c_types.proofs.program.declarations.Goals as goal

pub loop-one-init : goal.loop-one-init
loop-one-init c = record {
  so_far = none-so-far c.args.program.now.text.items (record { functions = c.new.result; globals = c.new-2.result }) c.new.ensures.items c.new-2.ensures.items;
  file = ap (λ (s : Scopes). let f : File = record { names = s.inner; counts = no_declarations.counts } in f) c.requires;
  scopes = c.requires ∙ ap (λ (s : Scopes). file_scopes s.inner) (sym c.requires);
  globals = omega arith;
  functions = omega arith;
  words = omega arith;
}

pub loop-one-preserved : goal.loop-one-preserved
loop-one-preserved c =
    let text = c.args.program.now.text.items in
    let before : File = file_of c.loop-one.scopes c.loop-one.tally in
    let moved = rw (← c.in_ok-next.ensures.ok.0, c.loop-one.invariant.file) at c.declaration.ensures.typed in
    let now : File = after text before (declaration_of c.one-item.result) in
    let there : scopes_of c.declaration.new.scopes ≡ file_scopes now.names = c.declaration.ensures.scopes c.in_ok-next.ensures.ok.1 in
    let as_file : Scopes → Counts → File = λ s n. record { names = s.inner; counts = n } in
    let g = globals-grow (counts_of c.loop-one.tally) (declaration_of c.one-item.result) in
    let h = functions-grow (counts_of c.loop-one.tally) (declaration_of c.one-item.result) in
    let i = c.loop-one.invariant.globals in
    let j = c.loop-one.invariant.functions in
    record {
      so_far = one-so-far text _ _ _ c.loop-one-test.true c.one-item.is c.loop-one.invariant.so_far moved c.with_declared-parts.ensures.ok
          c.with_declared-parts.ensures.err;
      file = ap (λ (s : Scopes). as_file s (counts_of c.after-tally.result)) there ∙ ap (as_file (file_scopes now.names)) c.after-tally.ensures.value
          ∙ ap (λ (f : File). after text f (declaration_of c.one-item.result)) c.loop-one.invariant.file
          ∙ after-more text c.args.all.now c.loop-one.one-index c.one-item.result c.loop-one-test.true c.one-item.is;
      scopes = there ∙ ap (λ (s : Scopes). file_scopes s.inner) (sym there);
      globals = omega (arith, g, i, ap (λ (n : Counts). n.globals) c.after-tally.ensures.value);
      functions = omega (arith, h, j, ap (λ (n : Counts). n.functions) c.after-tally.ensures.value);
      words = omega (arith, c.after-tally.ensures.words, c.loop-one.invariant.words);
    }

pub returns-clause-typed : goal.returns-clause-typed
returns-clause-typed c =
    let h : SoFar c.args.program.now.text.items c.args.all.now c.loop-one.parts =
    rw (take_all c.loop-one.one-index c.args.all.now c.loop-one-test.false) at c.loop-one.invariant.so_far
    in
    h
