use Rattle.std.proofs.Common.{◌≡◌, ◌*◌, ◌^◌, ◌≤◌, take}
use Rattle.c_tree.specs.Shape.{declarations_of}
use Rattle.c_statements.specs.Shape.{scopes_of}
use Rattle.c_types.specs.Files.{file_of, file_scopes}
use Rattle.c_types.specs.Programs.{after_all, no_declarations}
use Rattle.c_types.proofs.Declarations.{SoFar}
use Rattle.c_types.proofs.program.declarations.Given as goal

abbrev pub invariant-loop-one : goal.invariant-loop-one
invariant-loop-one l = record {
  so_far : SoFar l.program.text.items (take l.one-index l.all) l.parts;
  file : file_of l.scopes l.tally ≡ after_all l.program.text.items no_declarations (declarations_of (take l.one-index l.all));
  scopes : scopes_of l.scopes ≡ file_scopes (scopes_of l.scopes).inner;
  globals : l.tally.globals ≤ l.one-index;
  functions : l.tally.functions ≤ l.one-index;
  words : l.tally.words ≤ l.one-index * 2 ^ 32;
}
