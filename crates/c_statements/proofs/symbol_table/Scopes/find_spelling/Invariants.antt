use Rattle.std.proofs.Common.{◌≡◌, map, take}
use Rattle.std.specs.Prelude.{reverse}
use Rattle.c_statements.specs.Shape.{bindings_of, scopes_of}
use Rattle.c_statements.specs.Names.{binding_in, named_in}
use Rattle.c_statements.proofs.symbol_table.Scopes.find_spelling.Given as goal

abbrev pub invariant-loop-i : goal.invariant-loop-i
invariant-loop-i l = binding_in (map bindings_of (reverse (take l.i l.self.around.items))) l.spelling ≡ named_in (scopes_of l.self) l.spelling
