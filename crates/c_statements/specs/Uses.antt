-- The uses of names in expressions and calls, and which of them are faults.
use Rattle.std.specs.Prelude.{◌≡◌, ◌≢◌, ◌⊎◌, ℕ, Option, Some, None, Bool, true, false}
use Rattle.c_tokens.specs.declared.token.Identifier.{Identifier}
use Rattle.c_tokens.specs.declared.token.IntegerType.{IntegerType}
use Rattle.c_tree.specs.Tree.{Expression, constant, name, index, unary, binary, conditional}
use Rattle.c_statements.specs.declared.names.Named.{Named}
use Rattle.c_statements.specs.declared.names.Named.TheVariants.{Local, Global, Array, Function, Out}
use Rattle.c_statements.specs.declared.fault.TypeFaultKind.{TypeFaultKind}
use Rattle.c_statements.specs.declared.fault.TypeFaultKind.TheVariants.{Undeclared, Kind as KindFault, Count}
use Rattle.c_statements.specs.Names.{Environment}

-- how a name is used: as a value, with an index, or as a call with so many arguments whose result is used or not
pub data Use : Type 0 where
  as_value : Use
  with_index : Use
  as_call : ℕ → Bool → Use

-- what is wrong with a use of a name that means this
pub data IsWrong : Option Named → Use → TypeFaultKind → Type 0 where
  not_declared : {u : Use} → IsWrong None u Undeclared
  array_alone : {n : ℕ} {k : IntegerType} → IsWrong (Some (Array n k)) as_value KindFault
  function_alone : {f n : ℕ} {r : Bool} → IsWrong (Some (Function f n r)) as_value KindFault
  out_alone : IsWrong (Some Out) as_value KindFault
  local_indexed : {n : ℕ} {k : IntegerType} → IsWrong (Some (Local n k)) with_index KindFault
  global_indexed : {n : ℕ} {k : IntegerType} → IsWrong (Some (Global n k)) with_index KindFault
  function_indexed : {f n : ℕ} {r : Bool} → IsWrong (Some (Function f n r)) with_index KindFault
  out_indexed : IsWrong (Some Out) with_index KindFault
  local_called : {n m : ℕ} {k : IntegerType} {w : Bool} → IsWrong (Some (Local n k)) (as_call m w) KindFault
  global_called : {n m : ℕ} {k : IntegerType} {w : Bool} → IsWrong (Some (Global n k)) (as_call m w) KindFault
  array_called : {n m : ℕ} {k : IntegerType} {w : Bool} → IsWrong (Some (Array n k)) (as_call m w) KindFault
  void_used : {f n m : ℕ} → IsWrong (Some (Function f n false)) (as_call m true) KindFault
  out_used : {m : ℕ} → IsWrong (Some Out) (as_call m true) KindFault
  other_count : {f n m : ℕ} {r w : Bool} → m ≢ n → IsWrong (Some (Function f n r)) (as_call m w) Count
  other_count_out : {m : ℕ} {w : Bool} → m ≢ 1 → IsWrong (Some Out) (as_call m w) Count

-- a use of the name is a fault, at the name
abbrev pub Misused : Environment → Identifier → Use → TypeFaultKind → ℕ → Type 0
Misused scope x u k at = IsWrong (scope x) u k × (at ≡ x.at)

-- the faults of an expression: those of the names in it
abbrev pub Faulty : Environment → Expression → TypeFaultKind → ℕ → Type 0
Faulty scope (constant c) k at = ⊥
Faulty scope (name x) k at = Misused scope x as_value k at
Faulty scope (index x e) k at = Misused scope x with_index k at ⊎ Faulty scope e k at
Faulty scope (unary o e) k at = Faulty scope e k at
Faulty scope (binary o l r) k at = Faulty scope l k at ⊎ Faulty scope r k at
Faulty scope (conditional c a b) k at = Faulty scope c k at ⊎ (Faulty scope a k at ⊎ Faulty scope b k at)
