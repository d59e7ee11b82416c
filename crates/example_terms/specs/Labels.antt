-- The kind and the content of each label, and how many operands it has.
use Rattle.std.specs.Prelude.{ℕ, ◌^◌, Bool, true, ◌&&◌, Option, Some, None, if◌then◌else◌, ◌==◌, nat_lt}
use Rattle.term_labels.specs.Kinds.{Kinds, coding_of}
use Rattle.term_labels.specs.Codings.{Coding}
use Rattle.example_terms.specs.declared.label.Op.{Op}
use Rattle.example_terms.specs.declared.label.Op.TheVariants.{Constant, Variable, Add, Multiply, Less, Select, Memory, Load, Store}

abbrev pub kind : Op → ℕ
kind (Constant n) = 1
kind (Variable v) = 2
kind Add = 3
kind Multiply = 4
kind Less = 5
kind Select = 6
kind Memory = 7
kind Load = 8
kind Store = 9

abbrev pub content : Op → ℕ
content (Constant n) = n
content (Variable v) = v
content _ = 0

abbrev pub is_op : Op → Bool
is_op (Constant n) = nat_lt n (2 ^ 32)
is_op (Variable v) = nat_lt v (2 ^ 16)
is_op _ = true

abbrev pub op_arity : Op → ℕ
op_arity (Constant n) = 0
op_arity (Variable v) = 0
op_arity Memory = 0
op_arity Select = 3
op_arity Store = 3
op_arity _ = 2

abbrev pub op_in : ℕ → ℕ → Option Op
op_in k n =
    if k == 1 && nat_lt n (2 ^ 32) then Some (Constant n) else (if k == 2 && nat_lt n (2 ^ 16) then Some (Variable n) else (
    if k == 3 && n == 0 then Some Add else (if k == 4 && n == 0 then Some Multiply else (
    if k == 5 && n == 0 then Some Less else (if k == 6 && n == 0 then Some Select else (if k == 7 && n == 0 then Some Memory else (
    if k == 8 && n == 0 then Some Load else (if k == 9 && n == 0 then Some Store else None))))))))

abbrev pub op_kinds : Kinds Op
op_kinds = record { kind = kind; content = content; label_in = op_in; is_label = is_op; arity = op_arity }

abbrev pub op_coding : Coding Op
op_coding = coding_of op_kinds
