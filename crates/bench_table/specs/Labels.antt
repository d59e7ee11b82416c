-- The kind and the content of each label, and over how many children it stands.
use Rattle.std.specs.Prelude.{ℕ, ◌^◌, Bool, true, ◌&&◌, Option, Some, None, if◌then◌else◌, ◌==◌, nat_lt}
use Rattle.term_labels.specs.Kinds.{Kinds, coding_of}
use Rattle.term_labels.specs.Codings.{Coding}
use Rattle.bench_table.specs.declared.label.Shape.{Shape}
use Rattle.bench_table.specs.declared.label.Shape.TheVariants.{Leaf, Pair}

abbrev pub kind : Shape → ℕ
kind (Leaf n) = 1
kind Pair = 2

abbrev pub content : Shape → ℕ
content (Leaf n) = n
content Pair = 0

abbrev pub is_shape : Shape → Bool
is_shape (Leaf n) = nat_lt n (2 ^ 32)
is_shape Pair = true

abbrev pub shape_arity : Shape → ℕ
shape_arity (Leaf n) = 0
shape_arity Pair = 2

abbrev pub shape_in : ℕ → ℕ → Option Shape
shape_in k n = if k == 1 && nat_lt n (2 ^ 32) then Some (Leaf n) else (if k == 2 && n == 0 then Some Pair else None)

abbrev pub label_kinds : Kinds Shape
label_kinds = record { kind = kind; content = content; label_in = shape_in; is_label = is_shape; arity = shape_arity }

abbrev pub label_coding : Coding Shape
label_coding = coding_of label_kinds
