-- The kind and the content of each label, and over how many children it stands.
use Rattle.std.specs.Prelude.{ℕ, ◌^◌, Bool, true, ◌&&◌, Option, Some, None, if◌then◌else◌, ◌==◌, nat_lt}
use Rattle.term_labels.specs.Kinds.{Kinds, coding_of}
use Rattle.term_labels.specs.Codings.{Coding}
use Rattle.example_circuits.specs.declared.gate.Gate.{Gate}
use Rattle.example_circuits.specs.declared.gate.Gate.TheVariants.{Level, Input, Not, And, Or}

abbrev pub kind : Gate → ℕ
kind (Level b) = 1
kind (Input n) = 2
kind Not = 3
kind And = 4
kind Or = 5

abbrev pub content : Gate → ℕ
content (Level b) = if b then 1 else 0
content (Input n) = n
content _ = 0

abbrev pub is_gate : Gate → Bool
is_gate (Input n) = nat_lt n (2 ^ 32)
is_gate _ = true

abbrev pub gate_arity : Gate → ℕ
gate_arity (Level b) = 0
gate_arity (Input n) = 0
gate_arity Not = 1
gate_arity And = 2
gate_arity Or = 2

abbrev pub gate_in : ℕ → ℕ → Option Gate
gate_in k n =
    if k == 1 && nat_lt n 2 then Some (Level (n == 1)) else (if k == 2 && nat_lt n (2 ^ 32) then Some (Input n) else (
    if k == 3 && n == 0 then Some Not else (if k == 4 && n == 0 then Some And else (if k == 5 && n == 0 then Some Or else None))))

abbrev pub gate_kinds : Kinds Gate
gate_kinds = record { kind = kind; content = content; label_in = gate_in; is_label = is_gate; arity = gate_arity }

abbrev pub gate_coding : Coding Gate
gate_coding = coding_of gate_kinds
