-- The words of labels: the kind in the upper 32 bits, the content in the lower.
use Rattle.std.specs.Prelude.{ℕ, ◌+◌, ◌*◌, ◌/◌, ◌%◌, ◌^◌, ◌&&◌, Bool, true, Option, Some, None, if◌then◌else◌, ◌==◌, nat_lt}
use Rattle.words.specs.declared.operator.Operator.{Operator}
use Rattle.words.specs.declared.operator.Operator.TheVariants.{Addu, Subu, And, Or, Xor, Nor, Slt, Sltu, Sll, Srl, Sra, MultHigh, MultLow}
use Rattle.words.specs.declared.operator.Operator.TheVariants.{MultuHigh, MultuLow, DivQuotient, DivRemainder, DivuQuotient, DivuRemainder}
use Rattle.words.specs.declared.width.Width.{Width}
use Rattle.words.specs.declared.width.Width.TheVariants.{Word, Byte}
use Rattle.sym_terms.specs.declared.label.Origin.{Origin}
use Rattle.sym_terms.specs.declared.label.Origin.TheVariants.{Register, Hi, Lo, Link}
use Rattle.sym_terms.specs.declared.label.Label.{Label}
use Rattle.term_labels.specs.Codings.{Coding}
use Rattle.sym_terms.specs.declared.label.Label.TheVariants.{Init, Mem0, Const, Op, Load, Store}

abbrev pub operator_code : Operator → ℕ
operator_code Addu = 0
operator_code Subu = 1
operator_code And = 2
operator_code Or = 3
operator_code Xor = 4
operator_code Nor = 5
operator_code Slt = 6
operator_code Sltu = 7
operator_code Sll = 8
operator_code Srl = 9
operator_code Sra = 10
operator_code MultHigh = 11
operator_code MultLow = 12
operator_code MultuHigh = 13
operator_code MultuLow = 14
operator_code DivQuotient = 15
operator_code DivRemainder = 16
operator_code DivuQuotient = 17
operator_code DivuRemainder = 18

-- the operator that has this code
abbrev pub operator_at : ℕ → Option Operator
operator_at n =
    if n == 0 then Some Addu else
    (if n == 1 then Some Subu else
    (if n == 2 then Some And else
    (if n == 3 then Some Or else
    (if n == 4 then Some Xor else
    (if n == 5 then Some Nor else
    (if n == 6 then Some Slt else
    (if n == 7 then Some Sltu else
    (if n == 8 then Some Sll else
    (if n == 9 then Some Srl else
    (if n == 10 then Some Sra else
    (if n == 11 then Some MultHigh else
    (if n == 12 then Some MultLow else
    (if n == 13 then Some MultuHigh else
    (if n == 14 then Some MultuLow else
    (if n == 15 then Some DivQuotient else
    (if n == 16 then Some DivRemainder else (if n == 17 then Some DivuQuotient
    else (if n == 18 then Some DivuRemainder else None))))))))))))))))))

abbrev pub origin_code : Origin → ℕ
origin_code (Register r) = r
origin_code Hi = 32
origin_code Lo = 33
origin_code Link = 34

-- the origin that has this code
abbrev pub origin_at : ℕ → Option Origin
origin_at n =
    if n == 32 then Some Hi else (if n == 33 then Some Lo else (if n == 34 then Some Link else (
    if n == 0 then None else (if nat_lt n 32 then Some (Register n) else None))))

-- the number in an origin is a register's, 1 to 31
abbrev pub is_origin : Origin → Bool
is_origin (Register r) = nat_lt 0 r && nat_lt r 32
is_origin _ = true

abbrev pub width_code : Width → ℕ
width_code Word = 0
width_code Byte = 1

-- the width that has this code
abbrev pub width_at : ℕ → Option Width
width_at n = if n == 0 then Some Word else (if n == 1 then Some Byte else None)

abbrev pub label_word : Label → ℕ
label_word (Init origin) = 1 * 2 ^ 32 + origin_code origin
label_word Mem0 = 2 * 2 ^ 32
label_word (Const n) = 3 * 2 ^ 32 + n
label_word (Op operator) = 4 * 2 ^ 32 + operator_code operator
label_word (Load w) = 5 * 2 ^ 32 + width_code w
label_word (Store w) = 6 * 2 ^ 32 + width_code w

-- the numbers in the label are within their ranges, as those of each running label are
abbrev pub is_label : Label → Bool
is_label (Init origin) = is_origin origin
is_label (Const n) = nat_lt n (2 ^ 32)
is_label _ = true

abbrev pub label_if : {A : Type 0} → (A → Label) → Option A → Option Label
label_if label None = None
label_if label (Some x) = Some (label x)

-- the label of this kind with this content
abbrev pub label_in : ℕ → ℕ → Option Label
label_in kind content =
    if kind == 1 then label_if Init (origin_at content) else (if kind == 2 then (if content == 0 then Some Mem0 else None) else (
    if kind == 3 then Some (Const content) else (if kind == 4 then label_if Op (operator_at content) else (
    if kind == 5 then label_if Load (width_at content) else (if kind == 6 then label_if Store (width_at content) else None)))))

-- the label that has this word
abbrev pub label_with : ℕ → Option Label
label_with w = label_in (w / 2 ^ 32) (w % 2 ^ 32)

-- how many children each label stands over
abbrev pub label_arity : Label → ℕ
label_arity (Op operator) = 2
label_arity (Load w) = 2
label_arity (Store w) = 3
label_arity _ = 0

abbrev pub label_coding : Coding Label
label_coding = record { word = label_word; is_label = is_label; label_with = label_with; arity = label_arity }
