-- Labels that a kind and a content identify, as most enums are. The kind is the upper 8 bits of the word, the content the lower 56.
use Rattle.std.specs.Prelude.{◌≡◌, ℕ, ◌+◌, ◌*◌, ◌/◌, ◌%◌, ◌^◌, ◌<◌, ◌≤◌, Bool, true, Option, Some}
use Rattle.term_labels.specs.Codings.{Coding}

-- the kind and content of each label, the label of a kind and content, which labels a program can make, and their arities
pub record Kinds (L : Type 0) : Type 0 where
  pub kind : L → ℕ
  pub content : L → ℕ
  pub label_in : ℕ → ℕ → Option L
  pub is_label : L → Bool
  pub arity : L → ℕ

abbrev pub joined : ℕ → ℕ → ℕ
joined kind content = kind * 2 ^ 56 + content

abbrev pub coding_of : {L : Type 0} → Kinds L → Coding L
coding_of k = record {
  word = λ l. joined (k.kind l) (k.content l);
  is_label = k.is_label;
  label_with = λ w. k.label_in (w / 2 ^ 56) (w % 2 ^ 56);
  arity = k.arity;
}

-- each content fits, each label is that of its kind and content, and each stands over three children at most
abbrev pub AreKinds : {L : Type 0} → Kinds L → Type 0
AreKinds {L} k = (l : L) → k.is_label l ≡ true → (k.content l < 2 ^ 56) × (k.label_in (k.kind l) (k.content l) ≡ Some l) × (k.arity l ≤ 3)
