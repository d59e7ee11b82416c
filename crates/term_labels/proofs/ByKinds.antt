-- Labels that are told by a kind and a content are read back from their words.
use Rattle.std.proofs.Common.{◌≡◌, ◌∙◌, ℕ, ◌+◌, ◌*◌, ◌/◌, ◌%◌, ◌^◌, ◌<◌, arith}
use Rattle.term_labels.specs.Codings.{IsCoding}
use Rattle.term_labels.specs.Kinds.{Kinds, joined, coding_of, AreKinds}

kind_is : (k c : ℕ) → c < 2 ^ 56 → (k * 2 ^ 56 + c) / 2 ^ 56 ≡ k
kind_is k c lt = grind arith

content_is : (k c : ℕ) → c < 2 ^ 56 → (k * 2 ^ 56 + c) % 2 ^ 56 ≡ c
content_is k c lt = grind arith

pub by_kinds : {L : Type 0} (k : Kinds L) → AreKinds k → IsCoding (coding_of k)
by_kinds {L} k are = λ l e.
    let own = are l e in
    let read : k.label_in (joined (k.kind l) (k.content l) / 2 ^ 56) (joined (k.kind l) (k.content l) % 2 ^ 56) ≡ k.label_in (k.kind l) (k.content l) =
    λ i. k.label_in (kind_is (k.kind l) (k.content l) own.0 i) (content_is (k.kind l) (k.content l) own.0 i) in
    (read ∙ own.1, own.2)
