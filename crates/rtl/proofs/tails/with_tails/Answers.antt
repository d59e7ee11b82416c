use Rattle.std.proofs.Common.{◌≡◌, ℕ, ◌-◌, List, [], ◌∷◌, ◌++◌, take, ap, sym, ◌∙◌, append_assoc, append-nil}
use Rattle.std.specs.Prelude.{reverse}
use Rattle.std.proofs.lemmas.List.{reverse-append}
use Rattle.rtl.specs.declared.block.RBlock.{RBlock}
use Rattle.rtl.specs.Meaning.{code_of}
use Rattle.rtl.specs.Tails.{tailed, AreTailed}
use Rattle.rtl.proofs.tails.with_tails.Goals as goal

-- one block more, before those that are made
one_more : (all was left rest made more : List RBlock) (b n : RBlock) → all ≡ was ++ rest → AreTailed was rest (reverse made) → was ≡ left ++ b ∷ []
    → code_of n ≡ tailed left (code_of b) → more ≡ made ++ n ∷ [] → (xs : List RBlock) × (all ≡ left ++ xs) × AreTailed left xs (reverse more)
one_more all was left rest made more b n whole tails one is pushed =
    (b ∷ rest, whole ∙ ap (λ l. l ++ rest) one ∙ append_assoc left (b ∷ []) rest, rw (pushed, reverse-append made (n ∷ [])) (is, rw one at tails))

-- none is left
none_left : (all was left rest made new : List RBlock) (n : ℕ) → all ≡ was ++ rest → AreTailed was rest (reverse made) → was ≡ left ++ []
    → left ≡ take (n - 1) was → n ≡ 0 → new ≡ reverse made → AreTailed [] all new
none_left all was left rest made new n whole tails one cut none turned =
    let empty : was ≡ [] = one ∙ append-nil left ∙ cut ∙ ap (λ n. take (n - 1) was) none in
    rw (whole, turned, empty) (rw empty at tails)

pub loop-block-init : goal.loop-block-init
loop-block-init c = ([], sym (append-nil c.args.blocks.items), rw c.in_ok-made.ensures.items tt)

pub loop-block-preserved : goal.loop-block-preserved
loop-block-preserved c =
    let i = c.loop-block.invariant in
    let is = c.in_ok-next.ensures ∙ ap (λ l. tailed l (code_of c.in-Some.block)) c.as_slice.ensures.value in
    one_more c.args.blocks.items c.loop-block.blocks.items c.pop.new.self.items i.0 c.loop-block.made.items c.push.new.self.items c.in-Some.block c.in_ok-next.next
    i.1 i.2 c.in-Some.ensures.items is c.in_ok-push.ensures.items

pub returns : goal.returns
returns c =
    let i = c.loop-block.invariant in
    none_left c.args.blocks.items c.loop-block.blocks.items c.pop.new.self.items i.0 c.loop-block.made.items c.reverse.new.self.items _ i.1 i.2
    c.in_default.ensures.items c.in_default.ensures.rest c.in_default.ensures.cases.0 c.reverse.ensures.items
