-- One block more of a list of blocks and orders.
use Rattle.std.proofs.Common.{◌≡◌, ℕ, suc, ◌+◌, ◌<◌, List, [], ◌∷◌, ◌++◌, length, take, Option, Some, None, get_or, sym, ap, ◌∙◌, append_assoc, arith}
use Rattle.std.proofs.lemmas.List.{append-nil, length-take-le, take_more}
use Rattle.std.specs.Io.KnownBytes.{Appends}
use Rattle.mblock.specs.Parts.{BlockParts, OrderParts}
use Rattle.mcc_web.specs.Orders.{pair_text, pairs_text}

never : (n : ℕ) → suc n ≡ 0 → ⊥
never n e = omega arith

pairs_snoc : (n : ℕ) (ws : List ℕ) (bs : List BlockParts) (os : List OrderParts) (w : ℕ) (b : BlockParts) (o : OrderParts)
    → length ws ≡ length bs → length os ≡ length bs
    → pairs_text n (ws ++ w ∷ []) (bs ++ b ∷ []) (os ++ o ∷ []) ≡ pairs_text n ws bs os ++ pair_text (n + length bs) w b o
pairs_snoc n [] [] [] w b o e f =
    let here : n ≡ n + 0 = omega arith in
    append-nil (pair_text n w b o) ∙ ap (λ (j : ℕ). pair_text j w b o) here
pairs_snoc n (x ∷ ws) (y ∷ bs) (z ∷ os) w b o e f =
    let d : length ws ≡ length bs = omega arith in
    let g : length os ≡ length bs = omega arith in
    let here : n + 1 + length bs ≡ n + length (y ∷ bs) = omega arith in
    ap (λ (t : List ℕ). pair_text n x y z ++ t) (pairs_snoc (n + 1) ws bs os w b o d g
    ∙ ap (λ (j : ℕ). pairs_text (n + 1) ws bs os ++ pair_text j w b o) here)
    ∙ sym (append_assoc (pair_text n x y z) (pairs_text (n + 1) ws bs os) (pair_text (n + length (y ∷ bs)) w b o))
pairs_snoc n [] [] (z ∷ os) w b o e f = absurd (never _ f)
pairs_snoc n [] (y ∷ bs) os w b o e f = absurd (never _ (sym e))
pairs_snoc n (x ∷ ws) [] os w b o e f = absurd (never _ e)
pairs_snoc n (x ∷ ws) (y ∷ bs) [] w b o e f = absurd (never _ (sym f))

pub pairs_taken : (k : ℕ) (ws : List ℕ) (bs : List BlockParts) (os : List OrderParts) (w : ℕ) (b : BlockParts) (o : OrderParts)
    → length ws ≡ length bs → length os ≡ length bs → k < length bs → w ≡ get_or ws k w → b ≡ get_or bs k b → o ≡ get_or os k o
    → pairs_text 0 (take (k + 1) ws) (take (k + 1) bs) (take (k + 1) os) ≡ pairs_text 0 (take k ws) (take k bs) (take k os) ++ pair_text k w b o
pairs_taken k ws bs os w b o e f lt ew eb eo =
    let lw : k < length ws = omega arith in
    let lo : k < length os = omega arith in
    let tw : take (k + 1) ws ≡ take k ws ++ w ∷ [] = take_more ws k w lw ∙ ap (λ (x : ℕ). take k ws ++ x ∷ []) (sym ew) in
    let tb : take (k + 1) bs ≡ take k bs ++ b ∷ [] = take_more bs k b lt ∙ ap (λ (x : BlockParts). take k bs ++ x ∷ []) (sym eb) in
    let to : take (k + 1) os ≡ take k os ++ o ∷ [] = take_more os k o lo ∙ ap (λ (x : OrderParts). take k os ++ x ∷ []) (sym eo) in
    let nw : length (take k ws) ≡ k = length-take-le k ws (omega arith) in
    let nb : length (take k bs) ≡ k = length-take-le k bs (omega arith) in
    let no : length (take k os) ≡ k = length-take-le k os (omega arith) in
    let here : 0 + length (take k bs) ≡ k = omega arith in
    (λ i. pairs_text 0 (tw i) (tb i) (to i)) ∙ pairs_snoc 0 (take k ws) (take k bs) (take k os) w b o (nw ∙ sym nb) (no ∙ sym nb)
    ∙ ap (λ (j : ℕ). pairs_text 0 (take k ws) (take k bs) (take k os) ++ pair_text j w b o) here

pub appends_on : (old mid new : Option (List ℕ)) (xs ys : List ℕ) → Appends old mid xs → Appends mid new ys → Appends old new (xs ++ ys)
appends_on None mid new xs ys first then = tt
appends_on (Some p) None new xs ys first then = absurd first
appends_on (Some p) (Some q) None xs ys first then = absurd then
appends_on (Some p) (Some q) (Some r) xs ys first then = then ∙ ap (λ (t : List ℕ). t ++ ys) first ∙ append_assoc p xs ys
