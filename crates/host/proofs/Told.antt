-- What was told, and then more.
use Rattle.std.proofs.Common.{◌≡◌, ℕ, List, [], ◌∷◌, ◌++◌, Option, Some, None, IfSome, All, sym, subst, refl, inl, inr}
use Rattle.std.proofs.lemmas.List.Elements.{All-append, All-cons, All-head, All-push, All-tail}
use Rattle.std.specs.List.{FoldsTo}
use Rattle.host.specs.Requests.{TellsBeside, TellsLine}
use Rattle.text.specs.Shown.{IsTold}
use Rattle.host.specs.Texts.{host_fault_text}
use Rattle.host.specs.declared.fault.HostFault.{HostFault}

-- steps, and then more of them
pub folds_on : {P A : Type 0} (R : P → A → P → Type 0) (p q r : P) (xs ys : List A) → FoldsTo R p xs q → FoldsTo R q ys r → FoldsTo R p (xs ++ ys) r
folds_on R p q r [] ys a b = subst (λ z. FoldsTo R z ys r) (sym a) b
folds_on R p q r (x ∷ xs) ys a b = (a.0, a.1, folds_on R a.0 q r xs ys a.2 b)

module _ {E : Type 0} (tells : E → List ℕ → E → Type 0) where
  -- the line of a fault, and more of what stands below it
  pub line_on : (p q r : E) (text : List ℕ) → TellsLine tells p text q → TellsBeside tells q (All (All IsTold)) r → TellsLine tells p text r
  line_on p q r text a b = (
    a.0 ++ b.0,
    folds_on tells p q r ((text ++ 10 ∷ []) ∷ a.0) b.0 a.1 b.1,
    All-append (All IsTold) a.0 b.0 a.2 b.2,
  )

  -- the line of a fault, and what stands below it
  pub placed_on : (o : Option (List ℕ)) (p q r : E) → IfSome o (λ text. tells p (text ++ 10 ∷ []) q) → TellsBeside tells q (All (All IsTold)) r
      → IfSome o (λ text. TellsLine tells p text r)
  placed_on None p q r a b = tt
  placed_on (Some text) p q r a b = (b.0, (q, a, b.1), b.2)

  -- the line of a fault that is equal
  pub told_as : (p q : E) (fault fault' : HostFault) → fault ≡ fault' → TellsLine tells p (host_fault_text fault) q
      → TellsLine tells p (host_fault_text fault') q
  told_as p q fault fault' e told = subst (λ (f : HostFault). TellsLine tells p (host_fault_text f) q) e told

  -- a line, as what stands below another
  below : (p q : E) (line : List ℕ) → All IsTold line → TellsLine tells p line q → TellsBeside tells p (All (All IsTold)) q
  below p q line shown a = (
    (line ++ 10 ∷ []) ∷ a.0,
    a.1,
    All-cons (All IsTold) (line ++ 10 ∷ []) a.0 (All-push IsTold line 10 shown (inl (inr refl))) a.2,
  )

  -- lines, and then a line
  pub lines_on : (p q r : E) (lines : List (List ℕ)) (last : List ℕ) → All (All IsTold) lines → All IsTold last → FoldsTo (TellsLine tells) p lines q
      → TellsLine tells q last r → TellsBeside tells p (All (All IsTold)) r
  lines_on p q r [] last shown end a b = subst (λ (z : E). TellsBeside tells z (All (All IsTold)) r) (sym a) (below q r last end b)
  lines_on p q r (line ∷ lines) last shown end a b =
      let on = lines_on a.0 q r lines last (All-tail (All IsTold) line lines shown) end a.2 b in
      let first = below p a.0 line (All-head (All IsTold) line lines shown) a.1 in
      (first.0 ++ on.0, folds_on tells p a.0 r first.0 on.0 first.1 on.1, All-append (All IsTold) first.0 on.0 first.2 on.2)
