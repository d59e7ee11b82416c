-- The first fault of two parts together.
use Rattle.std.proofs.Common.{◌≡◌, ◌≤◌, ◌⊎◌, ℕ, Bool, true, false, inl, inr, refl, sym, arith}
use Rattle.std.proofs.lemmas.Bool.{ltb-true, eqb-true}
use Rattle.std.proofs.Common.{nat_lt, nat_eq, ◌&&◌, ◌||◌, if◌then◌else◌}
use Rattle.c_statements.specs.declared.fault.TypeFaultKind.{TypeFaultKind}
use Rattle.c_statements.specs.declared.fault.TypeFault.{TypeFault}
use Rattle.c_statements.specs.declared.fault.TypeStop.{TypeStop}
use Rattle.c_statements.specs.declared.fault.TypeStop.TheVariants.{Fault, NoMemory}
use Rattle.c_statements.specs.Faults.{number_of, Faults, IsNoLater, IsFirstFault, StopsAtFirst, HasNone, is_later, first_of}

-- the faults of two parts together
abbrev pub Both : Faults → Faults → Faults
Both p q k at = p k at ⊎ q k at

pub left-alone : (p q : Faults) (s : TypeStop) → StopsAtFirst p s → HasNone q → StopsAtFirst (Both p q) s
left-alone p q (Fault f) h n = record { has = inl h.has; first = λ j m b. elim b [ inl x ↦ h.first j m x | inr y ↦ absurd (n j m y) ] }
left-alone p q NoMemory h n = tt

pub right-alone : (p q : Faults) (s : TypeStop) → HasNone p → StopsAtFirst q s → StopsAtFirst (Both p q) s
right-alone p q (Fault f) n h = record { has = inr h.has; first = λ j m b. elim b [ inl x ↦ absurd (n j m x) | inr y ↦ h.first j m y ] }
right-alone p q NoMemory n h = tt

no-later : (k j i : TypeFaultKind) (a b c : ℕ) → IsNoLater k a j b → IsNoLater j b i c → IsNoLater k a i c
no-later k j i a b c (inl h) (inl l) = inl (omega (arith, h, l))
no-later k j i a b c (inl h) (inr l) = let e = l.0 in inl (omega (arith, h, e))
no-later k j i a b c (inr h) (inl l) = let e = h.0 in inl (omega (arith, e, l))
no-later k j i a b c (inr h) (inr l) = let e = h.0 in let f = l.0 in let g = h.1 in let m = l.1 in inr (omega (arith, e, f), omega (arith, g, m))

not-less : (x y : ℕ) → nat_lt x y ≡ false → y ≤ x
not-less x y h = grind (arith, h)

not-equal : (x y : ℕ) → nat_eq x y ≡ false → x ≡ y → ⊥
not-equal x y h e = grind (arith, h, e)

later-by : (a b : TypeFault) (x y z : Bool) → nat_lt b.at a.at ≡ x → nat_eq a.at b.at ≡ y → nat_lt (number_of b.kind) (number_of a.kind) ≡ z
    → (x || (y && z)) ≡ true → IsNoLater b.kind b.at a.kind a.at
later-by a b true y z e f g h = inl (ltb-true _ _ e)
later-by a b false true true e f g h = inr (sym (eqb-true _ _ f), omega (arith, ltb-true (number_of b.kind) (number_of a.kind) g))
later-by a b false true false e f g h = cc
later-by a b false false z e f g h = cc

earlier-by : (a b : TypeFault) (x y z : Bool) → nat_lt b.at a.at ≡ x → nat_eq a.at b.at ≡ y
    → nat_lt (number_of b.kind) (number_of a.kind) ≡ z → (x || (y && z)) ≡ false → IsNoLater a.kind a.at b.kind b.at
earlier-by a b true y z e f g h = cc
earlier-by a b false true true e f g h = cc
earlier-by a b false true false e f g h = inr (eqb-true _ _ f, not-less _ _ g)
earlier-by a b false false z e f g h = inl (omega (arith, not-less b.at a.at e, not-equal a.at b.at f))

chosen : (p q : Faults) (a b : TypeFault) (x : Bool) → is_later a b ≡ x → IsFirstFault p a.kind a.at → IsFirstFault q b.kind b.at
    → StopsAtFirst (Both p q) (if x then Fault b else Fault a)
chosen p q a b true e h l =
    record { has = inr l.has; first = λ j m y. elim y [ inl z ↦ no-later _ _ _ _ _ _ (later-by a b _ _ _ refl refl refl e) (h.first j m z) | inr z ↦ l.first j m z ] }
chosen p q a b false e h l =
    record { has = inl h.has; first = λ j m y. elim y [ inl z ↦ h.first j m z | inr z ↦ no-later _ _ _ _ _ _ (earlier-by a b _ _ _ refl refl refl e) (l.first j m z) ] }

pub first-both : (p q : Faults) (a b : TypeStop) → StopsAtFirst p a → StopsAtFirst q b → StopsAtFirst (Both p q) (first_of a b)
first-both p q (Fault a) (Fault b) h l = chosen p q a b (is_later a b) refl h l
first-both p q (Fault a) NoMemory h l = tt
first-both p q NoMemory b h l = tt

-- two parts have no fault together if neither has one
pub both-none : (p q : Faults) → HasNone p → HasNone q → HasNone (Both p q)
both-none p q h l k at b = elim b [ inl x ↦ h k at x | inr y ↦ l k at y ]
