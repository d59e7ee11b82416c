-- What is made of values that a text spells, if it spells them.
use Rattle.std.proofs.Common.{◌≡◌, Option, Some, None, ap}

abbrev pub made : {A D : Type 0} → (A → D) → Option A → Option D
made F None = None
made F (Some p) = Some (F p)

pub made-one : {A D : Type 0} (F : A → D) (o : Option A) (a : A) → o ≡ Some a → made F o ≡ Some (F a)
made-one F o a e = ap (made F) e

pub made-two : {A B D : Type 0} (F : A → B → D) (o : Option (A × B)) (a : A) (b : B) → o ≡ Some (a, b) → made (λ q. F q.0 q.1) o ≡ Some (F a b)
made-two F o a b e = made-one (λ q. F q.0 q.1) o (a, b) e

pub made-three : {A B C D : Type 0} (F : A → B → C → D) (o : Option (A × B × C)) (a : A) (b : B) (c : C) → o ≡ Some (a, b, c)
    → made (λ q. F q.0 q.1 q.2) o ≡ Some (F a b c)
made-three F o a b c e = made-one (λ q. F q.0 q.1 q.2) o (a, b, c) e

pub nothing : {A : Type 0} (x : A) → None ≡ Some x → ⊥
nothing x e = cc
