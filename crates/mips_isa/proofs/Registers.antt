-- Registers: reads and writes.
use Rattle.std.proofs.Common.{◌≡◌, ℕ, zero, suc, Bool, true, false, cond, ◌&&◌, ◌==◌, refl, sym, ap, ◌∙◌, eq-eqb, eqb-true, true≢false}
use mathlib.Core.Path.{fun_ext}
use Rattle.mips_isa.specs.States.{is_register, read, put}

-- a function of a choice
pub cond-ap : {A B : Type 0} (g : A → B) (b : Bool) (x y : A) → g (cond b x y) ≡ cond b (g x) (g y)
cond-ap g true x y = refl
cond-ap g false x y = refl

-- the values of what registers hold, after a write
pub put-value : {A B : Type 0} (g : A → B) (f : ℕ → A) (d : ℕ) (v : A) (w : B) → g v ≡ w → (λ r. g (put f d v r)) ≡ put (λ r. g (f r)) d w
put-value g f d v w e = fun_ext (λ r. cond-ap g (is_register d && (r == d)) v (f r) ∙ ap (λ x. cond (is_register d && (r == d)) x (g (f r))) e)

no_register : {A : Type 0} (f : ℕ → A) (d r : ℕ) (v : A) (b : Bool) → b ≡ false → cond (b && (r == d)) v (f r) ≡ f r
no_register f d r v true e = absurd (true≢false e)
no_register f d r v false e = refl

-- a write to no register is lost
pub put_lost : {A : Type 0} (f : ℕ → A) (d : ℕ) (v : A) → is_register d ≡ false → put f d v ≡ f
put_lost f d v e = fun_ext (λ r. no_register f d r v (is_register d) e)

-- what stands outside the registers stays
pub put_outside : {A : Type 0} (f : ℕ → A) (d : ℕ) (v : A) (r : ℕ) → is_register r ≡ false → put f d v r ≡ f r
put_outside f d v r e = go (is_register d) (r == d) refl refl
  where
    go : (p q : Bool) → is_register d ≡ p → (r == d) ≡ q → cond (p && q) v (f r) ≡ f r
    go false q ep eq = refl
    go true false ep eq = refl
    go true true ep eq = absurd (true≢false (sym ep ∙ ap is_register (sym (eqb-true r d eq)) ∙ e))

-- a register that isn't the one written
pub read-put : {A : Type 0} (z : A) (f : ℕ → A) (d : ℕ) (v : A) (r : ℕ) → (r == d) ≡ false → read z (put f d v) r ≡ read z f r
read-put z f d v zero e = refl
read-put z f d v (suc r) e = go (is_register d) (suc r == d) e
  where
    go : (p q : Bool) → q ≡ false → cond (p && q) v (f (suc r)) ≡ f (suc r)
    go p true h = absurd (true≢false h)
    go true false h = refl
    go false false h = refl

-- two writes to different registers
pub put-put : {A : Type 0} (f : ℕ → A) (q : ℕ) (w : A) (d : ℕ) (v : A) → (d == q) ≡ false → put (put f q w) d v ≡ put (put f d v) q w
put-put {A} f q w d v e = fun_ext at
  where
    go : (x : A) (rd bd rq bq : Bool) → (bd ≡ true → bq ≡ true → d ≡ q) → cond (rd && bd) v (cond (rq && bq) w x) ≡ cond (rq && bq) w (cond (rd && bd) v x)
    go x false bd rq bq h = refl
    go x true false rq bq h = refl
    go x true true false bq h = refl
    go x true true true false h = refl
    go x true true true true h = absurd (true≢false (sym (eq_same (h refl refl)) ∙ e))
      where
        eq_same : d ≡ q → (d == q) ≡ true
        eq_same p = eq-eqb d q p

    at : (r : ℕ) → put (put f q w) d v r ≡ put (put f d v) q w r
    at r = go (f r) (is_register d) (r == d) (is_register q) (r == q) (λ a b. sym (eqb-true r d a) ∙ eqb-true r q b)
