-- A block and an order have at most one decision.
use Rattle.std.proofs.Common.{◌≡◌, ◌<◌, ◌⊎◌, ℕ, zero, suc, refl, ap, inl, inr, ⊎_elim, arith}
use Rattle.mblock.specs.Parts.{OrderParts}
use Rattle.mblock.specs.declared.unclean.Unclean.{Unclean}
use Rattle.mblock.specs.declared.unclean.Unclean.TheVariants.{LoadUse, ProductAfterMove, SlotLoadOrMove, ExitLoad}
use Rattle.mblock.specs.Clean.{IsClean, BreaksFirst}
use Rattle.sym_exec.specs.Symbolic.{CodeTrees, block_trees, order_trees}
use Rattle.block_validator.specs.declared.place.Place.{Place}
use Rattle.block_validator.specs.declared.place.Place.TheVariants as places
use Rattle.block_validator.specs.Same.{IsPlace, place_rank, DiffersFirst}
use Rattle.block_validator.specs.Verdicts.{same, unclean, differs, OneDecision}

not_clean : (o : OrderParts) (rule : Unclean) → BreaksFirst rule o → IsClean o → ⊥
not_clean o LoadUse b c = b c.apart
not_clean o ProductAfterMove b c = b.1 c.behind
not_clean o SlotLoadOrMove b c = b.2 c.slot
not_clean o ExitLoad b c = b.3 c.last

one_rule : (o : OrderParts) (r q : Unclean) → BreaksFirst r o → BreaksFirst q o → r ≡ q
one_rule o LoadUse LoadUse b c = refl
one_rule o ProductAfterMove LoadUse b c = absurd (c b.0)
one_rule o ProductAfterMove ProductAfterMove b c = refl
one_rule o ProductAfterMove SlotLoadOrMove b c = absurd (b.1 c.1)
one_rule o ProductAfterMove ExitLoad b c = absurd (b.1 c.1)
one_rule o SlotLoadOrMove LoadUse b c = absurd (c b.0)
one_rule o SlotLoadOrMove ProductAfterMove b c = absurd (c.1 b.1)
one_rule o SlotLoadOrMove SlotLoadOrMove b c = refl
one_rule o SlotLoadOrMove ExitLoad b c = absurd (b.2 c.2)
one_rule o ExitLoad LoadUse b c = absurd (c b.0)
one_rule o ExitLoad ProductAfterMove b c = absurd (c.1 b.1)
one_rule o ExitLoad SlotLoadOrMove b c = absurd (c.2 b.2)
one_rule o ExitLoad ExitLoad b c = refl
one_rule o LoadUse _ b c = absurd (b c.0)

-- places of one rank are one
same_rank : (p q : Place) → IsPlace p → IsPlace q → place_rank p ≡ place_rank q → p ≡ q
same_rank (places.Register r) (places.Register t) a b e = ap (λ (n : ℕ). places.Register n) e
same_rank (places.Register r) places.Hi a b e = let l = a.1 in absurd (omega arith)
same_rank (places.Register r) places.Lo a b e = let l = a.1 in absurd (omega arith)
same_rank (places.Register r) places.Memory a b e = let l = a.1 in absurd (omega arith)
same_rank (places.Register r) places.Exit a b e = let l = a.1 in absurd (omega arith)
same_rank (places.Register r) places.Guards a b e = let l = a.1 in absurd (omega arith)
same_rank places.Hi (places.Register t) a b e = let l = b.1 in absurd (omega arith)
same_rank places.Lo (places.Register t) a b e = let l = b.1 in absurd (omega arith)
same_rank places.Memory (places.Register t) a b e = let l = b.1 in absurd (omega arith)
same_rank places.Exit (places.Register t) a b e = let l = b.1 in absurd (omega arith)
same_rank places.Guards (places.Register t) a b e = let l = b.1 in absurd (omega arith)
same_rank places.Hi places.Hi a b e = refl
same_rank places.Lo places.Lo a b e = refl
same_rank places.Memory places.Memory a b e = refl
same_rank places.Exit places.Exit a b e = refl
same_rank places.Guards places.Guards a b e = refl
same_rank p q a b e = absurd (omega arith)

three_ways : (m n : ℕ) → (m < n) ⊎ ((m ≡ n) ⊎ (n < m))
three_ways zero zero = inr (inl refl)
three_ways zero (suc n) = inl (omega arith)
three_ways (suc m) zero = inr (inr (omega arith))
three_ways (suc m) (suc n) =
    ⊎_elim (λ (l : m < n). inl (omega arith))
    (λ (r : (m ≡ n) ⊎ (n < m)). inr (⊎_elim (λ (e : m ≡ n). inl (ap suc e)) (λ (l : n < m). inr (omega arith)) r)) (three_ways m n)

-- the first place that differs is one
one_place : (x y : CodeTrees) (p q : Place) → DiffersFirst x y p → DiffersFirst x y q → p ≡ q
one_place x y p q a b = ⊎_elim
    (λ (l : place_rank p < place_rank q). absurd (a.differs (b.before p a.place l)))
    (λ r. ⊎_elim (λ (e : place_rank p ≡ place_rank q). same_rank p q a.place b.place e)
    (λ (l : place_rank q < place_rank p). absurd (b.differs (a.before q b.place l))) r)
    (three_ways (place_rank p) (place_rank q))

pub one_decision : OneDecision
one_decision b o same same h k = refl
one_decision b o same (differs p) h k = absurd (k.1.differs (h.1 p k.1.place))
one_decision b o (unclean r) same h k = absurd (not_clean o r h k.0)
one_decision b o (unclean r) (unclean q) h k = ap unclean (one_rule o r q h k)
one_decision b o (unclean r) (differs p) h k = absurd (not_clean o r h k.0)
one_decision b o (differs p) same h k = absurd (h.1.differs (k.1 p h.1.place))
one_decision b o (differs p) (differs q) h k = ap differs (one_place (block_trees b) (order_trees o) p q h.1 k.1)
one_decision b o _ (unclean r) h k = absurd (not_clean o r k h.0)
