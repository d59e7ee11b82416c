-- Copies of slots.
use Rattle.std.proofs.Common.{◌≡◌, ℕ, zero, suc, ◌+◌, ◌<◌, ◌≤◌, Bool, true, false, List, [], ◌∷◌, ◌++◌, Some, refl, sym, ap, ◌∙◌, arith}
use Rattle.std.proofs.Common.{length, get_or, drop, drop-drop}
use Rattle.std.specs.Prelude.{if◌then◌else◌, Option, None, slice_get}
use Rattle.std.proofs.lemmas.Bool.{cond_both}
use Rattle.std.proofs.lemmas.List.{append_assoc, at_drop_more}
use Rattle.std.proofs.lemmas.Option.{same_Some, none-some}
use Rattle.rtl.specs.declared.block.RBlock.{RBlock}
use Rattle.mips_homes.specs.declared.homed.Home.{Home}
use Rattle.mips_homes.specs.declared.homed.Home.TheVariants.{Slot}
use Rattle.mips_homes.specs.Homes.{cell}
use Rattle.mips_homes.specs.Copies.{is_leaf, is_slot, unused, with_copy, copied_onto, copied}
use Rattle.mips_homes.specs.Convention.{temporaries}

-- ---- the loop over homes

pub copied_step : (free : List ℕ) (hs : List Home) (i used used' : ℕ) (out out' all : List Home) (h : Home) (b : Bool) → i < length hs
    → h ≡ get_or hs i h → is_slot h ≡ b → used' ≡ (if b then used + 1 else used) → out' ≡ out ++ with_copy h (slice_get free used) ∷ []
    → (used ≤ i) × (out ++ copied_onto (drop used free) (drop i hs) ≡ all)
    → (used' ≤ i + 1) × (out' ++ copied_onto (drop used' free) (drop (i + 1) hs) ≡ all)
copied_step free hs i used used' out out' all h b within here slot used_is out_is before = (
  grind (arith, before.0),
  cc (
    append_assoc out (with_copy h (slice_get free used) ∷ []) (copied_onto (drop (if b then used + 1 else used) free) (drop (i + 1) hs)),
    got_drop free used,
    left b,
    at_drop_more (λ l. l) hs i h within,
  ),
)
  where
    got_drop : (l : List ℕ) (n : ℕ) → slice_get (drop n l) 0 ≡ slice_get l n
    got_drop l zero = refl
    got_drop [] (suc n) = refl
    got_drop (x ∷ l) (suc n) = got_drop l n

    left : (b : Bool) → drop (if b then used + 1 else used) free ≡ (if b then drop 1 (drop used free) else drop used free)
    left true = sym (drop-drop 1 used free)
    left false = refl

-- ---- what copies are

with_copy_cell : (h : Home) (o : Option ℕ) → cell h ≡ cell (with_copy h o)
with_copy_cell (Slot k) None = refl
with_copy_cell (Slot k) (Some r) = refl
with_copy_cell _ o = refl

-- a home has its cell without the copy too
abbrev pub HasCell : List Home → ℕ → Home → Type 0
HasCell hs x h = (g : Home) × (slice_get hs x ≡ Some g) × (cell g ≡ cell h)

pub onto_get : (free : List ℕ) (hs : List Home) (x : ℕ) (h : Home) → slice_get (copied_onto free hs) x ≡ Some h → HasCell hs x h
onto_get free [] x h e = absurd (none-some h e)
onto_get free (g ∷ hs) zero h e = (g, refl, with_copy_cell g (slice_get free 0) ∙ ap cell (same_Some (with_copy g (slice_get free 0)) h e))
onto_get free (g ∷ hs) (suc x) h e = onto_get (if is_slot g then drop 1 free else free) hs x h e

pub copied_get : (bs : List RBlock) (hs : List Home) (x : ℕ) (h : Home) → slice_get (copied bs hs) x ≡ Some h → HasCell hs x h
copied_get bs hs x h =
    cond_both (is_leaf bs) (copied_onto (unused hs temporaries) hs) hs (λ l. slice_get l x ≡ Some h → HasCell hs x h)
    (λ _. onto_get (unused hs temporaries) hs x h) (λ _ e. (h, e, refl))

onto_long : (free : List ℕ) (hs : List Home) → length (copied_onto free hs) ≡ length hs
onto_long free [] = refl
onto_long free (h ∷ hs) = ap suc (onto_long (if is_slot h then drop 1 free else free) hs)

pub copied_long : (bs : List RBlock) (hs : List Home) → length (copied bs hs) ≡ length hs
copied_long bs hs = grind (arith, onto_long (unused hs temporaries) hs)
