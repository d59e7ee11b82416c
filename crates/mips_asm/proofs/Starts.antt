-- Where the emitter's places are those of the layout.
use Rattle.std.proofs.lemmas.List.{map-append, drop_more}
use Rattle.std.proofs.lemmas.Option.{slice_get_read}
use Rattle.mips_code.specs.Words.{inst_word}
use Rattle.std.proofs.Common.{◌≡◌, ℕ, zero, suc, ◌+◌, ◌<◌, List, [], ◌∷◌, ◌++◌, map, length, All, Option, Some, slice_get, refl, ap}
use Rattle.std.proofs.Common.{ap₂, arith, get_or, ◌≤◌, drop, append_assoc, sym, ◌∙◌}
use Rattle.std.specs.Prelude.{slice_index}
use Rattle.std.proofs.lemmas.List.Elements.{All-from_recursion}
use Rattle.mips_isa.specs.declared.inst.Plain.{Plain}
use Rattle.mips_isa.specs.declared.inst.Inst.TheVariants as I
use Rattle.mblock.specs.declared.exit.Exit.{Exit}
use Rattle.mblock.specs.declared.exit.Exit.TheVariants.{Goto, BranchPair, BranchZero, Call, Out}
use Rattle.mblock.specs.Parts.{OrderParts}
use Rattle.mblock.specs.Units.{GoesBelow}
use Rattle.mips_asm.specs.Layout.{size, place, exit_insts, insts_of, layout, order_insts}
use Rattle.mips_asm.proofs.Within.{place_next}
use Rattle.std.specs.List.{AllByRecursion}
use Rattle.mips_asm.specs.Functions.{AreFunctions}
use Rattle.mips_asm.proofs.Fits.{all_both, offset_near}
use Rattle.mips_asm.specs.Limits.{FunctionsFit}
use Rattle.mips_asm.specs.Emitted.{Fit, AllThere, IsNear, AllNear, IsOwn, AreUnits, places_from, start_of}
use Rattle.mips_asm.specs.declared.limits.TheConstants.{CODE_WORDS}

place_in : (os : List OrderParts) (here k : ℕ) → k < length os → slice_index (places_from here os) k ≡ here + place os k
place_in [] here k lt = absurd (omega arith)
place_in (o ∷ os) here zero lt = omega arith
place_in (o ∷ os) here (suc k) lt = let below = place_in os (here + size o) k (omega arith) in omega arith

same_starts : (os : List OrderParts) (k : ℕ) → k < length os → start_of (places_from 0 os) k ≡ place os k
same_starts os k lt = let e = place_in os 0 k lt in omega arith

module _ (n : ℕ) (s s' : ℕ → ℕ) (h : (t : ℕ) → t < n → s t ≡ s' t) where
  same_exit : (here : ℕ) (exit : Exit) (slot : Option Plain) → GoesBelow n exit → exit_insts s here exit slot ≡ exit_insts s' here exit slot
  same_exit here (Goto t) slot there = rw (h t there) refl
  same_exit here (BranchPair test a b t e) slot there = rw (h t there.0, h e there.1) refl
  same_exit here (BranchZero test a t e) slot there = rw (h t there.0, h e there.1) refl
  same_exit here (Call f m) slot there = rw (h f there.0, h m there.1) refl
  same_exit here (Out m) slot there = rw (h m there) refl
  same_exit here _ slot there = refl

  same_insts : (os : List OrderParts) (here : ℕ) → ((k : ℕ) (o : OrderParts) → slice_get os k ≡ Some o → GoesBelow n o.exit)
      → insts_of s here os ≡ insts_of s' here os
  same_insts [] here there = refl
  same_insts (o ∷ os) here there =
      ap₂ (λ x y. (map I.Plain o.insts ++ x) ++ y) (same_exit (here + length o.insts) o.exit o.slot (there zero o refl))
      (same_insts os (here + size o) (λ k. there (suc k)))

pub same_layout : (os : List OrderParts) → AllThere os → insts_of (start_of (places_from 0 os)) 0 os ≡ layout os
same_layout os there = same_insts (length os) (start_of (places_from 0 os)) (place os) (same_starts os) os 0 there

-- ---- steps of a loop over orders

pub place_step : (os : List OrderParts) (k : ℕ) (o : OrderParts) → k < length os → o ≡ get_or os k o → place os (k + 1) ≡ place os k + size o
place_step os k o lt e = let one : k + 1 ≡ suc k = omega arith in ap (place os) one ∙ place_next os k o (slice_get_read os _ k o refl lt e)

places_small : (os : List OrderParts) (here : ℕ) → here + place os (length os) ≤ CODE_WORDS → AllByRecursion (λ p. p ≤ CODE_WORDS) (places_from here os)
places_small [] here le = tt
places_small (o ∷ os) here le = (omega arith, places_small os (here + size o) (omega arith))

pub all_small : (os : List OrderParts) → place os (length os) ≤ CODE_WORDS → All (λ p. p ≤ CODE_WORDS) (places_from 0 os)
all_small os le = All-from_recursion (λ p. p ≤ CODE_WORDS) (places_from 0 os) (places_small os 0 (omega arith))

near_exit : (owner : ℕ → ℕ) (os : List OrderParts) → AreFunctions (length os) owner → FunctionsFit owner os → (k : ℕ) (o : OrderParts)
    → slice_get os k ≡ Some o → (x : Exit) → GoesBelow (length os) x → IsOwn owner k x → IsNear (start_of (places_from 0 os)) (place os k + length o.insts) x
near_exit owner os f fit k o e (BranchPair test a b t z) there own = rw (same_starts os t there.0) (offset_near owner os f fit k t o e there.0 own)
near_exit owner os f fit k o e (BranchZero test a t z) there own = rw (same_starts os t there.0) (offset_near owner os f fit k t o e there.0 own)
near_exit owner os f fit k o e _ there own = tt

pub all_near : (owner : ℕ → ℕ) (os : List OrderParts) → AreUnits owner os → FunctionsFit owner os → AllNear (start_of (places_from 0 os)) os
all_near owner os u fit k o e = near_exit owner os u.functions fit k o e o.exit (u.there k o e) (u.own k o e)

module _ (start : ℕ → ℕ) (os : List OrderParts) (here k : ℕ) (o : OrderParts) (lt : k < length os) (is : o ≡ get_or os k o) where
  more_insts : insts_of start here (drop k os) ≡ order_insts start here o ++ insts_of start (here + size o) (drop (k + 1) os)
  more_insts = ap (insts_of start here) (drop_more os k o lt ∙ ap (λ y. y ∷ drop (k + 1) os) (sym is))

  pub words_on : (code : List ℕ) {more total : List ℕ} → more ≡ code ++ map inst_word (order_insts start here o)
      → code ++ map inst_word (insts_of start here (drop k os)) ≡ total
      → more ++ map inst_word (insts_of start (here + size o) (drop (k + 1) os)) ≡ total
  words_on code em so_far = rw (em, append_assoc, ← map-append, ← more_insts) so_far

  pub fit_on : Fit (order_insts start here o) → (Fit (insts_of start here (drop k os)) → Fit (insts_of start 0 os))
      → Fit (insts_of start (here + size o) (drop (k + 1) os)) → Fit (insts_of start 0 os)
  fit_on one all rest = all (rw more_insts (all_both (order_insts start here o) (insts_of start (here + size o) (drop (k + 1) os)) one rest))
