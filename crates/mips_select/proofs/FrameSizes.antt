-- Frames of chosen homes are within reach: copies are in registers of their own, and no frame is larger than its function says.
use Rattle.std.proofs.Common.{◌≡◌, ◌↔◌, ℕ, zero, suc, ◌<◌, ◌≤◌, false, List, [], ◌∷◌, Some, refl, sym, ap, ◌∙◌, arith, true≢false, ◌-◌}
use Rattle.std.proofs.Common.{true, length, nat_eq}
use Rattle.std.specs.Prelude.{slice_get, if◌then◌else◌, slice_index}
use Rattle.std.proofs.lemmas.Option.{same_Some, none-some, slice_get_within, slice_get-get_or}
use Rattle.std.proofs.lemmas.Bool.{cond_both}
use Rattle.rtl.specs.declared.block.RBlock.{RBlock}
use Rattle.mips_homes.specs.declared.homed.Home.{Home}
use Rattle.mips_homes.specs.declared.homed.Home.TheVariants.{Reg, Slot, Copied}
use Rattle.mips_homes.specs.Homes.{cell}
use Rattle.mips_homes.specs.Convention.{temporaries}
use Rattle.mips_homes.specs.Copies.{lives_in, is_leaf, unused, copied_onto, copied, is_slot}
use Rattle.mips_homes.proofs.Copying.{onto_get}
use Rattle.mips_homes.proofs.Located.{IsTemporary, unused_temporary, lives, uncopied, is_plain, within, case_of}
use Rattle.mips_homes.proofs.Located.{places_long_as, placed_apart, still_was, still_few, has_slot}
use Rattle.mips_emit.specs.Frames.{AreCopies, HaveNoCopies, IsFrame}
use Rattle.std.proofs.lemmas.Bool.Decides.{nat_tests}
use Rattle.rtl.specs.declared.block.RFunc.{RFunc}
use Rattle.rtl.specs.Names.{how_many}
use Rattle.mips_homes.specs.declared.homed.Frame.{Frame}
use Rattle.mips_homes.specs.declared.homed.Homed.{Homed}
use Rattle.mips_homes.specs.Choice.{IsChoice}
use Rattle.mips_homes.specs.Places.{IsPlacedFor, ArePlaced}
use Rattle.mips_select.proofs.Places.{block_there}
use Rattle.mips_select.specs.Emittable.{AreReachable}
use Rattle.mips_select.specs.Limits.{frame_bytes_of, largest_frame, largest_by_homes, FramesFit, HaveRoom}

-- ---- registers in order

abbrev Rising : ℕ → List ℕ → Type 0
Rising low [] = Unit {0}
Rising low (r ∷ rs) = (low < r) × Rising r rs

lower : (low low' : ℕ) (rs : List ℕ) → low' ≤ low → Rising low rs → Rising low' rs
lower low low' [] le h = tt
lower low low' (r ∷ rs) le h = (omega (arith, h.0, le), h.1)

unused_rises : (hs : List Home) (low : ℕ) (rs : List ℕ) → Rising low rs → Rising low (unused hs rs)
unused_rises hs low [] h = tt
unused_rises hs low (r ∷ rs) h = grind (arith, unused_rises hs r rs h.1, lower r low (unused hs rs))

-- ---- copies

-- homes without copies
abbrev pub ArePlain : List Home → Type 0
ArePlain hs = (x : ℕ) (h : Home) → slice_get hs x ≡ Some h → cell h ≡ h

pub no_copies : (hs : List Home) → ArePlain hs → HaveNoCopies hs
no_copies hs plain x r k e = let other : Slot k ≡ Copied r k = plain x (Copied r k) e in cc

-- the registers of copies rise, and each one has P
module _ (P : ℕ → Type 0) where
  abbrev Climbing : ℕ → List Home → Type 0
  Climbing low [] = Unit {0}
  Climbing low (Copied r k ∷ hs) = (low < r) × P r × Climbing r hs
  Climbing low (h ∷ hs) = Climbing low hs

  climbs : (low : ℕ) (free : List ℕ) (hs : List Home) → ArePlain hs → Rising low free → ((j r : ℕ) → slice_get free j ≡ Some r → P r)
      → Climbing low (copied_onto free hs)
  climbs low free [] plain up each = tt
  climbs low free (Copied q i ∷ hs) plain up each = absurd (no_copies (Copied q i ∷ hs) plain 0 q i refl)
  climbs low free (Reg q ∷ hs) plain up each = climbs low free hs (λ x. plain (suc x)) up each
  climbs low [] (Slot i ∷ hs) plain up each = climbs low [] hs (λ x. plain (suc x)) up each
  climbs low (q ∷ free) (Slot i ∷ hs) plain up each = (up.0, each 0 q refl, climbs q free hs (λ x. plain (suc x)) up.1 (λ j. each (suc j)))

  at_copy : (low : ℕ) (hs : List Home) (x r k : ℕ) → Climbing low hs → slice_get hs x ≡ Some (Copied r k) → (low < r) × P r
  at_copy low [] x r k up e = absurd (none-some (Copied r k) e)
  at_copy low (Copied q i ∷ hs) (suc x) r k up e = (let rest = at_copy q hs x r k up.2 e in (omega (arith, up.0, rest.0), rest.1))
  at_copy low (h ∷ hs) zero r k up e = grind arith
  at_copy low (h ∷ hs) (suc x) r k up e = at_copy low hs x r k up e

  once : (low : ℕ) (hs : List Home) (x y r j k : ℕ) → Climbing low hs → slice_get hs x ≡ Some (Copied r j) → slice_get hs y ≡ Some (Copied r k) → x ≡ y
  once low [] x y r j k up e f = absurd (none-some (Copied r j) e)
  once low (h ∷ hs) zero zero r j k up e f = refl
  once low (Copied q i ∷ hs) zero (suc y) r j k up e f = grind (arith, at_copy q hs y r k up.2 f)
  once low (Copied q i ∷ hs) (suc x) zero r j k up e f = grind (arith, at_copy q hs x r j up.2 e)
  once low (Copied q i ∷ hs) (suc x) (suc y) r j k up e f = ap suc (once q hs x y r j k up.2 e f)
  once low (h ∷ hs) (suc x) (suc y) r j k up e f = ap suc (once low hs x y r j k up e f)
  once low (h ∷ hs) _ _ r j k up e f = absurd cc

-- copies are in registers that nothing else uses
are_copies : (hs : List Home) → ArePlain hs → AreCopies (copied_onto (unused hs temporaries) hs)
are_copies hs plain =
    let free = unused hs temporaries in
    let up = climbs (λ r. IsTemporary r × (lives_in hs r ≡ false)) 7 free hs plain (unused_rises hs 7 temporaries (omega arith)) (unused_temporary hs) in
    let is_free = λ (x r k : ℕ) (e : slice_get (copied_onto free hs) x ≡ Some (Copied r k)). (at_copy _ 7 (copied_onto free hs) x r k up e).1 in
    record {
      range = λ x r k e. (let t = (is_free x r k e).0 in (t.0, t.1));
      caller_saved = λ x r k e. ((is_free x r k e).0).2;
      once = λ x y r j k e f. once _ 7 (copied_onto free hs) x y r j k up e f;
      idle = λ x y r k at e.
          let was = onto_get free hs x (Reg r) at in
          true≢false (sym (lives hs x r (was.1 ∙ ap Some (sym (plain x was.0 was.1) ∙ was.2))) ∙ (is_free y r k e).1);
    }

pub copies_are : (bs : List RBlock) (hs : List Home) → ArePlain hs → AreCopies (copied bs hs)
copies_are bs hs plain = cond_both (is_leaf bs) (copied_onto (unused hs temporaries) hs) hs AreCopies (λ _. are_copies hs plain)
    (λ _. grind (arith, no_copies hs plain))

-- ---- frames

-- n different numbers below m are at most m
few : (m n : ℕ) (f : (j : ℕ) → j < n → ℕ) → ((j : ℕ) (lt : j < n) → f j lt < m)
    → ((i j : ℕ) (li : i < n) (lj : j < n) → f i li ≡ f j lj → i ≡ j) → n ≤ m
few m zero f below apart = omega arith
few zero (suc n) f below apart = (let no = below 0 (omega arith) in absurd (omega (arith, no)))
few (suc m) (suc n) f below apart =
    -- the last one takes the place of m
    let top : n < suc n = omega arith in
    let up : (j : ℕ) → j < n → j < suc n = λ j lt. omega (arith, lt) in
    let last = below n top in
    let rest = few m n (λ j lt. if nat_eq (f j (up j lt)) m then f n top else f j (up j lt))
    (λ j lt. let low = below j (up j lt) in let other = apart j n (up j lt) top in grind (arith, nat_tests, low, last, other))
    (λ i j li lj e. let both = apart i j (up i li) (up j lj) in let first = apart n j top (up j lj) in
    let second = apart i n (up i li) top in grind (arith, nat_tests, both, first, second)) in
    omega (arith, rest)

module _ {func : RFunc} {f : Frame} (ok : IsChoice func f) where
  saved_at : (j : ℕ) → j < length f.saved.items → slice_get f.saved.items j ≡ Some (slice_index f.saved.items j)
  saved_at j lt = slice_get-get_or f.saved.items j 0 lt

  saved_range : (j r : ℕ) → slice_get f.saved.items j ≡ Some r → (16 ≤ r) × (r < 24)
  saved_range j r there = (let home = ok.saved j r there in (ok.registers home.0 r home.1).0)

  -- each is saved once
  saved_apart : (i j : ℕ) → i < length f.saved.items → j < length f.saved.items → slice_index f.saved.items i ≡ slice_index f.saved.items j → i ≡ j
  saved_apart i j li lj e = ok.saved_once i j (slice_index f.saved.items i) (saved_at i li) (saved_at j lj ∙ ap Some (sym e))

  -- at most eight are saved
  saved_eight : length f.saved.items ≤ 8
  saved_eight = few 8 (length f.saved.items) (λ j lt. slice_index f.saved.items j - 16) (λ j lt. omega (arith, range j lt))
      (λ i j li lj e. saved_apart i j li lj (omega (arith, e, range i li, range j lj)))
    where
      range : (j : ℕ) → j < length f.saved.items → (16 ≤ slice_index f.saved.items j) × (slice_index f.saved.items j < 24)
      range j lt = saved_range j (slice_index f.saved.items j) (saved_at j lt)

  -- no more are saved than there are pseudo-registers
  saved_few : length f.saved.items ≤ how_many func
  saved_few = few (how_many func) (length f.saved.items) (λ j lt. (ok.saved j (slice_index f.saved.items j) (saved_at j lt)).0)
      (λ j lt. rw (← ok.long) (slice_get_within f.homes.items _ _ (ok.saved j (slice_index f.saved.items j) (saved_at j lt)).1))
      (λ i j li lj e. saved_apart i j li lj
      (cc ((ok.saved i (slice_index f.saved.items i) (saved_at i li)).1, (ok.saved j (slice_index f.saved.items j) (saved_at j lj)).1)))

-- with local pseudo-registers in caller-saved registers
module _ {func : RFunc} {f : Frame} (q : IsPlacedFor func f) where
  abbrev before : List Home
  before = uncopied func q.choice f q.is q.placed

  plain : ArePlain before
  plain = is_plain func q.choice f q.is q.placed

  -- eight at most are saved then too
  pub placed_eight : length f.saved.items ≤ 8
  placed_eight = omega (arith, saved_eight q.is, still_few f.homes.items (q.choice).saved.items, ap length (q.placed).saved)

  -- a function with calls has no copies
  pub placed_alone : is_leaf func.blocks.items ≡ false → HaveNoCopies f.homes.items
  placed_alone calls = rw ((q.placed).homes, calls) (no_copies before plain)

  in_slot : (x : ℕ) (h : Home) (k : ℕ) → slice_get f.homes.items x ≡ Some h → is_slot h ≡ true → slice_get (q.choice).homes.items x ≡ Some (Slot k)
      → k < f.slots
  in_slot x h k there slot e = omega (arith, (q.is).in_slots x k e, rw (has_slot f.homes.items x h there slot) at (q.placed).slots)

  pub placed_is_frame : (most : ℕ) → frame_bytes_of func ≤ most → IsFrame most f
  placed_is_frame most le = record {
    homes = record {
      copied = rw (q.placed).homes (copies_are func.blocks.items before plain);
      by = λ x h there. grind (arith, case_of func q.choice f q.is q.placed x h there, within func q.choice f q.is q.placed x, in_slot x h);
      apart = placed_apart func q.choice f q.is q.placed;
    };
    saved = λ j r there. let w = still_was f.homes.items (q.choice).saved.items j r (rw (q.placed).saved at there) in saved_range q.is w.0 r w.1;
    fits =
        let slots_few : f.slots ≤ (q.choice).slots = grind (arith, (q.placed).slots) in
        let few = still_few f.homes.items (q.choice).saved.items in
        omega (arith, saved_eight q.is, saved_few q.is, (q.is).slots, le, few, ap length (q.placed).saved, slots_few);
  }

-- ---- the largest one

largest_bounds : (funcs : List RFunc) (g : ℕ) (func : RFunc) → slice_get funcs g ≡ Some func → frame_bytes_of func ≤ largest_frame funcs
largest_bounds [] g func there = absurd (none-some func there)
largest_bounds (x ∷ funcs) zero func there = rw (← same_Some x func there) (omega arith)
largest_bounds (x ∷ funcs) (suc g) func there = omega (arith, largest_bounds funcs g func there)

pub are_frames : (h : Homed) → ArePlaced h → (g : ℕ) (f : Frame) → slice_get h.frames.items g ≡ Some f → IsFrame (largest_frame (h.rtl.now).functions) f
are_frames h ok g f there =
    let within = slice_get_within h.frames.items g f there in
    let func = block_there (h.rtl.now).functions g (omega (arith, within, ok.long)) in
    placed_is_frame (ok.by g func.0 f func.1 there) (largest_frame (h.rtl.now).functions) (largest_bounds (h.rtl.now).functions g func.0 func.1)

-- homes are as many as pseudo-registers
homes_many : (funcs : List RFunc) (fs : List Frame) → length fs ≡ length funcs → ((i : ℕ) (func : RFunc) (f : Frame) → slice_get funcs i ≡ Some func
    → slice_get fs i ≡ Some f → length f.homes.items ≡ how_many func)
    → largest_by_homes fs ≡ largest_frame funcs
homes_many [] [] same each = refl
homes_many (func ∷ funcs) (f ∷ fs) same each =
    omega (arith, homes_many funcs fs (omega (arith, same)) (λ i. each (suc i)), each 0 func f refl refl)
homes_many _ _ same each = absurd (omega (arith, same))

pub largest_same : (h : Homed) → ArePlaced h → largest_by_homes h.frames.items ≡ largest_frame (h.rtl.now).functions
largest_same h ok = homes_many (h.rtl.now).functions h.frames.items ok.long
    (λ i func f there f_there. (let q = ok.by i func f there f_there in places_long_as func q.choice f q.is q.placed))

pub room_fits : (h : Homed) (depth : ℕ) → ArePlaced h → HaveRoom h.frames.items depth ↔ FramesFit h.rtl.now depth
room_fits h depth ok = grind (arith, largest_same h ok)

pub reachable : (h : Homed) (depth : ℕ) → ArePlaced h → HaveRoom h.frames.items depth → AreReachable h.frames.items
reachable h depth ok room = record {
  by = λ g f there. (let frame = are_frames h ok g f there in let fits = frame.fits in
      let small = ((room_fits h depth ok).0 room).frames in record { homes = frame.homes; saved = frame.saved; fits = omega (arith, fits, small) });
}
