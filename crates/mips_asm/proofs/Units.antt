-- A unit's orders are what the emitter asks for, and its words and bytes are an image's.
use Rattle.std.proofs.Common.{◌≡◌, ℕ, suc, ◌^◌, ◌<◌, ◌≤◌, List, map, length, All, inl, inr, Some, slice_get, sym, ap, ◌∙◌, subst, arith}
use Rattle.std.specs.Prelude.{slice_index}
use Rattle.std.proofs.lemmas.Bool.{cases_eq, lt-ltb}
use Rattle.std.proofs.lemmas.Option.{get_or_from_slice_get, slice_get_within}
use Rattle.std.proofs.lemmas.List.{length-map}
use Rattle.mips_isa.specs.Ranges.{IsInst}
use Rattle.mips_code.specs.Words.{inst_word}
use Rattle.mips_code.proofs.Bounds.{words_below}
use Rattle.mblock.specs.declared.exit.Exit.{Exit}
use Rattle.mblock.specs.declared.exit.Exit.TheVariants.{Goto, BranchPair, BranchZero}
use Rattle.mblock.specs.Parts.{BlockParts, OrderParts}
use Rattle.mblock.specs.BlockMeaning.{Shape, Goes, ChoosesPair, ChoosesZero, Calls, Prints, exit_shape}
use Rattle.mblock.specs.Orders.{AreOrders}
use Rattle.mblock.specs.Units.{UnitParts, IsUnit, GoesBelow, BranchesWithin, AreOwners}
use Rattle.image.specs.Images.{Version, IsImage, FitsVersion}
use Rattle.mips_asm.specs.Layout.{exit_size, place, layout}
use Rattle.mips_asm.specs.Functions.{AreFunctions}
use Rattle.mips_asm.specs.LayoutRuns.{RunsAs}
use Rattle.mips_asm.proofs.Within.{place_mono, place_next}
use Rattle.mips_asm.proofs.LayoutPlaces.{insts_length}
use Rattle.mips_asm.proofs.Composed.{there_is, each_layout_runs, each_layout_tells_calls_apart}
use Rattle.mips_asm.proofs.PlainRuns.{each_plain_layout_runs}
use Rattle.mips_asm.specs.Emitted.{IsOwn, AreUnits}
use Rattle.mips_asm.specs.Assembled.{EachAssembledImageRuns}
use Rattle.mips_asm.specs.declared.limits.TheConstants.{CODE_WORDS}
use Rattle.mips_isa.specs.MemoryMap.{code_base}

-- ---- targets, by the shape of an exit alone

abbrev BelowShape : ℕ → Shape → Type 0
BelowShape n (Goes t) = t < n
BelowShape n (ChoosesPair x t e) = (t < n) × (e < n)
BelowShape n (ChoosesZero x t e) = (t < n) × (e < n)
BelowShape n (Calls f m) = (f < n) × (m < n)
BelowShape n (Prints m) = m < n
BelowShape n _ = Unit {0}

below_shape : (n : ℕ) (exit : Exit) → (GoesBelow n exit → BelowShape n (exit_shape exit)) × (BelowShape n (exit_shape exit) → GoesBelow n exit)
below_shape n (Goto t) = (λ h. h, λ h. h)
below_shape n _ = (λ h. h, λ h. h)

abbrev OwnShape : (ℕ → ℕ) → ℕ → Shape → Type 0
OwnShape owner k (ChoosesPair x t e) = owner t ≡ owner k
OwnShape owner k (ChoosesZero x t e) = owner t ≡ owner k
OwnShape owner k _ = Unit {0}

read_at : (xs : List ℕ) (i x : ℕ) → slice_get xs i ≡ Some x → slice_index xs i ≡ x
read_at xs i x e = get_or_from_slice_get xs i x 0 e

branches_within : (owner : List ℕ) (k o : ℕ) (exit : Exit) → slice_get owner k ≡ Some o → BranchesWithin owner o exit
    → OwnShape (slice_index owner) k (exit_shape exit)
branches_within owner k o (BranchPair x a b t e) at h = read_at owner t o h.0 ∙ sym (read_at owner k o at)
branches_within owner k o (BranchZero x a t e) at h = read_at owner t o h.0 ∙ sym (read_at owner k o at)
branches_within owner k o _ at h = tt

is_own : (owner : ℕ → ℕ) (k : ℕ) (exit : Exit) → OwnShape owner k (exit_shape exit) → IsOwn owner k exit
is_own owner k (Goto t) h = h
is_own owner k _ h = h

-- ---- units

functions_are : (blocks : List BlockParts) (owner : List ℕ) → AreOwners blocks owner → 0 < length blocks → AreFunctions (length blocks) (slice_index owner)
functions_are blocks owner h some = record {
  first = (let p = there_is owner 0 (omega (arith, h.lengths)) in read_at owner 0 p.0 p.1 ∙ h.continues 0 p.0 p.1);
  each = λ k lt.
      let p = there_is owner (suc k) (omega (arith, h.lengths)) in
      let here = read_at owner (suc k) p.0 p.1 in
      elim (cases_eq p.0 (suc k)) [
        | inl e ↦ inl (here ∙ e)
        | inr ne ↦ inr (here ∙ sym (read_at owner k p.0 (h.continues (suc k) p.0 p.1 ne)))
      ];
}

pub unit_orders : (u : UnitParts) (orders : List OrderParts) → IsUnit u → AreOrders u.blocks orders → AreUnits (slice_index u.owner) orders
unit_orders u orders is h = record {
  count = omega (arith, is.few, h.long);
  functions = subst (λ n. AreFunctions n (slice_index u.owner)) (sym h.long) (functions_are u.blocks u.owner is.owners is.some);
  there = λ k o e.
      let p = block_at k o e in
      let below = subst (BelowShape (length u.blocks)) (h.exits k p.0 o p.1 e) ((below_shape (length u.blocks) p.0.exit).0 (is.linked.by k p.0 p.1)) in
      subst (λ n. GoesBelow n o.exit) (sym h.long) ((below_shape (length u.blocks) o.exit).1 below);
  own = λ k o e.
      let p = block_at k o e in
      let q = there_is u.owner k (let lt = slice_get_within u.blocks k p.0 p.1 in omega (arith, is.owners.lengths)) in
      let own = branches_within u.owner k q.0 p.0.exit q.1 (is.owners.within k q.0 p.0 p.1 q.1) in
      is_own (slice_index u.owner) k o.exit (subst (OwnShape (slice_index u.owner) k) (h.exits k p.0 o p.1 e) own);
}
  where
    block_at : (k : ℕ) (o : OrderParts) → slice_get orders k ≡ Some o → (b : BlockParts) × (slice_get u.blocks k ≡ Some b)
    block_at k o e = there_is u.blocks k (let lt = slice_get_within orders k o e in omega (arith, h.long))

-- ---- images

two_words : (exit : Exit) → 2 ≤ exit_size exit
two_words (Goto t) = omega arith
two_words _ = omega arith

some_words : (os : List OrderParts) → 0 < length os → 1 ≤ place os (length os)
some_words os lt =
    let p = there_is os 0 lt in
    let first = place_next os 0 p.0 p.1 in
    let later = place_mono os 1 (length os) (omega arith) in
    omega (arith, two_words p.0.exit, first, later)

pub image_made : (u : UnitParts) (orders : List OrderParts) (v : Version) (code bytes : List ℕ) → IsUnit u → AreOrders u.blocks orders
    → place orders (length orders) ≤ CODE_WORDS
    → FitsVersion v u.globals → code ≡ map inst_word (layout orders) → bytes ≡ u.globals → All IsInst (layout orders)
    → IsImage (record { version = v; entry = code_base; code = code; bytes = bytes })
image_made u orders v code bytes is h room fits code_is bytes_is fit = record {
  some = omega (arith, long, some);
  code_fits = omega (arith, long);
  bytes_fit = (let most = is.data_fits in let same = ap (λ (l : List ℕ). length l) bytes_is in omega arith);
  entry = lt-ltb 0 (length code) (omega (arith, long, some));
  version = subst (FitsVersion v) (sym bytes_is) fits;
  code = subst (All (λ w. w < 2 ^ 32)) (sym code_is) (words_below (layout orders) fit);
  bytes = subst (All (λ b. b < 2 ^ 8)) (sym bytes_is) is.data_bytes;
}
  where
    long : length code ≡ place orders (length orders)
    long = ap (λ (l : List ℕ). length l) code_is ∙ length-map (layout orders) inst_word ∙ insts_length (place orders) orders 0 h.fits

    some : 1 ≤ place orders (length orders)
    some = some_words orders (let lt = is.some in omega (arith, h.long))

pub each_assembled_image_runs : EachAssembledImageRuns
each_assembled_image_runs u orders i h made image fit =
    let code = ap (λ (w : List ℕ). length w) made.code in
    let room : length (layout orders) ≤ CODE_WORDS = omega (arith, length-map (layout orders) inst_word, code, image.code_fits) in
    let Plain : List OrderParts → Type 0 =
    λ os. AreOrders u.blocks os → length (layout os) ≤ CODE_WORDS → All IsInst (layout os) → RunsAs 1 u.blocks os (map inst_word (layout os)) in
    record {
      apart = each_layout_tells_calls_apart u.blocks orders h room;
      runs = subst (λ (w : List ℕ). RunsAs 513 u.blocks orders w) (sym made.code) (each_layout_runs u.blocks orders h room fit);
      plain = λ e. subst (λ (w : List ℕ). RunsAs 1 u.blocks orders w) (sym made.code) (subst Plain (sym e) (each_plain_layout_runs u.blocks) h room fit);
    }
