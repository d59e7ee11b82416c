-- Places serve, as homes do.
use Rattle.std.proofs.Common.{◌≡◌, ℕ, zero, suc, ◌+◌, ◌<◌, ◌≤◌, ◌⊎◌, inl, inr, ⊎_elim, Bool, true, false, ◌&&◌, List, [], ◌∷◌, ◌++◌}
use Rattle.std.proofs.Common.{Some, refl, sym, ap, ◌∙◌, arith, add-zero, add-suc, suc-add, zero-add, length, drop, nat_eq, true≢false, eqb-true, eq-eqb}
use Rattle.std.specs.Prelude.{if◌then◌else◌, Option, None, not, slice_get}
use Rattle.std.specs.List.{filter, list_any}
use Rattle.std.proofs.lemmas.Bool.{and_parts, or_parts, or_cases, or_right, le-ltb, not-true, false_from_ne_true}
use Rattle.std.proofs.lemmas.List.Sums.{length-filter, count_by-le-length}
use Rattle.std.proofs.lemmas.Map.Keys.{any_passes_from_place}
use Rattle.std.proofs.lemmas.Option.{same_Some, none-some}
use Rattle.std.proofs.lemmas.Bool.Decides.{nat_tests}
use Rattle.rtl.specs.Names.{how_many, optional}
use Rattle.mips_homes.specs.HomedRun.{is_in, is_callee_saved, homed_run}
use Rattle.mips_homes.specs.Homes.{AreApart, Serves, cell}
use Rattle.mips_homes.specs.Laws.{KeepsRtlRuns}
use Rattle.mips_homes.specs.Choice.{IsChoice}
use Rattle.mips_homes.specs.Locals.{is_local, some_go_to, block_reads_first}
use Rattle.mips_homes.specs.Preferences.{reach_from, exit_reach, blocks_reach, preference}
use Rattle.mips_homes.specs.Convention.{temporaries}
use Rattle.mips_homes.specs.Copies.{unused}
use Rattle.mips_homes.specs.Places.{first_free, free_register, home_or, also, places_from, is_register, lives_in, still_saved, is_slot, some_slot}
use Rattle.mips_homes.specs.Places.{IsPlaced, IsPlacedFor, ArePlaced}
use Rattle.mips_homes.proofs.Choosing.{is_in_at}
use Rattle.mips_homes.proofs.Chosen.{in_at, choice_callee_saved, names_have, parameters_have, plain, all_serve}
use Rattle.mips_homes.proofs.Copying.{copied_get, copied_long}
use Rattle.mips_homes.proofs.Lockstep.{AreCalleeSaved, each_homed_run, is_in_first}
use Rattle.mips_homes.proofs.Seeing.{in_append}
use Rattle.mips_homes.specs.declared.homed.Home.{Home}
use Rattle.mips_homes.specs.declared.homed.Home.TheVariants.{Reg}
use Rattle.mips_homes.specs.declared.homed.Frame.{Frame}
use Rattle.mips_homes.specs.declared.homed.Homed.{Homed}
use Rattle.rtl.specs.declared.block.RBlock.{RBlock}
use Rattle.rtl.specs.declared.block.RFunc.{RFunc}

-- ---- what places are

abbrev pub Apart : List Home → Type 0
Apart hs = (x y : ℕ) (h : Home) → slice_get hs x ≡ Some h → slice_get hs y ≡ Some h → x ≡ y

-- a register that a local pseudo-register x gets in place of its home: it isn't taken, and it is the register of its preferred register or a temporary
pub record GetsTemporary (locals : ℕ → Bool) (preference : ℕ → Option ℕ) (x : ℕ) (taken : List ℕ) (h : Home) : Type 0 where
  pub r : ℕ
  pub is : h ≡ Reg r
  pub local : locals x ≡ true
  pub free : is_in taken r ≡ false
  pub among : is_in (optional (preference x) ++ temporaries) r ≡ true

in_also : (taken : List ℕ) (o : Option ℕ) (r : ℕ) → is_in (also taken o) r ≡ false → is_in taken r ≡ false
in_also taken None r e = e
in_also taken (Some q) r e = (or_parts (is_in taken r) (is_in (q ∷ []) r) (sym (in_append taken (q ∷ []) r) ∙ e)).0

pub also_in : (taken : List ℕ) (r : ℕ) → is_in (also taken (Some r)) r ≡ true
also_in taken r = in_append taken (r ∷ []) r ∙ or_right (is_in taken r) (is_in (r ∷ []) r) (is_in_first r [])

-- the first one that is free is one of them, and isn't taken
first_is : (taken rs : List ℕ) (r : ℕ) → first_free taken rs ≡ Some r → (is_in taken r ≡ false) × (is_in rs r ≡ true)
first_is taken [] r e = absurd (none-some r e)
first_is taken (q ∷ rs) r e = grind (arith, nat_tests, first_is taken rs r)

-- registers that are preferences: 4 to 7
abbrev pub ArePreferences : (ℕ → Option ℕ) → Type 0
ArePreferences preference = (x r : ℕ) → preference x ≡ Some r → (4 ≤ r) × (r < 8)

abbrev pub IsTemporary : ℕ → Type 0
IsTemporary r = (8 ≤ r) × (r < 28) × (is_callee_saved r ≡ false)

temporary_is : (r : ℕ) → is_in temporaries r ≡ true → IsTemporary r
temporary_is r e = grind (arith, nat_tests)

same_register : (q r : ℕ) → Reg q ≡ Reg r → q ≡ r
same_register q r e = cc

-- the register that is passed, or a temporary: none that outlives a block
module _ {local : ℕ → Bool} {preference : ℕ → Option ℕ} {x : ℕ} {taken : List ℕ} {h : Home} (p : GetsTemporary local preference x taken h) where
  temporary_range : (preference x ≡ Some p.r) ⊎ IsTemporary p.r
  temporary_range = by (preference x) refl p.among
    where
      by : (o : Option ℕ) → preference x ≡ o → is_in (optional o ++ temporaries) p.r ≡ true → (preference x ≡ Some p.r) ⊎ IsTemporary p.r
      by None e among = inr (temporary_is p.r among)
      by (Some q) e among = ⊎_elim (λ same. inl (e ∙ ap Some (sym (eqb-true p.r q same)))) (λ more. inr (temporary_is p.r more))
          (or_cases (nat_eq p.r q) (is_in temporaries p.r) among)

  temporary_caller_saved : ArePreferences preference → is_callee_saved p.r ≡ false
  temporary_caller_saved preferences = ⊎_elim (λ e. rw (le-ltb 15 p.r (omega (arith, preferences x p.r e)))) (λ range. range.2) temporary_range

module _ (local : ℕ → Bool) (preference : ℕ → Option ℕ) where
  -- the register that x gets
  abbrev chosen : (x : ℕ) → (taken : List ℕ) → Option ℕ
  chosen x taken = if local x then free_register taken (preference x) else None

  gets : (x : ℕ) (taken : List ℕ) (r : ℕ) → chosen x taken ≡ Some r → GetsTemporary local preference x taken (Reg r)
  gets x taken r e = by (local x) refl e
    where
      by : (c : Bool) → local x ≡ c → (if c then free_register taken (preference x) else None) ≡ Some r → GetsTemporary local preference x taken (Reg r)
      by true l e =
          let first = first_is taken (optional (preference x) ++ temporaries) r e in
          record { r = r; is = refl; local = l; free = first.0; among = first.1 }
      by false l e = absurd (none-some r e)

  place_case : (x : ℕ) (taken : List ℕ) (hs : List Home) (j : ℕ) (h : Home) → slice_get (places_from local preference x taken hs) j ≡ Some h
      → (slice_get hs j ≡ Some h) ⊎ GetsTemporary local preference (x + j) taken h
  place_case x taken [] j h e = absurd (none-some h e)
  place_case x taken (g ∷ hs) zero h e = rw (add-zero x) (by (chosen x taken) refl (same_Some _ h e))
    where
      by : (o : Option ℕ) → chosen x taken ≡ o → home_or o g ≡ h → (Some g ≡ Some h) ⊎ GetsTemporary local preference x taken h
      by None c e = inl (ap Some e)
      by (Some r) c e = inr (rw (← e) (gets x taken r c))
  place_case x taken (g ∷ hs) (suc j) h e =
      rw (add-suc x j, ← suc-add x j) (⊎_elim (λ home. inl home) (λ p. inr (record {
        r = p.r;
        is = p.is;
        local = p.local;
        free = in_also taken (chosen x taken) p.r p.free;
        among = p.among;
      })) (place_case (suc x) (also taken (chosen x taken)) hs j h e))

  -- a later one is elsewhere
  first_apart : ArePreferences preference → (x : ℕ) (taken : List ℕ) (g : Home) (hs : List Home) → AreCalleeSaved (g ∷ hs) → Apart (g ∷ hs)
      → (j : ℕ) (h : Home) → Some (home_or (chosen x taken) g) ≡ Some h
      → slice_get (places_from local preference (suc x) (also taken (chosen x taken)) hs) j ≡ Some h → ⊥
  first_apart preferences x taken g hs last apart j h a b =
      by (chosen x taken) refl (same_Some _ h a) (place_case (suc x) (also taken (chosen x taken)) hs j h b)
    where
      by : (c : Option ℕ) → chosen x taken ≡ c → home_or c g ≡ h
          → (slice_get hs j ≡ Some h) ⊎ GetsTemporary local preference (suc x + j) (also taken (chosen x taken)) h → ⊥
      by None c is (inl e) = absurd (omega (arith, apart 0 (suc j) h (ap Some is) e))
      by None c is (inr p) = true≢false (sym (last 0 p.r (ap Some (is ∙ p.is))) ∙ temporary_caller_saved p preferences)
      by (Some r) c is (inl e) =
          let q = gets x taken r c in
          true≢false (sym (last (suc j) q.r (e ∙ ap Some (sym is ∙ q.is))) ∙ temporary_caller_saved q preferences)
      by (Some r) c is (inr p) =
          true≢false (sym (ap (λ o. is_in (also taken o) p.r) (c ∙ ap Some (same_register r p.r (is ∙ p.is))) ∙ also_in taken p.r) ∙ p.free)

  places_apart : ArePreferences preference → (x : ℕ) (taken : List ℕ) (hs : List Home) → AreCalleeSaved hs → Apart hs
      → Apart (places_from local preference x taken hs)
  places_apart preferences x taken [] last apart i j h a b = absurd (none-some h a)
  places_apart preferences x taken (g ∷ hs) last apart zero zero h a b = refl
  places_apart preferences x taken (g ∷ hs) last apart zero (suc j) h a b = absurd (first_apart preferences x taken g hs last apart j h a b)
  places_apart preferences x taken (g ∷ hs) last apart (suc i) zero h a b = absurd (first_apart preferences x taken g hs last apart i h b a)
  places_apart preferences x taken (g ∷ hs) last apart (suc i) (suc j) h a b =
      ap suc (places_apart preferences (suc x) (also taken (chosen x taken)) hs (λ y. last (suc y))
      (λ y z h e f. omega (arith, apart (suc y) (suc z) h e f)) i j h a b)

  places_long : (x : ℕ) (taken : List ℕ) (hs : List Home) → length (places_from local preference x taken hs) ≡ length hs
  places_long x taken [] = refl
  places_long x taken (g ∷ hs) = ap suc (places_long (suc x) (also taken (chosen x taken)) hs)

-- local to blocks
local_to : (bs : List RBlock) (x : ℕ) → is_local bs x ≡ true → (b : ℕ) (block : RBlock) → slice_get bs b ≡ Some block → some_go_to bs b ≡ true
    → block_reads_first block x ≡ false
local_to bs x is b block there goes = false_from_ne_true (block_reads_first block x) (λ reads.
    true≢false (sym (counts bs b (some_go_to bs 0) there reads (λ z. sym (ap (some_go_to bs) z) ∙ goes)) ∙ not-true _ is))
  where
    counts : (ks : List RBlock) (b : ℕ) (first : Bool) → slice_get ks b ≡ Some block → block_reads_first block x ≡ true → (b ≡ 0 → first ≡ true)
        → list_any (λ k. block_reads_first k x) (if first then ks else drop 1 ks) ≡ true
    counts ks b true there reads met = any_passes_from_place (λ k. block_reads_first k x) ks b block there reads
    counts [] b false there reads met = absurd (none-some block there)
    counts (k ∷ ks) zero false there reads met = absurd (true≢false (sym (met refl)))
    counts (k ∷ ks) (suc b) false there reads met = any_passes_from_place (λ k. block_reads_first k x) ks b block there reads

-- ---- preferences

-- the register of a preference: of a parameter that in which it comes; no argument is behind it
preference_is : (n : ℕ) (bs : List RBlock) (x r : ℕ) → preference n bs x ≡ Some r
    → (4 ≤ r) × (r < 8) × (blocks_reach bs x + 3 ≤ r) × (x < n → r ≡ 4 + x)
preference_is n bs x r e = grind (arith, nat_tests)

-- each argument is among those up to the last
pub reach_covers : (n : ℕ) (xs : List ℕ) (j x : ℕ) → slice_get xs j ≡ Some x → n + suc j ≤ reach_from n xs x
reach_covers n [] j x e = absurd (none-some x e)
reach_covers n (y ∷ ys) zero x e = rw (eq-eqb x y (sym (same_Some y x e))) (omega arith)
reach_covers n (y ∷ ys) (suc j) x e = omega (arith, reach_covers (suc n) ys j x e)

pub blocks_cover : (bs : List RBlock) (b : ℕ) (block : RBlock) (x : ℕ) → slice_get bs b ≡ Some block → exit_reach block.exit x ≤ blocks_reach bs x
blocks_cover [] b block x e = absurd (none-some block e)
blocks_cover (k ∷ bs) zero block x e = rw (← same_Some k block e) (omega arith)
blocks_cover (k ∷ bs) (suc b) block x e = omega (arith, blocks_cover bs b block x e)

-- ---- registers that are left for copies, and registers that are still saved

in_filter : (test : ℕ → Bool) (rs : List ℕ) (r : ℕ) → is_in (filter test rs) r ≡ (is_in rs r && test r)
in_filter test [] r = refl
in_filter test (q ∷ rs) r = grind (arith, nat_tests, in_filter test rs r)

pub unused_temporary : (hs : List Home) (j r : ℕ) → slice_get (unused hs temporaries) j ≡ Some r → IsTemporary r × (lives_in hs r ≡ false)
unused_temporary hs j r e =
    let both = and_parts (is_in temporaries r) (not (lives_in hs r)) (sym (in_filter (λ r. not (lives_in hs r)) temporaries r) ∙ is_in_at (unused hs temporaries) j r e) in
    (temporary_is r both.0, not-true (lives_in hs r) both.1)

pub lives : (hs : List Home) (x r : ℕ) → slice_get hs x ≡ Some (Reg r) → lives_in hs r ≡ true
lives hs x r e = any_passes_from_place (λ h. is_register h r) hs x (Reg r) e (eq-eqb r r refl)

pub still_was : (hs : List Home) (rs : List ℕ) (j r : ℕ) → slice_get (still_saved hs rs) j ≡ Some r → (i : ℕ) × (slice_get rs i ≡ Some r)
still_was hs rs j r e = in_at rs r (and_parts (is_in rs r) (lives_in hs r) (sym (in_filter (lives_in hs) rs r) ∙ is_in_at (still_saved hs rs) j r e)).0

pub still_few : (hs : List Home) (rs : List ℕ) → length (still_saved hs rs) ≤ length rs
still_few hs rs = omega (arith, length-filter (lives_in hs) rs, count_by-le-length (lives_in hs) rs)

pub has_slot : (hs : List Home) (x : ℕ) (h : Home) → slice_get hs x ≡ Some h → is_slot h ≡ true → some_slot hs ≡ true
has_slot = any_passes_from_place is_slot

-- ---- places serve

module _ (func : RFunc) (c f : Frame) (ok : IsChoice func c) (p : IsPlaced func.parameters func.blocks.items c f) where
  abbrev locals : ℕ → Bool
  locals = is_local func.blocks.items

  abbrev preferred : ℕ → Option ℕ
  preferred = preference func.parameters func.blocks.items

  preferences : ArePreferences preferred
  preferences x r e = let is = preference_is func.parameters func.blocks.items x r e in (is.0, is.1)

  -- the register of a preference or a temporary in place of the home of a local pseudo-register
  abbrev pub GetsTemporaryIn : ℕ → Home → Type 0
  GetsTemporaryIn x h = GetsTemporary locals preferred x [] h

  -- the homes before slots have copies
  abbrev pub uncopied : List Home
  uncopied = places_from locals preferred 0 [] c.homes.items

  case_before : (x : ℕ) (h : Home) → slice_get uncopied x ≡ Some h → (slice_get c.homes.items x ≡ Some h) ⊎ GetsTemporaryIn x h
  case_before x h e = rw (zero-add x) at (place_case locals preferred 0 [] c.homes.items x h e)

  pub is_plain : (x : ℕ) (h : Home) → slice_get uncopied x ≡ Some h → cell h ≡ h
  is_plain x h e = ⊎_elim (plain ok x h) (λ q. rw q.is) (case_before x h e)

  before_copy : (x : ℕ) (h : Home) → slice_get f.homes.items x ≡ Some h → slice_get uncopied x ≡ Some (cell h)
  before_copy x h e =
      let before = copied_get func.blocks.items uncopied x h (rw p.homes at e) in
      before.1 ∙ ap Some (sym (is_plain x before.0 before.1) ∙ before.2)

  pub case_of : (x : ℕ) (h : Home) → slice_get f.homes.items x ≡ Some h → (slice_get c.homes.items x ≡ Some (cell h)) ⊎ GetsTemporaryIn x (cell h)
  case_of x h e = case_before x (cell h) (before_copy x h e)

  -- all are among 4 to 27; one below 8 is that of the preference: no argument is passed behind it, and a parameter comes in it
  abbrev Seat : ℕ → ℕ → Type 0
  Seat x r = (4 ≤ r) × (r < 28) × ((8 ≤ r) ⊎ ((blocks_reach func.blocks.items x + 3 ≤ r) × (x < func.parameters → r ≡ 4 + x)))

  seat : (x r : ℕ) → slice_get f.homes.items x ≡ Some (Reg r) → Seat x r
  seat x r e = ⊎_elim home temporary (case_of x (Reg r) e)
    where
      home : slice_get c.homes.items x ≡ Some (Reg r) → Seat x r
      home e = let range = (ok.registers x r e).0 in (omega arith, omega arith, inl (omega arith))

      temporary : GetsTemporaryIn x (Reg r) → Seat x r
      temporary q = rw (same_register r q.r q.is) (⊎_elim
          (λ e. let is = preference_is func.parameters func.blocks.items x q.r e in (is.0, omega arith, inr (is.2, is.3)))
          (λ range. (omega (arith, range.0), range.1, inl range.0)) (temporary_range q))

  pub seated : (x r : ℕ) → slice_get f.homes.items x ≡ Some (Reg r)
      → (8 ≤ r) ⊎ ((blocks_reach func.blocks.items x + 3 ≤ r) × (x < func.parameters → r ≡ 4 + x))
  seated x r e = (seat x r e).2

  pub within : (x r : ℕ) → slice_get f.homes.items x ≡ Some (Reg r) → (4 ≤ r) × (r < 28)
  within x r e = let range = seat x r e in (range.0, range.1)

  pub places_long_as : length f.homes.items ≡ how_many func
  places_long_as = ap length p.homes ∙ copied_long func.blocks.items uncopied ∙ places_long locals preferred 0 [] c.homes.items ∙ ok.long

  pub placed_apart : AreApart f.homes.items
  placed_apart x y h g a b e =
      places_apart locals preferred preferences 0 [] c.homes.items (choice_callee_saved ok) ok.apart
      x y (cell g) (before_copy x h a ∙ ap Some e) (before_copy y g b)

  placed_serves : Serves f func
  placed_serves = record {
    homes = record { apart = placed_apart; kept = kept; local = local; named = names_have f.homes.items func places_long_as };
    parameters = parameters_have f.homes.items func places_long_as;
  }
    where
      kept : (x r : ℕ) → slice_get f.homes.items x ≡ Some (Reg r) → is_callee_saved r ≡ true → is_in f.saved.items r ≡ true
      kept x r e lasts = ⊎_elim
          (λ home. rw (p.saved, in_filter (lives_in f.homes.items) c.saved.items r, (ok.registers x r home).1, lives f.homes.items x r e))
          (λ q. absurd (true≢false (sym lasts ∙ ap is_callee_saved (same_register r q.r q.is) ∙ temporary_caller_saved q preferences)))
          (case_of x (Reg r) e)

      local : (x r : ℕ) → slice_get f.homes.items x ≡ Some (Reg r) → is_callee_saved r ≡ false → (b : ℕ) (block : RBlock)
          → slice_get func.blocks.items b ≡ Some block → some_go_to func.blocks.items b ≡ true → block_reads_first block x ≡ false
      local x r e passes b block there goes = ⊎_elim
          (λ home. absurd (true≢false (sym (choice_callee_saved ok x r home) ∙ passes)))
          (λ q. local_to func.blocks.items x q.local b block there goes) (case_of x (Reg r) e)

pub places_keep_runs : (h : Homed) → ArePlaced h → KeepsRtlRuns homed_run h
places_keep_runs h is = each_homed_run h (all_serve IsPlacedFor h is (λ func frame q. placed_serves func q.choice frame q.is q.placed))
