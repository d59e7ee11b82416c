-- The homes that are made are the choice, and the choice serves its function.
use Rattle.std.proofs.Common.{◌≡◌, ℕ, zero, suc, ◌+◌, ◌-◌, ◌^◌, ◌<◌, ◌≤◌, ⊎_elim, true, false, ◌||◌, List, [], ◌∷◌, Some, refl, sym, ap}
use Rattle.std.proofs.Common.{◌∙◌, arith, length, nat_eq, nat_lt, true≢false, eqb-true, ne_eqb, lt-ltb, ltb-true, get_or}
use mathlib.Core.Path.{fun_ext}
use Rattle.std.specs.Prelude.{if◌then◌else◌, slice_get}
use Rattle.std.proofs.lemmas.Bool.{cases_lt, or_cases, false_from_ne_true, true_from_ne_false}
use Rattle.std.proofs.lemmas.Option.{slice_get_within, same_Some}
use Rattle.rtl.proofs.Names.{bound_one, bound_least}
use Rattle.rtl.specs.Names.{bound, blocks_names, how_many, uses_of}
use Rattle.mips_homes.specs.Convention.{IsCalleeSaved}
use Rattle.mips_homes.specs.HomedRun.{is_in, homed_run}
use Rattle.mips_homes.specs.Homes.{HasHome, HaveHomes, Serves, AreAllHomes, cell}
use Rattle.mips_homes.specs.Laws.{KeepsRtlRuns}
use Rattle.mips_homes.specs.Choice.{count_below, rank, is_register_home, IsChoice, HaveFrames, AreChoices}
use Rattle.mips_homes.specs.Best.{IsBest, IsHome, AreHomesOf, AreFirst}
use Rattle.mips_homes.proofs.Choosing.{count_none, count_all, count_more, at_index, is_in_at, in_best}
use Rattle.mips_homes.proofs.Lockstep.{AreCalleeSaved, each_homed_run}
use Rattle.mips_homes.specs.declared.homed.Home.{Home}
use Rattle.mips_homes.specs.declared.homed.Home.TheVariants.{Reg, Slot, Copied}
use Rattle.mips_homes.specs.declared.homed.Frame.{Frame}
use Rattle.mips_homes.specs.declared.homed.Homed.{Homed}
use Rattle.rtl.specs.declared.block.RFunc.{RFunc}

pub in_at : (xs : List ℕ) (x : ℕ) → is_in xs x ≡ true → (j : ℕ) × (slice_get xs j ≡ Some x)
in_at [] x e = absurd (true≢false (sym e))
in_at (z ∷ xs) x e =
    let rest = in_at xs x in
    ⊎_elim (λ same. (zero, ap Some (sym (eqb-true x z same)))) (λ more. (suc (rest more).0, (rest more).1)) (or_cases (nat_eq x z) (is_in xs x) e)

-- as many are among them as there are, where none stands twice
members : (n : ℕ) (best : List ℕ) → ((i j x : ℕ) → slice_get best i ≡ Some x → slice_get best j ≡ Some x → i ≡ j)
    → ((j x : ℕ) → slice_get best j ≡ Some x → x < n) → count_below (is_in best) n ≡ length best
members n [] once low = count_none (is_in []) n (λ y lt. refl)
members n (b ∷ bs) once low =
    count_more (is_in (b ∷ bs)) (is_in bs) n b (low 0 b refl) (λ y lt ne. ap (λ c. c || is_in bs y) (ne_eqb y b ne))
    (is_in_at (b ∷ bs) 0 b refl)
    (false_from_ne_true (is_in bs b) (λ e. let there = in_at bs b e in absurd (omega (arith, once 0 (suc there.0) b refl there.1))))
    ∙ ap suc (members n bs (λ i j x p q. omega (arith, once (suc i) (suc j) x p q)) (λ j x p. low (suc j) x p))

-- the slots grow
slot_below : (best : List ℕ) (x y : ℕ) → x < y → is_in best x ≡ false → count_below (is_in best) y + x + 1 ≤ count_below (is_in best) x + y
slot_below best x zero lt out = absurd (omega (arith, lt))
slot_below best x (suc y) lt out = grind (arith, λ (low : x < y). slot_below best x y low out)

-- two have no slot in common
slots_apart : (best : List ℕ) (x y k : ℕ) → IsHome best x (Slot k) → IsHome best y (Slot k) → x ≡ y
slots_apart best x y k p q =
    grind (arith, slot_below best x y, slot_below best y x)

-- all but eight have slots
slots_are : (uses : ℕ → ℕ) (n used : ℕ) (best : List ℕ) (homes : List Home) → IsBest uses n best → AreHomesOf best n homes used → used ≡ n - 8
slots_are uses n used best homes ok made = ⊎_elim
    (λ low. omega (
      arith,
      made.counted,
      counted,
      low,
      count_all (is_in best) n (λ y lt.
          true_from_ne_false (is_in best y) (λ out. absurd (omega (arith, low, ok.all y lt out)))),
    ))
    (λ high. omega (arith, made.counted, counted, ok.few, high)) (cases_lt (length best) 8)
  where
    counted : count_below (is_in best) n ≡ length best
    counted = members n best (λ i j x p q. sym ((ok.ranked).at i x p).1 ∙ ((ok.ranked).at j x q).1) (λ j x at. ((ok.ranked).at j x at).0)

-- what is made is the choice
choice : (func : RFunc) (frame : Frame) (best : List ℕ) → IsBest (uses_of func) (how_many func) best
    → AreHomesOf best (how_many func) frame.homes.items frame.slots → AreFirst (length best) frame.saved.items → IsChoice func frame
choice func frame best ok made first = record {
  long = made.long;
  chosen = λ x h got. chosen x h (made.by x h got) (within x h got);
  apart = λ x y h got_x got_y. apart x y h (made.by x h got_x) (made.by y h got_y);
  registers = λ x r got. registers x r (made.by x (Reg r) got);
  saved = λ j r got. saved j r got;
  saved_once = λ i j r p q. omega (arith, first.by i r p, first.by j r q);
  slots = slots_are (uses_of func) (how_many func) frame.slots best frame.homes.items ok made;
  uncopied = λ x r k got. made.by x (Copied r k) got;
  in_slots = λ x k got. in_slots x k (within x (Slot k) got) (made.by x (Slot k) got);
}
  where
    within : (x : ℕ) (h : Home) → slice_get frame.homes.items x ≡ Some h → x < how_many func
    within x h got = omega (arith, slice_get_within frame.homes.items x h got, made.long)

    place_low : (j x : ℕ) → slice_get best j ≡ Some x → j < 8
    place_low j x at = omega (arith, slice_get_within best j x at, ok.few)

    chosen : (x : ℕ) (h : Home) → IsHome best x h → x < how_many func → is_register_home h ≡ nat_lt (rank (uses_of func) (how_many func) x) 8
    chosen x (Reg r) is lt =
        sym (lt-ltb (rank (uses_of func) (how_many func) x) 8 (omega (arith, place_low is.0 x is.2, ((ok.ranked).at is.0 x is.2).1)))
    chosen x (Slot k) is lt = sym (false_from_ne_true (nat_lt (rank (uses_of func) (how_many func) x) 8) (λ e.
        let low = ltb-true (rank (uses_of func) (how_many func) x) 8 e in
        let at = in_best (uses_of func) (how_many func) best x ok.ranked lt (omega (arith, low, ok.all x lt is.0)) in
        true≢false (sym (is_in_at best (rank (uses_of func) (how_many func) x) x at) ∙ is.0)))
    chosen x (Copied r k) is lt = absurd is

    apart : (x y : ℕ) (h : Home) → IsHome best x h → IsHome best y h → x ≡ y
    apart x y (Reg r) p q =
        let same : p.0 ≡ q.0 = omega (arith, p.1, q.1) in
        same_Some x y (sym p.2 ∙ ap (slice_get best) same ∙ q.2)
    apart x y (Slot k) p q = slots_apart best x y k p q
    apart x y (Copied r k) p q = absurd p

    registers : (x r : ℕ) → IsHome best x (Reg r) → IsCalleeSaved r × (is_in frame.saved.items r ≡ true)
    registers x r is =
        let there = at_index frame.saved.items is.0 (omega (arith, slice_get_within best is.0 x is.2, first.long)) in (
          (omega (arith, is.1), omega (arith, is.1, place_low is.0 x is.2)),
          is_in_at frame.saved.items is.0 r (there.1 ∙ ap Some (first.by is.0 there.0 there.1 ∙ sym is.1)),
        )

    saved : (j r : ℕ) → slice_get frame.saved.items j ≡ Some r → (x : ℕ) × (slice_get frame.homes.items x ≡ Some (Reg r))
    saved j r got =
        let there = at_index best j (omega (arith, slice_get_within frame.saved.items j r got, first.long)) in
        let home = at_index frame.homes.items there.0 (omega (arith, ((ok.ranked).at j there.0 there.1).0, made.long)) in
        (there.0, home.1 ∙ ap Some (reg there.0 home.0 there.1 (made.by there.0 home.0 home.1)))
      where
        reg : (x : ℕ) (h : Home) → slice_get best j ≡ Some x → IsHome best x h → h ≡ Reg r
        reg x (Reg q) at is =
            let same : q ≡ r = omega (arith, ((ok.ranked).at is.0 x is.2).1, ((ok.ranked).at j x at).1, is.1, first.by j r got) in
            ap Reg same
        reg x (Slot k) at is = absurd (true≢false (sym (is_in_at best j x at) ∙ is.0))
        reg x (Copied q k) at is = absurd is

    in_slots : (x k : ℕ) → x < how_many func → IsHome best x (Slot k) → k < frame.slots
    in_slots x k lt is = omega (arith, slot_below best x (how_many func) lt is.0, is.1, made.counted)

-- the same in the words of the code
pub frame_chosen : (func : RFunc) (frame : Frame) (us us' best best' : List ℕ) (n count : ℕ) → length us ≡ how_many func
    → ((x : ℕ) → get_or us x 0 ≡ uses_of func x) → us' ≡ us → IsBest (λ z. get_or us' z 0) (length us') best → best' ≡ best → n ≡ length us'
    → count ≡ length best'
    → AreHomesOf best' n frame.homes.items frame.slots → AreFirst count frame.saved.items → IsChoice func frame
frame_chosen func frame us us' best best' n count long value e ok f n_is count_is made first =
    choice func frame best (rw (e, fun_ext value, long) at ok) (rw (n_is, e, long, f) at made) (rw (count_is, f) at first)

pub slots_fit : (us us' best best' : List ℕ) (n used : ℕ) (homes : List Home) → length us ≤ 2 ^ 32 → us' ≡ us
    → IsBest (λ z. get_or us' z 0) (length us') best → best' ≡ best → n ≡ length us' → AreHomesOf best' n homes used → used < 2 ^ 32
slots_fit us us' best best' n used homes few e ok f n_is made =
    omega (arith, few, ap length e, slots_are (λ z. get_or us' z 0) (length us') used best homes ok (rw (f, n_is) at made))

pub home_at : (homes : List Home) (x : ℕ) → x < length homes → HasHome homes x
home_at homes x lt = (let there = at_index homes x lt in record { home = there.0; is = there.1 })

-- names are below the bound
named_below : (homes : List Home) (n : ℕ) (xs : List ℕ) → bound n xs ≤ length homes → HaveHomes homes xs
named_below homes n [] le = tt
named_below homes n (x ∷ xs) le =
    let next = if nat_lt x n then n else suc x in
    (home_at homes x (omega (arith, (bound_one n x).1, bound_least next xs, le)), named_below homes next xs le)

-- as many homes as pseudo-registers: all names have homes, and so have the parameters
pub names_have : (homes : List Home) (func : RFunc) → length homes ≡ how_many func → HaveHomes homes (blocks_names func.blocks.items)
names_have homes func long = named_below homes func.parameters (blocks_names func.blocks.items) (omega (arith, long))

pub parameters_have : (homes : List Home) (func : RFunc) → length homes ≡ how_many func → (x : ℕ) → x < func.parameters → HasHome homes x
parameters_have homes func long x lt = home_at homes x (omega (arith, lt, long, bound_least func.parameters (blocks_names func.blocks.items)))

pub choice_callee_saved : {func : RFunc} {frame : Frame} → IsChoice func frame → AreCalleeSaved frame.homes.items
choice_callee_saved is x r at =
    let range = (is.registers x r at).0 in
    rw (lt-ltb 15 r (omega (arith, range.0)), lt-ltb r 24 range.1)

-- a home of a choice is its cell
pub plain : {func : RFunc} {frame : Frame} → IsChoice func frame → (x : ℕ) (h : Home) → slice_get frame.homes.items x ≡ Some h → cell h ≡ h
plain is x (Copied r k) at = absurd (is.uncopied x r k at)
plain is x _ at = refl

-- the choice serves
serves : (func : RFunc) (frame : Frame) → IsChoice func frame → Serves frame func
serves func frame is = record {
  homes = record {
    apart = λ x y h g at_x at_y e. is.apart x y g (at_x ∙ ap Some (sym (plain is x h at_x) ∙ e ∙ plain is y g at_y)) at_y;
    kept = λ x r got lasts. (is.registers x r got).1;
    local = λ x r got passes. absurd (true≢false (sym (choice_callee_saved is x r got) ∙ passes));
    named = names_have frame.homes.items func is.long;
  };
  parameters = parameters_have frame.homes.items func is.long;
}

-- a frame for each function that serves it
pub all_serve : (IsFrame : RFunc → Frame → Type 0) (h : Homed) → HaveFrames IsFrame h
    → ((func : RFunc) (frame : Frame) → IsFrame func frame → Serves frame func) → AreAllHomes h
all_serve IsFrame h is serve = record {
  by = λ i func got.
      (let there = at_index h.frames.items i (omega (arith, slice_get_within (h.rtl.now).functions i func got, is.long)) in
      (there.0, there.1, serve func there.0 (is.by i func there.0 got there.1)));
}

pub choices_serve : (h : Homed) → AreChoices h → AreAllHomes h
choices_serve h is = all_serve IsChoice h is serves

pub choice_keeps_runs : (h : Homed) → AreChoices h → KeepsRtlRuns homed_run h
choice_keeps_runs h is = each_homed_run h (choices_serve h is)
