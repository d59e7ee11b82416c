-- The homes that the best and the others get, and the places of all.
use Rattle.std.proofs.Common.{◌≡◌, ℕ, suc, ◌+◌, ◌<◌, Bool, false, List, [], ◌∷◌, ◌++◌, Option, Some, None, refl, sym, ap, arith, add-one}
use Rattle.std.proofs.Common.{length, drop, get_or}
use Rattle.std.specs.Prelude.{slice_get, if◌then◌else◌}
use Rattle.std.proofs.lemmas.List.{append_assoc, at_drop_more, length_push}
use Rattle.mips_homes.specs.HomedRun.{is_in}
use Rattle.mips_homes.specs.Best.{IsHome, AreHomesOf, AreFirst}
use Rattle.mips_homes.specs.Places.{free_register, home_or, also, places_from}
use Rattle.mips_homes.proofs.Choosing.{each_push, is_in_at}
use Rattle.mips_homes.specs.declared.homed.Home.{Home}
use Rattle.mips_homes.specs.declared.homed.Home.TheVariants.{Reg, Slot}

-- one more home
more : (best : List ℕ) (x used used' : ℕ) (homes : List Home) (h : Home) → AreHomesOf best x homes used → IsHome best x h
    → used' + (if is_in best x then 1 else 0) ≡ used + 1 → AreHomesOf best (x + 1) (homes ++ h ∷ []) used'
more best x used used' homes h before is one = rw (add-one x) (record {
  long = omega (arith, length_push homes h, before.long);
  by = each_push (IsHome best) homes h before.by (rw before.long is);
  counted = omega (arith, one, before.counted);
})

pub home_register : (best : List ℕ) (x used j : ℕ) (homes homes' : List Home) → homes' ≡ homes ++ Reg (16 + j) ∷ []
    → slice_get best j ≡ Some x → AreHomesOf best x homes used → AreHomesOf best (x + 1) homes' used
home_register best x used j homes homes' e at before =
    rw e (more best x used used homes (Reg (16 + j)) before (j, refl, at) (rw (is_in_at best j x at)))

pub home_slot : (best : List ℕ) (x used : ℕ) (homes homes' : List Home) → homes' ≡ homes ++ Slot used ∷ [] → is_in best x ≡ false
    → AreHomesOf best x homes used → AreHomesOf best (x + 1) homes' (used + 1)
home_slot best x used homes homes' e out before =
    rw e (more best x used (used + 1) homes (Slot used) before (out, before.counted) (rw out (omega arith)))

-- the first n registers, and one more
pub one_more_first : (n : ℕ) (saved saved' : List ℕ) → saved' ≡ saved ++ (16 + n) ∷ [] → AreFirst n saved → AreFirst (n + 1) saved'
one_more_first n saved saved' e before = rw e (record {
  long = omega (arith, length_push saved (16 + n), before.long);
  by = each_push (λ j r. r ≡ 16 + j) saved (16 + n) before.by (ap (λ k. 16 + k) (sym before.long));
})

-- one more place
pub places_step : (local : ℕ → Bool) (preference : ℕ → Option ℕ) (x : ℕ) (taken taken' : List ℕ) (homes out out' all : List Home) (d h : Home)
    (register : Option ℕ) → x < length homes → register ≡ (if local x then free_register taken (preference x) else None) → taken' ≡ also taken register
    → h ≡ home_or register (get_or homes x d) → out' ≡ out ++ h ∷ [] → out ++ places_from local preference x taken (drop x homes) ≡ all
    → out' ++ places_from local preference (x + 1) taken' (drop (x + 1) homes) ≡ all
places_step local preference x taken taken' homes out out' all d h register within register_is taken_is h_is out_is before =
    let next : x + 1 ≡ suc x = omega arith in
    cc (append_assoc out (h ∷ []) (places_from local preference (x + 1) taken' (drop (x + 1) homes)), at_drop_more (λ l. l) homes x d within)
