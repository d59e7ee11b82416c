-- Each field of a laid out instruction is in its range.
use Rattle.std.proofs.Common.{◌≡◌, ℕ, zero, suc, ◌+◌, ◌/◌, ◌^◌, ◌<◌, ◌≤◌, List, [], ◌∷◌, ◌++◌, map, length, Option, Some, None, slice_get}
use Rattle.std.proofs.Common.{inl, inr, refl, sym, subst, arith}
use Rattle.std.specs.Prelude.{IfSome, FitsSigned}
use Rattle.std.specs.Int.{w16}
use Rattle.std.specs.List.{AllByRecursion}
use Rattle.std.proofs.lemmas.Int.{ints}
use Rattle.std.proofs.lemmas.Bool.{cases_lt}
use Rattle.std.proofs.lemmas.Option.{slice_get_within}
use Rattle.std.proofs.lemmas.List.Elements.{All-from_recursion, recursion_from_All}
use Rattle.mips_isa.specs.declared.inst.Plain.{Plain}
use Rattle.mips_isa.specs.declared.inst.Inst.{Inst}
use Rattle.mips_isa.specs.declared.inst.Inst.TheVariants as insts
use Rattle.mips_isa.specs.Ranges.{IsPlain, IsInst}
use Rattle.mblock.specs.declared.exit.Exit.{Exit}
use Rattle.mblock.specs.declared.exit.Exit.TheVariants.{Goto, BranchPair, BranchZero, Call, Return, Out, Halt}
use Rattle.mblock.specs.Parts.{OrderParts}
use Rattle.mips_asm.specs.Layout.{exit_size, size, place, address_of_place, slot_insts, hop, branch_offset, exit_insts, order_insts, insts_of, layout}
use Rattle.mips_asm.specs.Functions.{AreFunctions, words_owned, StaysInside, EachLayoutFits}
use Rattle.mips_asm.specs.Emitted.{Fit}
use Rattle.mips_asm.proofs.Within.{one_function, place_next, place_most, place_mono}
use Rattle.mips_asm.specs.declared.limits.TheConstants.{CODE_WORDS, FUNCTION_WORDS}

pub all_both : (a b : List Inst) → Fit a → Fit b → Fit (a ++ b)
all_both [] b ha hb = hb
all_both (i ∷ a) b ha hb = (ha.0, all_both a b ha.1 hb)

plains_fit : (l : List Plain) → AllByRecursion IsPlain l → Fit (map insts.Plain l)
plains_fit [] h = tt
plains_fit (p ∷ l) h = (h.0, plains_fit l h.1)

slot_fits : (slot : Option Plain) → IfSome slot IsPlain → Fit (slot_insts slot)
slot_fits None h = tt
slot_fits (Some p) h = (h, tt)

jump_fits : (p : ℕ) → p ≤ CODE_WORDS → address_of_place p / 4 < 2 ^ 26
jump_fits p le = omega arith

hop_fits : (p : ℕ) → p ≤ CODE_WORDS → Fit (hop p)
hop_fits p le = (jump_fits p le, ((omega arith, omega arith, omega arith), tt))

near : (here to : ℕ) → to ≤ here + FUNCTION_WORDS → here ≤ to + FUNCTION_WORDS → FitsSigned w16 (branch_offset here to)
near here to a b = omega (arith, ints)

-- an exit whose places are small, and whose branch isn't far
exit_fits : (owner start : ℕ → ℕ) (here n k : ℕ) (exit : Exit) (slot : Option Plain) → IfSome slot IsPlain → StaysInside owner n k exit
    → ((t : ℕ) → t < n → start t ≤ CODE_WORDS)
    → ((t : ℕ) → exit_size exit ≡ 4 → t < n → owner t ≡ owner k → FitsSigned w16 (branch_offset here (start t)))
    → Fit (exit_insts start here exit slot)
exit_fits owner start here n k (Goto t) slot hs s low off = (jump_fits (start t) (low t s), slot_fits slot hs)
exit_fits owner start here n k (BranchPair test a b t e) slot hs s low off =
    ((s.0, s.1, off t refl s.2 s.4), all_both (slot_insts slot) (hop (start e)) (slot_fits slot hs) (hop_fits (start e) (low e s.3)))
exit_fits owner start here n k (BranchZero test a t e) slot hs s low off =
    ((s.0, off t refl s.1 s.3), all_both (slot_insts slot) (hop (start e)) (slot_fits slot hs) (hop_fits (start e) (low e s.2)))
exit_fits owner start here n k (Call f m) slot hs s low off =
    (jump_fits (start f) (low f s.0), all_both (slot_insts slot) (hop (start m)) (slot_fits slot hs) (hop_fits (start m) (low m s.1)))
exit_fits owner start here n k Return slot hs s low off = (omega arith, slot_fits slot hs)
exit_fits owner start here n k (Out m) slot hs s low off = ((omega arith, omega arith, omega (arith, ints)), (tt, hop_fits (start m) (low m s)))
exit_fits owner start here n k Halt slot hs s low off = ((omega arith, omega arith, omega (arith, ints)), (tt, tt))

all_fit : (start : ℕ → ℕ) (os : List OrderParts) (here : ℕ)
    → ((j : ℕ) (o : OrderParts) → slice_get os j ≡ Some o → Fit (order_insts start (here + place os j) o)) → Fit (insts_of start here os)
all_fit start [] here h = tt
all_fit start (o ∷ rest) here h =
    let first : here + 0 ≡ here = omega arith in
    let next : (j : ℕ) → here + (size o + place rest j) ≡ here + size o + place rest j = λ j. omega arith in
    all_both (order_insts start here o) (insts_of start (here + size o) rest)
    (subst (λ n. Fit (order_insts start n o)) first (h zero o refl))
    (all_fit start rest (here + size o) (λ j x e. subst (λ n. Fit (order_insts start n x)) (next j) (h (suc j) x e)))

-- a branch from the end of block k to a block of its function
pub offset_near : (owner : ℕ → ℕ) (os : List OrderParts) → AreFunctions (length os) owner → ((f : ℕ) → words_owned owner f 0 os ≤ FUNCTION_WORDS)
    → (k t : ℕ) (o : OrderParts) → slice_get os k ≡ Some o → t < length os → owner t ≡ owner k
    → FitsSigned w16 (branch_offset (place os k + length o.insts) (place os t))
offset_near owner os functions few k t o e there same =
    let next = place_next os k o e in
    elim (cases_lt k t) [
      | inl lt ↦
          let s = one_function owner os k t functions (sym same) (omega arith) there in
          let f = few (owner t) in
          let a = place_mono os (suc k) t (omega arith) in
          let b = place_mono os t (suc t) (omega arith) in
          near (place os k + length o.insts) (place os t) (omega arith) (omega arith)
      | inr le ↦
          let s = one_function owner os t k functions same le (slice_get_within os k o e) in
          let f = few (owner k) in
          let a = place_mono os t k le in
          near (place os k + length o.insts) (place os t) (omega arith) (omega arith)
    ]

pub layout_fits : EachLayoutFits
layout_fits owner os h = All-from_recursion IsInst (layout os) (all_fit (place os) os 0 order_fits)
  where
    order_fits : (k : ℕ) (o : OrderParts) → slice_get os k ≡ Some o → Fit (order_insts (place os) (0 + place os k) o)
    order_fits k o e =
        let here : place os k ≡ 0 + place os k = omega arith in
        subst (λ n. Fit (order_insts (place os) n o)) here
        (all_both (map insts.Plain o.insts) (exit_insts (place os) (place os k + length o.insts) o.exit o.slot)
        (plains_fit o.insts (recursion_from_All IsPlain o.insts (h.insts k o e)))
        (exit_fits owner (place os) (place os k + length o.insts) (length os) k o.exit o.slot (h.slots k o e) (h.inside k o e)
        (λ t lt. omega (arith, place_most os t, h.code_fits))
        (λ t four there same. offset_near owner os h.functions h.functions_fit k t o e there same)))
