-- Which instruction stands where.
use Rattle.std.proofs.Common.{◌≡◌, ℕ, zero, suc, ◌+◌, ◌-◌, ◌*◌, ◌/◌, ◌%◌, ◌^◌, ◌<◌, true, cond, ◌&&◌, nat_le, ◌==◌, List, [], ◌∷◌, ◌++◌}
use Rattle.std.proofs.Common.{map, length, slice_get, Option, Some, None, refl, sym, ap, ap₂, ◌∙◌, subst, true≢false, le-leb, eq-eqb}
use Rattle.std.proofs.Common.{append_assoc, length-append, arith}
use Rattle.std.proofs.lemmas.List.{length-map}
use Rattle.std.specs.Prelude.{is_some}
use Rattle.mips_isa.specs.declared.inst.Plain.{Plain}
use Rattle.mips_isa.specs.declared.inst.Inst.{Inst}
use Rattle.mips_isa.specs.declared.inst.Inst.TheVariants as I
use Rattle.mblock.specs.declared.exit.Exit.{Exit}
use Rattle.mblock.specs.declared.exit.Exit.TheVariants.{Goto, BranchPair, BranchZero, Call, Return, Out, Halt}
use Rattle.mblock.specs.Parts.{OrderParts}
use Rattle.mblock.specs.Slots.{is_slotted}
use Rattle.mblock.specs.Clean.{FitsSlot}
use Rattle.mips_code.specs.declared.steps.Fetched.TheVariants.{NoWord, Fetches}
use Rattle.mips_isa.specs.Controls.{jump_target}
use Rattle.mips_code.specs.Machines.{code_base}
use Rattle.mips_asm.specs.Fetching.{of_inst, insts_code}
use Rattle.mips_asm.specs.Layout.{exit_size, size, place, address_of_place, slot_insts, exit_insts, order_insts, insts_of, layout}
use Rattle.mips_asm.specs.declared.limits.TheConstants.{CODE_WORDS}

-- the instructions stand in the code at this place
abbrev pub HasAt : List Inst → ℕ → List Inst → Type 0
HasAt code p [] = Unit {0}
HasAt code p (i ∷ is) = (slice_get code p ≡ Some i) × HasAt code (p + 1) is

pub has_front : (code : List Inst) (p : ℕ) (a b : List Inst) → HasAt code p (a ++ b) → HasAt code p a
has_front code p [] b h = tt
has_front code p (i ∷ a) b h = (h.0, has_front code (p + 1) a b h.1)

pub has_back : (code : List Inst) (p : ℕ) (a b : List Inst) → HasAt code p (a ++ b) → HasAt code (p + length a) b
has_back code p [] b h = let e : p ≡ p + 0 = omega arith in subst (λ n. HasAt code n b) e h
has_back code p (i ∷ a) b h =
    let e : p + 1 + length a ≡ p + length (i ∷ a) = omega arith in
    subst (λ n. HasAt code n b) e (has_back code (p + 1) a b h.1)

behind_front : (pre : List Inst) (x : Inst) (is : List Inst) → slice_get (pre ++ x ∷ is) (length pre) ≡ Some x
behind_front [] x is = refl
behind_front (y ∷ pre) x is = behind_front pre x is

has_all : (is pre : List Inst) → HasAt (pre ++ is) (length pre) is
has_all [] pre = tt
has_all (i ∷ is) pre =
    let n : length (pre ++ i ∷ []) ≡ length pre + 1 = omega (arith, length-append pre (i ∷ [])) in
    let rest = has_all is (pre ++ i ∷ []) in
    let rest' = subst (λ l. HasAt l (length (pre ++ i ∷ [])) is) (append_assoc pre (i ∷ []) is) rest in
    (behind_front pre i is, subst (λ m. HasAt (pre ++ i ∷ is) m is) n rest')

-- ---- the layout

pub slot_length : (slot : Option Plain) → is_some slot ≡ true → length (slot_insts slot) ≡ 1
slot_length (Some i) e = refl
slot_length None e = absurd (true≢false (sym e))

exit_length : (start : ℕ → ℕ) (here : ℕ) (exit : Exit) (slot : Option Plain) → is_some slot ≡ is_slotted exit
    → length (exit_insts start here exit slot) ≡ exit_size exit
exit_length start here (Goto t) (Some i) e = refl
exit_length start here (BranchPair test a b t n) (Some i) e = refl
exit_length start here (BranchZero test a t n) (Some i) e = refl
exit_length start here (Call f n) (Some i) e = refl
exit_length start here Return (Some i) e = refl
exit_length start here (Out n) slot e = refl
exit_length start here Halt slot e = refl
exit_length start here _ None e = absurd (true≢false (sym e))

pub words_length : (start : ℕ → ℕ) (here : ℕ) (o : OrderParts) → FitsSlot o → length (order_insts start here o) ≡ size o
words_length start here o e =
    length-append (map I.Plain o.insts) (exit_insts start (here + length o.insts) o.exit o.slot)
    ∙ ap₂ (λ x y. x + y) (length-map o.insts I.Plain) (exit_length start (here + length o.insts) o.exit o.slot e)

pub insts_length : (start : ℕ → ℕ) (os : List OrderParts) (here : ℕ) → ((k : ℕ) (o : OrderParts) → slice_get os k ≡ Some o → FitsSlot o)
    → length (insts_of start here os) ≡ place os (length os)
insts_length start [] here fits = refl
insts_length start (x ∷ rest) here fits =
    length-append (order_insts start here x) (insts_of start (here + size x) rest)
    ∙ ap₂ (λ m n. m + n) (words_length start here x (fits 0 x refl)) (insts_length start rest (here + size x) (λ k. fits (suc k)))

order_has : (code : List Inst) (start : ℕ → ℕ) (os : List OrderParts) (here : ℕ)
    → ((k : ℕ) (o : OrderParts) → slice_get os k ≡ Some o → FitsSlot o) → HasAt code here (insts_of start here os)
    → (k : ℕ) (o : OrderParts) → slice_get os k ≡ Some o → HasAt code (here + place os k) (order_insts start (here + place os k) o)
order_has code start [] here fits h k o e = absurd (Rattle.std.proofs.lemmas.Option.none-some o e)
order_has code start (x ∷ rest) here fits h zero o e =
    let same : here + 0 ≡ here = omega arith in
    rw (same, sym (Rattle.std.proofs.lemmas.Option.same_Some x o e))
    (has_front code here (order_insts start here x) (insts_of start (here + size x) rest) h)
order_has code start (x ∷ rest) here fits h (suc k) o e =
    let back = has_back code here (order_insts start here x) (insts_of start (here + size x) rest) h in
    let moved = subst (λ n. HasAt code (here + n) (insts_of start (here + size x) rest)) (words_length start here x (fits 0 x refl)) back in
    let same : here + (size x + place rest k) ≡ here + size x + place rest k = omega arith in
    rw same (order_has code start rest (here + size x) (λ j. fits (suc j)) moved k o e)

-- each order stands at its place
pub layout_has : (os : List OrderParts) → ((k : ℕ) (o : OrderParts) → slice_get os k ≡ Some o → FitsSlot o) → (k : ℕ) (o : OrderParts)
    → slice_get os k ≡ Some o → HasAt (layout os) (place os k) (order_insts (place os) (place os k) o)
layout_has os fits k o e =
    let all : HasAt (layout os) 0 (layout os) = has_all (layout os) [] in
    let here : 0 + place os k ≡ place os k = omega arith in
    subst (λ n. HasAt (layout os) n (order_insts (place os) n o)) here (order_has (layout os) (place os) os 0 fits all k o e)

-- ---- addresses

pub fetch_at : (code : List Inst) (p : ℕ) (i : Inst) → slice_get code p ≡ Some i → insts_code code (address_of_place p) ≡ Fetches i
fetch_at code p i e =
    let low : nat_le code_base (address_of_place p) ≡ true = le-leb code_base (address_of_place p) (omega arith) in
    let even : (address_of_place p % 4 == 0) ≡ true = eq-eqb (address_of_place p % 4) 0 (omega arith) in
    let where_at : (address_of_place p - code_base) / 4 ≡ p = omega arith in
    ap₂ (λ x y. cond (x && y) (of_inst (slice_get code ((address_of_place p - code_base) / 4))) NoWord) low even
    ∙ ap (λ n. of_inst (slice_get code n)) where_at ∙ ap of_inst e

pub jump_lands : (p q : ℕ) → p < CODE_WORDS → jump_target (address_of_place p + 4) (address_of_place q / 4) ≡ address_of_place q
jump_lands p q lt =
    let high : (address_of_place p + 4) / 2 ^ 28 ≡ 0 = omega arith in
    let low : address_of_place q / 4 * 4 ≡ address_of_place q = omega arith in
    ap₂ (λ x y. x * 2 ^ 28 + y) high low ∙ omega arith
