-- Where the bytes of globals stand.
use Rattle.std.proofs.Common.{◌≡◌, ◌⊎◌, inl, inr, ℕ, zero, suc, ◌+◌, ◌-◌, ◌*◌, ◌/◌, ◌%◌, ◌^◌, ◌<◌, ◌≤◌, List, [], ◌∷◌, ◌++◌, map, length, take}
use Rattle.std.proofs.Common.{drop, length-append, append-nil, Some, refl, sym, ap, ◌∙◌, arith}
use Rattle.std.specs.Prelude.{All, nat_le, if◌then◌else◌, slice_get, slice_index, sum_by}
use Rattle.std.proofs.lemmas.List.{append_assoc, take-append-drop, length-drop, length-map, length-replicate}
use Rattle.std.proofs.lemmas.List.Elements.{All-append, All-from_recursion, All-map, All-nil, All-replicate}
use Rattle.std.proofs.lemmas.List.Sums.{sum_by-cons}
use Rattle.std.proofs.lemmas.Option.{same_Some, none-some, slice_get_within}
use mathlib.Core.Path.{fun_ext}
use Rattle.words.specs.declared.width.Width.{Width}
use Rattle.words.specs.Words.{wrap}
use Rattle.words.specs.Widths.{kept}
use Rattle.runs.specs.Stores.{element_at}
use Rattle.mblock.specs.declared.limits.TheConstants.{UNIT_BYTES}
use Rattle.rtl.specs.declared.block.RGlobal.{RGlobal}
use Rattle.rtl.specs.declared.limits.TheConstants.{MAX_GLOBAL_WORDS}
use Rattle.rtl.specs.Programs.{IsGlobal, word_count}
use Rattle.rtl.specs.Meaning.{first_values}
use Rattle.mips_isa.specs.Starting.{data_base, stack_base, first_bytes, start_state}
use Rattle.mips_emit.specs.Elements.{width_bytes, width_of, element_place, place_in, place_behind}
use Rattle.mips_select.specs.Emittable.{AreInside}
use Rattle.mips_select.proofs.Lists.{all_at, get_behind, get_before}
use Rattle.mips_select.specs.Data.{element_bytes, elements_bytes, gap_behind, zeros, global_bytes, padded_bytes, bare_bytes, data_bytes, starts_from}

pub zeros_step : (n i : ℕ) (bytes : List ℕ) {bytes' all : List ℕ} → i < n → bytes' ≡ bytes ++ 0 ∷ [] → bytes ++ zeros (n - i) ≡ all
    → bytes' ++ zeros (n - (i + 1)) ≡ all
zeros_step n i bytes lt e before =
    let one : suc (n - (i + 1)) ≡ n - i = omega arith in grind (arith, append_assoc bytes (0 ∷ []) (zeros (n - (i + 1))))

-- each has as many first values as elements
abbrev pub HaveValues : List RGlobal → Type 0
HaveValues gs = (a : ℕ) (x : RGlobal) → slice_get gs a ≡ Some x → length x.first.items ≡ x.length

-- ---- lengths

pub element_length : (w : Width) (v : ℕ) → length (element_bytes w v) ≡ width_bytes w
element_length w v = grind arith

elements_length : (w : Width) (vs : List ℕ) → length (elements_bytes w vs) ≡ width_bytes w * length vs
elements_length w [] = omega arith
elements_length w (v ∷ vs) = omega (arith, element_length, elements_length w vs, length-append {A = ℕ})

pub global_length : (x : RGlobal) → length x.first.items ≡ x.length → length (global_bytes x) ≡ 4 * word_count x
global_length x same =
    let values = length-map x.first.items (λ v. kept x.width (wrap v)) in
    grind (arith, values, elements_length, length-replicate {A = ℕ} (gap_behind x.width x.length) 0, length-append {A = ℕ})

-- ---- one global

elements_byte : (w : Width) (vs : List ℕ) (i v k b : ℕ) → slice_get vs i ≡ Some v → slice_get (element_bytes w v) k ≡ Some b
    → slice_get (elements_bytes w vs) (width_bytes w * i + k) ≡ Some b
elements_byte w [] i v k b at e = absurd (none-some v at)
elements_byte w (x ∷ vs) zero v k b at e =
    grind (arith, get_before (element_bytes w x) (elements_bytes w vs) k b (ap (λ v. slice_get (element_bytes w v) k) (same_Some x v at) ∙ e))
elements_byte w (x ∷ vs) (suc i) v k b at e =
    let behind = get_behind (element_bytes w x) (elements_bytes w vs) (width_bytes w * i + k) in
    grind (arith, element_length w x, behind, elements_byte w vs i v k b at e)

-- an element is inside its global
global_inside : (x : RGlobal) (i v : ℕ) → length x.first.items ≡ x.length → slice_get (first_values x) i ≡ Some v
    → width_bytes x.width * i + width_bytes x.width ≤ 4 * word_count x
global_inside x i v same at = grind (arith, slice_get_within (first_values x) i v at, length-map x.first.items (λ v. kept x.width (wrap v)))

-- ---- all globals

-- from its start on, an element is inside the data
pub element_within : (n : ℕ) (gs : List RGlobal) → HaveValues gs → (a i v : ℕ) → element_at (map first_values gs) a i ≡ Some v
    → (n ≤ slice_index (starts_from n gs) a) × (place_behind gs (slice_index (starts_from n gs)) a i ≤ n + length (padded_bytes gs))
element_within n [] ok a i v e = absurd (none-some v e)
element_within n (x ∷ gs) ok zero i v e =
    omega (arith, global_inside x i v (ok 0 x refl) e, global_length x (ok 0 x refl), length-append {A = ℕ})
element_within n (x ∷ gs) ok (suc a) i v e =
    omega (arith, element_within (n + 4 * word_count x) gs (λ a. ok (suc a)) a i v e, global_length x (ok 0 x refl), length-append {A = ℕ})

pub element_byte : (n : ℕ) (gs : List RGlobal) → HaveValues gs → (a i v k b p : ℕ) → element_at (map first_values gs) a i ≡ Some v
    → slice_get (element_bytes (width_of gs a) v) k ≡ Some b
    → place_in gs (slice_index (starts_from n gs)) a i + k ≡ n + p → slice_get (padded_bytes gs) p ≡ Some b
element_byte n [] ok a i v k b p e at place = absurd (none-some v e)
element_byte n (x ∷ gs) ok zero i v k b p e at place =
    let here = elements_byte x.width (first_values x) i v k b e at in
    let own = get_before (elements_bytes x.width (first_values x)) (zeros (gap_behind x.width x.length)) _ b here in
    grind (arith, get_before (global_bytes x) (padded_bytes gs) _ b own)
element_byte n (x ∷ gs) ok (suc a) i v k b p e at place =
    let low = (element_within (n + 4 * word_count x) gs (λ a. ok (suc a)) a i v e).0 in
    let long = global_length x (ok 0 x refl) in
    let q = p - 4 * word_count x in
    let rest = element_byte (n + 4 * word_count x) gs (λ a. ok (suc a)) a i v k b q e at (omega (arith, place, low)) in
    grind (arith, long, low, get_behind (global_bytes x) (padded_bytes gs) q, rest)

pub start_even : (n : ℕ) (gs : List RGlobal) → n % 4 ≡ 0 → (a : ℕ) → slice_index (starts_from n gs) a % 4 ≡ 0
start_even n [] even a = omega arith
start_even n (x ∷ gs) even zero = even
start_even n (x ∷ gs) even (suc a) = start_even (n + 4 * word_count x) gs (omega (arith, even)) a

-- elements of one global
element_before : (w : Width) (start i j : ℕ) → i < j → element_place w start i + width_bytes w ≤ element_place w start j
element_before w start i j lt = grind arith

pub elements_apart : (n : ℕ) (gs : List RGlobal) → HaveValues gs → (a i b j v w : ℕ) → element_at (map first_values gs) a i ≡ Some v
    → element_at (map first_values gs) b j ≡ Some w → (a ≡ b → i ≡ j → ⊥)
    → (place_behind gs (slice_index (starts_from n gs)) a i ≤ place_in gs (slice_index (starts_from n gs)) b j)
    ⊎ (place_behind gs (slice_index (starts_from n gs)) b j ≤ place_in gs (slice_index (starts_from n gs)) a i)
elements_apart n [] ok a i b j v w e f ne = absurd (none-some v e)
elements_apart n (x ∷ gs) ok zero i zero j v w e f ne = grind (arith, element_before x.width n i j, element_before x.width n j i, ne refl)
elements_apart n (x ∷ gs) ok zero i (suc b) j v w e f ne =
    inl (omega (arith, global_inside x i v (ok 0 x refl) e, element_within (n + 4 * word_count x) gs (λ a. ok (suc a)) b j w f))
elements_apart n (x ∷ gs) ok (suc a) i zero j v w e f ne =
    inr (omega (arith, global_inside x j w (ok 0 x refl) f, element_within (n + 4 * word_count x) gs (λ a. ok (suc a)) a i v e))
elements_apart n (x ∷ gs) ok (suc a) i (suc b) j v w e f ne = elements_apart (n + 4 * word_count x) gs (λ a. ok (suc a)) a i b j v w e f
    (λ same. ne (ap suc same))

-- ---- bytes and words

abbrev IsByte : ℕ → Type 0
IsByte b = b < 2 ^ 8

element_below : (w : Width) (v : ℕ) → All IsByte (element_bytes w (kept w v))
element_below w v = All-from_recursion IsByte (element_bytes w (kept w v)) (grind arith)

elements_below : (w : Width) (vs : List ℕ) → All IsByte (elements_bytes w (map (λ v. kept w (wrap v)) vs))
elements_below w [] = All-nil IsByte
elements_below w (v ∷ vs) = All-append IsByte (element_bytes w (kept w (wrap v))) (elements_bytes w (map (λ v. kept w (wrap v)) vs))
    (element_below w (wrap v)) (elements_below w vs)

pub data_below : (gs : List RGlobal) → All (λ b. b < 2 ^ 8) (padded_bytes gs)
data_below [] = All-nil IsByte
data_below (x ∷ gs) =
    let gap = gap_behind x.width x.length in
    All-append IsByte (global_bytes x) (padded_bytes gs)
    (All-append IsByte (elements_bytes x.width (first_values x)) (zeros gap) (elements_below x.width x.first.items) (All-replicate IsByte gap 0 (omega arith)))
    (data_below gs)

pub values_below : (gs : List RGlobal) (a i v : ℕ) → element_at (map first_values gs) a i ≡ Some v → v < 2 ^ 32
values_below [] a i v e = absurd (none-some v e)
values_below (x ∷ gs) zero i v e =
    all_at (λ v. v < 2 ^ 32) (first_values x) i v (All-map (λ v. v < 2 ^ 32) _ x.first.items (λ j d lt. grind arith)) e
values_below (x ∷ gs) (suc a) i v e = values_below gs a i v e

pub have_values : (gs : List RGlobal) → All IsGlobal gs → HaveValues gs
have_values gs all a x there = (all_at IsGlobal gs a x all there).first

pub data_length : (gs : List RGlobal) → HaveValues gs → length (padded_bytes gs) ≡ 4 * sum_by word_count gs
data_length [] ok = refl
data_length (x ∷ gs) ok =
    omega (arith, global_length x (ok 0 x refl), data_length gs (λ a. ok (suc a)), length-append {A = ℕ}, sum_by-cons word_count x gs)

pub data_fits : (gs : List RGlobal) → HaveValues gs → sum_by word_count gs ≤ MAX_GLOBAL_WORDS → length (padded_bytes gs) ≤ UNIT_BYTES
data_fits gs ok le = omega (arith, data_length gs ok, le)

-- each start is inside the data
starts_within : (n : ℕ) (gs : List RGlobal) (i v : ℕ) → slice_get (starts_from n gs) i ≡ Some v → v ≤ n + 4 * sum_by word_count gs
starts_within n [] i v e = absurd (none-some v e)
starts_within n (x ∷ gs) zero v e = omega (arith, same_Some n v e)
starts_within n (x ∷ gs) (suc i) v e = omega (arith, starts_within (n + 4 * word_count x) gs i v e, sum_by-cons word_count x gs)

pub starts_inside : (gs : List RGlobal) (starts : List ℕ) → starts ≡ starts_from 0 gs → sum_by word_count gs ≤ MAX_GLOBAL_WORDS → AreInside starts UNIT_BYTES
starts_inside gs starts is few = rw is (record { by = λ i v there. omega (arith, starts_within 0 gs i v there) })

pub starts_length : (n : ℕ) (gs : List RGlobal) → length (starts_from n gs) ≡ length gs
starts_length n [] = refl
starts_length n (x ∷ gs) = ap suc (starts_length (n + 4 * word_count x) gs)

-- ---- data without the gap behind the last global start a program as data with it

padded_append : (xs ys : List RGlobal) → padded_bytes (xs ++ ys) ≡ padded_bytes xs ++ padded_bytes ys
padded_append [] ys = refl
padded_append (x ∷ xs) ys = cc (padded_append xs ys, append_assoc (global_bytes x) (padded_bytes xs) (padded_bytes ys))

one_ends : (l : List RGlobal) → length l ≤ 1 → (k : ℕ) × (k < 4) × (padded_bytes l ≡ bare_bytes l ++ zeros k)
one_ends [] le = (0, omega arith, refl)
one_ends (x ∷ []) le =
    let es = elements_bytes x.width (first_values x) in
    let gap = gap_behind x.width x.length in
    (gap, grind arith, append-nil (es ++ zeros gap) ∙ ap (λ l. l ++ zeros gap) (sym (append-nil es)))
one_ends (x ∷ y ∷ l) le = absurd (omega (arith, le))

-- with the gap behind the last global they are the padded ones
pub data_ends : (gs : List RGlobal) → (k : ℕ) × (k < 4) × (padded_bytes gs ≡ data_bytes gs ++ zeros k)
data_ends gs =
    let m = length gs - 1 in
    let front = take m gs in
    let back = drop m gs in
    let few : length back ≤ 1 = omega (arith, length-drop m gs) in
    let one = one_ends back few in
    let joined = append_assoc (padded_bytes front) (bare_bytes back) (zeros one.0) in
    (one.0, one.1, cc (take-append-drop m gs, padded_append front back, one.2, joined))

none_beyond : (xs : List ℕ) (k i : ℕ) → slice_index (xs ++ zeros k) i ≡ slice_index xs i
none_beyond [] (suc k) (suc i) = none_beyond [] k i
none_beyond (x ∷ xs) k (suc i) = none_beyond xs k i
none_beyond [] zero i = refl
none_beyond _ _ zero = refl

starts_same : (xs ys : List ℕ) (k n : ℕ) → k < 4 → ys ≡ xs ++ zeros k → length ys ≡ 4 * n → start_state ys ≡ start_state xs
starts_same xs ys k n low e long =
    let sum = ap length e ∙ length-append xs (zeros k) in
    let words : (length ys + 3) / 4 ≡ (length xs + 3) / 4 = omega (arith, sum, length-replicate {A = ℕ} k 0) in
    let memory : first_bytes ys ≡ first_bytes xs = fun_ext (λ a.
    ap (λ b. if nat_le stack_base a then 0 else (if nat_le data_base a then b else 0))
    (ap (λ l. slice_index l (a - data_base)) e ∙ none_beyond xs k (a - data_base))) in
    cc (memory, words)

pub data_starts_same : (gs : List RGlobal) → HaveValues gs → start_state (padded_bytes gs) ≡ start_state (data_bytes gs)
data_starts_same gs ok =
    let ends = data_ends gs in
    starts_same (data_bytes gs) (padded_bytes gs) ends.0 _ ends.1 ends.2 (data_length gs ok)
