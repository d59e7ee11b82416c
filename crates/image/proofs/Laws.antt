-- The bytes of an image say that image, and bytes without a fault are those of the image that they say.
use Rattle.std.proofs.Common.{◌≡◌, ℕ, zero, suc, ◌+◌, ◌-◌, ◌*◌, ◌/◌, ◌%◌, ◌^◌, ◌<◌, ◌≤◌, Bool, true, false, cond, not, ◌&&◌, nat_lt, nat_le}
use Rattle.std.proofs.Common.{◌==◌, List, [], ◌∷◌, ◌++◌, length, take, drop, get_or, Option, Some, None, refl, sym, ap, ap₂, subst, ◌∙◌}
use Rattle.std.proofs.Common.{append_assoc, arith, true≢false}
use Rattle.std.specs.Int.{w32, to_be_bytes}
use Rattle.std.specs.List.{AllByRecursion}
use Rattle.std.proofs.lemmas.Bool.{eqb-true, ltb-false, le-ltb, leb-true, le-leb, eq-eqb}
use Rattle.std.proofs.lemmas.List.{drop_at, take-append-drop, length-append, length-drop, get_or-drop, drop-drop}
use Rattle.std.proofs.lemmas.List.Elements.{All-from_recursion, recursion_from_All}
use Rattle.image.specs.declared.fault.ImageFault.TheVariants.{Magic, Version as OtherVersion, Length, Entry, Counts}
use Rattle.image.specs.Images.{CountsOf, Version, First, Second, total, ImageParts, FitsVersion, IsImage, magic, words_bytes, head_of}
use Rattle.image.specs.Images.{image_bytes, word_at_byte, words_of, counts_at, parts_behind, parts_of, is_entry, has_sizes}
use Rattle.image.specs.Images.{first_version_fault, second_version_fault, image_fault}

abbrev pub IsBytes : List ℕ → Type 0
IsBytes bytes = (i : ℕ) → get_or bytes i 0 < 256

abbrev pub AreWords : List ℕ → Type 0
AreWords ws = AllByRecursion (λ w. w < 2 ^ 32) ws

IsBytes-drop : (n : ℕ) (bytes : List ℕ) → IsBytes bytes → IsBytes (drop n bytes)
IsBytes-drop n bytes h i = rw get_or-drop (h (n + i))

-- ---- words

word_again : (w : ℕ) (rest : List ℕ) → w < 2 ^ 32 → word_at_byte (to_be_bytes w32 w ++ rest) 0 ≡ w
word_again w rest lt = omega arith

word_back : (a b c d : ℕ) → a < 256 → b < 256 → c < 256 → d < 256
    → to_be_bytes w32 (a * 2 ^ 24 + b * 2 ^ 16 + c * 2 ^ 8 + d) ≡ a ∷ b ∷ c ∷ d ∷ []
word_back a b c d la lb lc ld =
    let w : ℕ = a * 2 ^ 24 + b * 2 ^ 16 + c * 2 ^ 8 + d in
    let ea : w / 16777216 % 256 ≡ a = omega arith in
    let eb : w / 65536 % 256 ≡ b = omega arith in
    let ec : w / 256 % 256 ≡ c = omega arith in
    let ed : w % 256 ≡ d = omega arith in
    ap₂ (λ x y. x ∷ y) ea (ap₂ (λ x y. x ∷ y) eb (ap₂ (λ x y. x ∷ y) ec (ap (λ x. x ∷ []) ed)))

pub length-words_bytes : (ws : List ℕ) → length (words_bytes ws) ≡ 4 * length ws
length-words_bytes [] = refl
length-words_bytes (w ∷ ws) = let e = length-words_bytes ws in omega arith

words_again : (ws rest : List ℕ) → AreWords ws → words_of (length ws) (words_bytes ws ++ rest) ≡ ws
words_again [] rest h = refl
words_again (w ∷ ws) rest h = ap₂ (λ x xs. x ∷ xs) (word_again w (words_bytes ws ++ rest) h.0) (words_again ws rest h.1)

words_back : (n : ℕ) (bytes : List ℕ) → IsBytes bytes → 4 * n ≤ length bytes → words_bytes (words_of n bytes) ≡ take (4 * n) bytes
words_back zero bytes h le = refl
words_back (suc n) (a ∷ []) h le = absurd (omega arith)
words_back (suc n) (a ∷ b ∷ c ∷ d ∷ rest) h le =
    let four : suc (suc (suc (suc (4 * n)))) ≡ 4 * suc n = omega arith in
    let below = words_back n rest (λ i. h (suc (suc (suc (suc i))))) (omega arith) in
    ap₂ (λ x y. x ++ y) (word_back a b c d (h 0) (h 1) (h 2) (h 3)) below
    ∙ ap (λ k. take k (a ∷ b ∷ c ∷ d ∷ rest)) four
words_back (suc n) _ h le = absurd (omega arith)

length-words_of : (n : ℕ) (bytes : List ℕ) → length (words_of n bytes) ≡ n
length-words_of zero bytes = refl
length-words_of (suc n) bytes = ap suc (length-words_of n (drop 4 bytes))

word_below : (bytes : List ℕ) (k : ℕ) → IsBytes bytes → word_at_byte bytes k < 2 ^ 32
word_below bytes k h = omega (arith, h k, h (k + 1), h (k + 2), h (k + 3))

words_below : (n : ℕ) (bytes : List ℕ) → IsBytes bytes → AreWords (words_of n bytes)
words_below zero bytes h = tt
words_below (suc n) bytes h = (word_below bytes 0 h, words_below n (drop 4 bytes) (IsBytes-drop 4 bytes h))

-- one word more
pub goes_on : (front : List ℕ) (count k : ℕ) (rest total : List ℕ) → k < count → front ++ words_of (count - k) rest ≡ total
    → (front ++ word_at_byte rest 0 ∷ []) ++ words_of (count - (k + 1)) (drop 4 rest) ≡ total
goes_on front count k rest total lt so_far =
    let e : count - k ≡ suc (count - (k + 1)) = omega arith in
    append_assoc front (word_at_byte rest 0 ∷ []) (words_of (count - (k + 1)) (drop 4 rest)) ∙ ap (λ n. front ++ words_of n rest) (sym e) ∙ so_far

-- ---- of an image

head_again : (w : ℕ) → w < 2 ^ 32 → w / 16777216 % 256 * 2 ^ 24 + w / 65536 % 256 * 2 ^ 16 + w / 256 % 256 * 2 ^ 8 + w % 256 ≡ w
head_again w lt = omega arith

entry_below : (n a : ℕ) → n ≤ 2 ^ 20 → is_entry n a ≡ true → a < 2 ^ 32
entry_below n a le e = grind (arith, Rattle.std.proofs.lemmas.Grind.common_steps)

-- the code and the data behind a head
behind_again : (code rest : List ℕ) (n : ℕ) → n ≡ length code → AreWords code → (words_of n (words_bytes code ++ rest) ≡ code)
    × (drop (4 * n) (words_bytes code ++ rest) ≡ rest)
behind_again code rest n e h = (
  ap (λ k. words_of k (words_bytes code ++ rest)) e ∙ words_again code rest h,
  ap (λ k. drop (4 * k) (words_bytes code ++ rest)) e ∙ drop_at (words_bytes code) rest (4 * length code) (length-words_bytes code),
)

abbrev made : Version → ℕ → List ℕ → List ℕ → ImageParts
made v e c b = record { version = v; entry = e; code = c; bytes = b }

same_parts : (v v' : Version) (e e' : ℕ) (c c' b b' : List ℕ) → v ≡ v' → e ≡ e' → c ≡ c' → b ≡ b' → made v e c b ≡ made v' e' c' b'
same_parts v v' e e' c c' b b' p q r s = ap₂ (λ x y. made x y c b) p q ∙ ap₂ (λ x y. made v' e' x y) r s

abbrev counted : ℕ → ℕ → ℕ → ℕ → ℕ → ℕ → CountsOf
counted a b d f m x = record { same = a; unclean = b; differs = d; full = f; no_memory = m; missed = x }

counts_again : (c : CountsOf) (a b d f m x : ℕ) → a ≡ c.same → b ≡ c.unclean → d ≡ c.differs → f ≡ c.full → m ≡ c.no_memory → x ≡ c.missed
    → counted a b d f m x ≡ c
counts_again c a b d f m x ea eb ed ef em ex =
    ap₂ (λ u v. counted u v d f m x) ea eb ∙ ap₂ (λ u v. counted c.same c.unclean u v m x) ed ef
    ∙ ap₂ (λ u v. counted c.same c.unclean c.differs c.full u v) em ex

again : (v : Version) (e : ℕ) (code bytes : List ℕ) → IsImage (record { version = v; entry = e; code = code; bytes = bytes })
    → parts_of (image_bytes (record { version = v; entry = e; code = code; bytes = bytes })) ≡ record { version = v; entry = e; code = code; bytes = bytes }
again First e code bytes h =
    let all : List ℕ = image_bytes (record { version = First; entry = e; code = code; bytes = bytes }) in
    let n : word_at_byte all 8 ≡ length code = head_again (length code) (let le = h.code_fits in omega arith) in
    let x : word_at_byte all 12 ≡ e = head_again e (entry_below (length code) e h.code_fits h.entry) in
    let p = behind_again code bytes (word_at_byte all 8) n (recursion_from_All (λ w. w < 2 ^ 32) code h.code) in
    same_parts First First (word_at_byte all 12) e _ code _ bytes refl x p.0 p.1
again (Second c) e code bytes h =
    let all : List ℕ = image_bytes (record { version = Second c; entry = e; code = code; bytes = bytes }) in
    let n : word_at_byte all 8 ≡ length code = head_again (length code) (let le = h.code_fits in omega arith) in
    let x : word_at_byte all 12 ≡ e = head_again e (entry_below (length code) e h.code_fits h.entry) in
    let p = behind_again code bytes (word_at_byte all 8) n (recursion_from_All (λ w. w < 2 ^ 32) code h.code) in
    same_parts (Second (counts_at all)) (Second c) (word_at_byte all 12) e _ code _ bytes
    (ap Second (counts_again c (word_at_byte all 20) (word_at_byte all 24) (word_at_byte all 28) (word_at_byte all 32)
    (word_at_byte all 36) (word_at_byte all 40) (head_again c.same (let le = h.version in omega arith))
    (head_again c.unclean (let le = h.version in omega arith)) (head_again c.differs (let le = h.version in omega arith))
    (head_again c.full (let le = h.version in omega arith)) (head_again c.no_memory (let le = h.version in omega arith))
    (head_again c.missed (let le = h.version in omega arith)))) x p.0 p.1

pub parts_again : (i : ImageParts) → IsImage i → parts_of (image_bytes i) ≡ i
parts_again i h = again i.version i.entry i.code i.bytes h

-- ---- tests

guard : {A : Type 0} (b : Bool) (x : A) (y : Option A) → cond b (Some x) y ≡ None → (b ≡ false) × (y ≡ None)
guard true x y e = absurd cc
guard false x y e = (refl, e)

passes : {A : Type 0} (b : Bool) (x : A) (y : Option A) → b ≡ true → cond (not b) (Some x) y ≡ y
passes true x y e = refl
passes false x y e = absurd (true≢false (sym e))

not_false : (b : Bool) → not b ≡ false → b ≡ true
not_false true e = refl
not_false false e = absurd (true≢false e)

both : (a b : Bool) → a && b ≡ true → (a ≡ true) × (b ≡ true)
both true b e = (refl, e)
both false b e = absurd (true≢false (sym e))

and : (a b : Bool) → a ≡ true → b ≡ true → a && b ≡ true
and a b ea eb = ap₂ (λ x y. x && y) ea eb

-- ---- an image has no fault

sizes_pass : (head most rest : ℕ) (bytes : List ℕ) → 1 ≤ word_at_byte bytes 8 → word_at_byte bytes 8 ≤ 2 ^ 20 → word_at_byte bytes 16 ≤ most
    → length bytes ≡ head + 4 * word_at_byte bytes 8 + rest → has_sizes head most rest bytes ≡ true
sizes_pass head most rest bytes a b c d = and _ _ (le-leb _ _ a) (and _ _ (le-leb _ _ b) (and _ _ (le-leb _ _ c) (eq-eqb _ _ d)))

length-parts : (code bytes : List ℕ) → length (words_bytes code ++ bytes) ≡ 4 * length code + length bytes
length-parts code bytes = length-append (words_bytes code) bytes ∙ ap (λ k. k + length bytes) (length-words_bytes code)

none : (v : Version) (e : ℕ) (code bytes : List ℕ) → IsImage (record { version = v; entry = e; code = code; bytes = bytes })
    → image_fault (image_bytes (record { version = v; entry = e; code = code; bytes = bytes })) ≡ None
none First e code bytes h =
    let all : List ℕ = image_bytes (record { version = First; entry = e; code = code; bytes = bytes }) in
    let n : word_at_byte all 8 ≡ length code = head_again (length code) (let le = h.code_fits in omega arith) in
    let d : word_at_byte all 16 ≡ length bytes / 4 = head_again (length bytes / 4) (let le = h.bytes_fit in omega arith) in
    let x : word_at_byte all 12 ≡ e = head_again e (entry_below (length code) e h.code_fits h.entry) in
    let tail = length-parts code bytes in
    let sizes = sizes_pass 20 (2 ^ 18) (4 * word_at_byte all 16) all (omega arith) (omega arith) (omega arith) (omega arith) in
    let entry : is_entry (word_at_byte all 8) (word_at_byte all 12) ≡ true = rw (n, x) h.entry in
    ap (λ b. cond b (Some Length) (first_version_fault all)) (le-ltb (length all) 20 (omega arith))
    ∙ passes (has_sizes 20 (2 ^ 18) (4 * word_at_byte all 16) all) Length _ sizes
    ∙ passes (is_entry (word_at_byte all 8) (word_at_byte all 12)) Entry None entry
none (Second c) e code bytes h =
    let all : List ℕ = image_bytes (record { version = Second c; entry = e; code = code; bytes = bytes }) in
    let n : word_at_byte all 8 ≡ length code = head_again (length code) (let le = h.code_fits in omega arith) in
    let d : word_at_byte all 16 ≡ length bytes = head_again (length bytes) (let le = h.bytes_fit in omega arith) in
    let x : word_at_byte all 12 ≡ e = head_again e (entry_below (length code) e h.code_fits h.entry) in
    let tail = length-parts code bytes in
    let sizes = sizes_pass 44 (2 ^ 20) (word_at_byte all 16) all (omega arith) (omega arith) (omega arith) (omega arith) in
    let entry : is_entry (word_at_byte all 8) (word_at_byte all 12) ≡ true = rw (n, x) h.entry in
    let counts : counts_at all ≡ c = counts_again c (word_at_byte all 20) (word_at_byte all 24) (word_at_byte all 28) (word_at_byte all 32)
    (word_at_byte all 36) (word_at_byte all 40) (head_again c.same (omega arith)) (head_again c.unclean (omega arith))
    (head_again c.differs (omega arith)) (head_again c.full (omega arith)) (head_again c.no_memory (omega arith)) (head_again c.missed (omega arith)) in
    let few : nat_le (total (counts_at all)) (2 ^ 20) ≡ true = ap (λ k. nat_le (total k) (2 ^ 20)) counts ∙ le-leb _ _ h.version in
    ap (λ b. cond b (Some Length) (second_version_fault all)) (le-ltb (length all) 20 (omega arith))
    ∙ ap (λ b. cond b (Some Length)
    (cond (not (has_sizes 44 (2 ^ 20) (word_at_byte all 16) all)) (Some Length)
    (cond (not (is_entry (word_at_byte all 8) (word_at_byte all 12))) (Some Entry)
    (cond (not (nat_le (total (counts_at all)) (2 ^ 20))) (Some Counts) None)))) (le-ltb (length all) 44 (omega arith))
    ∙ passes (has_sizes 44 (2 ^ 20) (word_at_byte all 16) all) Length _ sizes
    ∙ passes (is_entry (word_at_byte all 8) (word_at_byte all 12)) Entry _ entry
    ∙ passes (nat_le (total (counts_at all)) (2 ^ 20)) Counts None few

pub no_fault : (i : ImageParts) → IsImage i → image_fault (image_bytes i) ≡ None
no_fault i h = none i.version i.entry i.code i.bytes h

pub one_image : (i j : ImageParts) → IsImage i → IsImage j → image_bytes i ≡ image_bytes j → i ≡ j
one_image i j hi hj e = sym (parts_again i hi) ∙ ap parts_of e ∙ parts_again j hj

-- ---- of bytes

word-drop : (bytes : List ℕ) (k : ℕ) → word_at_byte (drop k bytes) 0 ≡ word_at_byte bytes k
word-drop bytes k = rw (get_or-drop k bytes 0 0, get_or-drop k bytes 1 0, get_or-drop k bytes 2 0, get_or-drop k bytes 3 0)
    (ap (λ n. get_or bytes n 0 * 2 ^ 24 + get_or bytes (k + 1) 0 * 2 ^ 16 + get_or bytes (k + 2) 0 * 2 ^ 8 + get_or bytes (k + 3) 0) (omega arith))

-- one word, and the others behind it
first_of : (n k : ℕ) (bytes : List ℕ) → words_of (suc n) (drop k bytes) ≡ word_at_byte bytes k ∷ words_of n (drop (k + 4) bytes)
first_of n k bytes = ap₂ (λ x y. x ∷ words_of n y) (word-drop bytes k) (drop-drop 4 k bytes ∙ ap (λ j. drop j bytes) (omega arith))

five : (bytes : List ℕ) (n : ℕ)
    → words_of (suc (suc (suc (suc (suc n))))) bytes ≡ word_at_byte bytes 0 ∷ word_at_byte bytes 4 ∷ word_at_byte bytes 8 ∷ word_at_byte
    bytes 12 ∷ word_at_byte bytes 16 ∷ words_of n (drop 20 bytes)
five bytes n =
    first_of (suc (suc (suc (suc n)))) 0 bytes
    ∙ ap (λ x. word_at_byte bytes 0 ∷ x) (first_of (suc (suc (suc n))) 4 bytes ∙ ap (λ x. word_at_byte bytes 4 ∷ x) (first_of (suc (suc n)) 8 bytes
    ∙ ap (λ x. word_at_byte bytes 8 ∷ x) (first_of (suc n) 12 bytes ∙ ap (λ x. word_at_byte bytes 12 ∷ x) (first_of n 16 bytes))))

six : (bytes : List ℕ)
    → words_of 6 (drop 20 bytes) ≡ word_at_byte bytes 20 ∷ word_at_byte bytes 24 ∷ word_at_byte bytes 28 ∷ word_at_byte bytes 32
    ∷ word_at_byte bytes 36 ∷ word_at_byte bytes 40 ∷ []
six bytes =
    first_of 5 20 bytes ∙ ap (λ x. word_at_byte bytes 20 ∷ x) (first_of 4 24 bytes ∙ ap (λ x. word_at_byte bytes 24 ∷ x) (first_of 3 28 bytes
    ∙ ap (λ x. word_at_byte bytes 28 ∷ x)
    (first_of 2 32 bytes ∙ ap (λ x. word_at_byte bytes 32 ∷ x) (first_of 1 36 bytes ∙ ap (λ x. word_at_byte bytes 36 ∷ x) (first_of 0 40 bytes)))))

heads : (m v n e d k n' d' : ℕ) (rest : List ℕ) → n' ≡ n → d' ≡ d → m ≡ magic → v ≡ k → magic ∷ k ∷ n' ∷ e ∷ d' ∷ rest ≡ m ∷ v ∷ n ∷ e ∷ d ∷ rest
heads m v n e d k n' d' rest en ed em ev = cc

versioned : {A : Type 0} (b : Bool) (x : Option A) (f : A) → cond b x (Some f) ≡ None → (b ≡ true) × (x ≡ None)
versioned true x f e = (refl, e)
versioned false x f e = absurd cc

-- what the tests say
pub record Passes (head most rest : ℕ) (bytes : List ℕ) : Type 0 where
  pub some : 1 ≤ word_at_byte bytes 8
  pub code_fits : word_at_byte bytes 8 ≤ 2 ^ 20
  pub most_fit : word_at_byte bytes 16 ≤ most
  pub exact : length bytes ≡ head + 4 * word_at_byte bytes 8 + rest
  pub entry : is_entry (word_at_byte bytes 8) (word_at_byte bytes 12) ≡ true

sized : (head most rest : ℕ) (bytes : List ℕ) → has_sizes head most rest bytes ≡ true
    → is_entry (word_at_byte bytes 8) (word_at_byte bytes 12) ≡ true → Passes head most rest bytes
sized head most rest bytes e entry =
    let s0 = both _ _ e in
    let s1 = both _ _ s0.1 in
    let s2 = both _ _ s1.1 in
    record { some = leb-true _ _ s0.0; code_fits = leb-true _ _ s1.0; most_fit = leb-true _ _ s2.0; exact = eqb-true _ _ s2.1; entry = entry }

-- which version the bytes have, and that they pass its tests
pub data Passed (bytes : List ℕ) : Type 0 where
  in_first : word_at_byte bytes 0 ≡ magic → word_at_byte bytes 4 ≡ 1 → Passes 20 (2 ^ 18) (4 * word_at_byte bytes 16) bytes → Passed bytes
  in_second : word_at_byte bytes 0 ≡ magic → word_at_byte bytes 4 ≡ 2 → 44 ≤ length bytes → Passes 44 (2 ^ 20) (word_at_byte bytes 16) bytes
      → total (counts_at bytes) ≤ 2 ^ 20 → Passed bytes

first_passed : (bytes : List ℕ) → first_version_fault bytes ≡ None → Passes 20 (2 ^ 18) (4 * word_at_byte bytes 16) bytes
first_passed bytes e =
    let c = guard (not (has_sizes 20 (2 ^ 18) (4 * word_at_byte bytes 16) bytes)) Length _ e in
    let d = guard (not (is_entry (word_at_byte bytes 8) (word_at_byte bytes 12))) Entry None c.1 in
    sized 20 (2 ^ 18) (4 * word_at_byte bytes 16) bytes (not_false _ c.0) (not_false _ d.0)

second_passed : (bytes : List ℕ) → word_at_byte bytes 0 ≡ magic → word_at_byte bytes 4 ≡ 2 → second_version_fault bytes ≡ None → Passed bytes
second_passed bytes m v e =
    let b = guard (nat_lt (length bytes) 44) Length _ e in
    let c = guard (not (has_sizes 44 (2 ^ 20) (word_at_byte bytes 16) bytes)) Length _ b.1 in
    let d = guard (not (is_entry (word_at_byte bytes 8) (word_at_byte bytes 12))) Entry _ c.1 in
    let f = guard (not (nat_le (total (counts_at bytes)) (2 ^ 20))) Counts None d.1 in
    in_second m v (ltb-false _ _ b.0) (sized 44 (2 ^ 20) (word_at_byte bytes 16) bytes (not_false _ c.0) (not_false _ d.0)) (leb-true _ _ (not_false _ f.0))

pub passed : (bytes : List ℕ) → image_fault bytes ≡ None → Passed bytes
passed bytes e =
    let a = guard (nat_lt (length bytes) 20) Length _ e in
    let b = guard (not (word_at_byte bytes 0 == magic)) Magic _ a.1 in
    go (eqb-true _ _ (not_false _ b.0)) (word_at_byte bytes 4 == 1) refl b.1
  where
    go : word_at_byte bytes 0 ≡ magic → (x : Bool) → (word_at_byte bytes 4 == 1) ≡ x
        → cond x (first_version_fault bytes) (cond (word_at_byte bytes 4 == 2) (second_version_fault bytes) (Some OtherVersion)) ≡ None → Passed bytes
    go m true ex h = in_first m (eqb-true _ _ ex) (first_passed bytes h)
    go m false ex h = let v = versioned (word_at_byte bytes 4 == 2) (second_version_fault bytes) OtherVersion h in second_passed bytes m (eqb-true _ _ v.0) v.1

-- ---- bytes that pass

bytes_all : (bytes : List ℕ) → IsBytes bytes → AllByRecursion (λ b. b < 2 ^ 8) bytes
bytes_all [] h = tt
bytes_all (b ∷ bytes) h = (h 0, bytes_all bytes (λ i. h (suc i)))

fits_behind : (v : Version) (head most rest : ℕ) (bytes : List ℕ) → IsBytes bytes → Passes head most rest bytes → rest ≤ 2 ^ 20
    → FitsVersion v (parts_behind v head bytes).bytes → IsImage (parts_behind v head bytes)
fits_behind v head most rest bytes h p small fits =
    let n = length-words_of (word_at_byte bytes 8) (drop head bytes) in
    let far : length (drop (4 * word_at_byte bytes 8) (drop head bytes)) ≡ length bytes - head - 4 * word_at_byte bytes 8 =
    length-drop (4 * word_at_byte bytes 8) (drop head bytes) ∙ ap (λ k. k - 4 * word_at_byte bytes 8) (length-drop head bytes) in
    let x = p.exact in
    record {
      some = rw n p.some;
      code_fits = rw n p.code_fits;
      bytes_fit = omega arith;
      entry = rw n p.entry;
      version = fits;
      code = All-from_recursion (λ w. w < 2 ^ 32) _ (words_below (word_at_byte bytes 8) (drop head bytes) (IsBytes-drop head bytes h));
      bytes = All-from_recursion (λ b. b < 2 ^ 8) _
          (bytes_all (drop (4 * word_at_byte bytes 8) (drop head bytes))
          (IsBytes-drop (4 * word_at_byte bytes 8) (drop head bytes) (IsBytes-drop head bytes h)));
    }

left_over : (head n rest : ℕ) (bytes : List ℕ) → length bytes ≡ head + 4 * n + rest → length (drop (4 * n) (drop head bytes)) ≡ rest
left_over head n rest bytes x =
    let far : length (drop (4 * n) (drop head bytes)) ≡ length bytes - head - 4 * n = length-drop (4 * n) (drop head bytes)
    ∙ ap (λ k. k - 4 * n) (length-drop head bytes) in
    omega arith

pub first_image : (bytes : List ℕ) → IsBytes bytes → Passes 20 (2 ^ 18) (4 * word_at_byte bytes 16) bytes → IsImage (parts_behind First 20 bytes)
first_image bytes h p =
    let l = left_over 20 (word_at_byte bytes 8) (4 * word_at_byte bytes 16) bytes p.exact in
    let m = p.most_fit in
    fits_behind First 20 (2 ^ 18) (4 * word_at_byte bytes 16) bytes h p (omega arith) (omega arith)

pub second_image : (bytes : List ℕ) → IsBytes bytes → Passes 44 (2 ^ 20) (word_at_byte bytes 16) bytes → total (counts_at bytes) ≤ 2 ^ 20
    → IsImage (parts_behind (Second (counts_at bytes)) 44 bytes)
second_image bytes h p few = fits_behind (Second (counts_at bytes)) 44 (2 ^ 20) (word_at_byte bytes 16) bytes h p p.most_fit few

-- a head, the code words and the data are all the bytes
whole : (head : List ℕ) (k n : ℕ) (bytes : List ℕ) → words_bytes head ≡ take k bytes → IsBytes bytes → 4 * n ≤ length (drop k bytes)
    → words_bytes head ++ (words_bytes (words_of n (drop k bytes)) ++ drop (4 * n) (drop k bytes)) ≡ bytes
whole head k n bytes e h le =
    ap₂ (λ x y. x ++ (y ++ drop (4 * n) (drop k bytes))) e (words_back n (drop k bytes) (IsBytes-drop k bytes h) le)
    ∙ ap (λ y. take k bytes ++ y) (take-append-drop (4 * n) (drop k bytes)) ∙ take-append-drop k bytes

first_bytes : (bytes : List ℕ) → IsBytes bytes → word_at_byte bytes 0 ≡ magic → word_at_byte bytes 4 ≡ 1
    → Passes 20 (2 ^ 18) (4 * word_at_byte bytes 16) bytes → image_bytes (parts_behind First 20 bytes) ≡ bytes
first_bytes bytes h m v p =
    let n = length-words_of (word_at_byte bytes 8) (drop 20 bytes) in
    let l = left_over 20 (word_at_byte bytes 8) (4 * word_at_byte bytes 16) bytes p.exact in
    let d : length (drop (4 * word_at_byte bytes 8) (drop 20 bytes)) / 4 ≡ word_at_byte bytes 16 = omega arith in
    let head : head_of First (length (words_of (word_at_byte bytes 8) (drop 20 bytes))) (word_at_byte bytes 12)
    (length (drop (4 * word_at_byte bytes 8) (drop 20 bytes))) ≡ words_of 5 bytes =
    heads (word_at_byte bytes 0) (word_at_byte bytes 4) (word_at_byte bytes 8) (word_at_byte bytes 12)
    (word_at_byte bytes 16) 1 _ _ [] n d m v ∙ sym (five bytes 0) in
    let x = p.exact in
    let behind = length-drop 20 bytes in
    whole (head_of First (length (words_of (word_at_byte bytes 8) (drop 20 bytes))) (word_at_byte bytes 12)
    (length (drop (4 * word_at_byte bytes 8) (drop 20 bytes)))) 20 (word_at_byte bytes 8) bytes
    (ap words_bytes head ∙ words_back 5 bytes h (omega arith)) h (omega arith)

second_bytes : (bytes : List ℕ) → IsBytes bytes → word_at_byte bytes 0 ≡ magic → word_at_byte bytes 4 ≡ 2 → 44 ≤ length bytes
    → Passes 44 (2 ^ 20) (word_at_byte bytes 16) bytes → image_bytes (parts_behind (Second (counts_at bytes)) 44 bytes) ≡ bytes
second_bytes bytes h m v long p =
    let n = length-words_of (word_at_byte bytes 8) (drop 44 bytes) in
    let d = left_over 44 (word_at_byte bytes 8) (word_at_byte bytes 16) bytes p.exact in
    let six_words : List ℕ =
    word_at_byte bytes 20 ∷ word_at_byte bytes 24 ∷ word_at_byte bytes 28 ∷ word_at_byte bytes 32 ∷ word_at_byte bytes 36
    ∷ word_at_byte bytes 40 ∷ [] in
    let head : head_of (Second (counts_at bytes)) (length (words_of (word_at_byte bytes 8) (drop 44 bytes))) (word_at_byte bytes 12)
    (length (drop (4 * word_at_byte bytes 8) (drop 44 bytes))) ≡ words_of 11 bytes =
    heads (word_at_byte bytes 0) (word_at_byte bytes 4) (word_at_byte bytes 8) (word_at_byte bytes 12) (word_at_byte bytes 16) 2 _ _ six_words n d m v
    ∙ ap (λ (r : List ℕ). word_at_byte bytes 0 ∷ word_at_byte bytes 4 ∷ word_at_byte bytes 8 ∷ word_at_byte bytes 12 ∷ word_at_byte bytes 16
    ∷ r) (sym (six bytes)) ∙ sym (five bytes 6) in
    let x = p.exact in
    let behind = length-drop 44 bytes in
    whole (head_of (Second (counts_at bytes)) (length (words_of (word_at_byte bytes 8) (drop 44 bytes))) (word_at_byte bytes 12)
    (length (drop (4 * word_at_byte bytes 8) (drop 44 bytes)))) 44 (word_at_byte bytes 8) bytes
    (ap words_bytes head ∙ words_back 11 bytes h (omega arith)) h (omega arith)

in_first_parts : (bytes : List ℕ) → word_at_byte bytes 4 ≡ 1 → parts_of bytes ≡ parts_behind First 20 bytes
in_first_parts bytes v = ap (λ b. cond b (parts_behind First 20 bytes) (parts_behind (Second (counts_at bytes)) 44 bytes)) (eq-eqb (word_at_byte bytes 4) 1 v)

in_second_parts : (bytes : List ℕ) → word_at_byte bytes 4 ≡ 2 → parts_of bytes ≡ parts_behind (Second (counts_at bytes)) 44 bytes
in_second_parts bytes v = ap (λ k. cond (k == 1) (parts_behind First 20 bytes) (parts_behind (Second (counts_at bytes)) 44 bytes)) v

abbrev pub Says : List ℕ → ImageParts → Type 0
Says bytes i = IsImage i × (image_bytes i ≡ bytes)

pub says : (bytes : List ℕ) → IsBytes bytes → Passed bytes → Says bytes (parts_of bytes)
says bytes h (in_first m v p) = subst (Says bytes) (sym (in_first_parts bytes v)) (first_image bytes h p, first_bytes bytes h m v p)
says bytes h (in_second m v long p few) = subst (Says bytes) (sym (in_second_parts bytes v)) (second_image bytes h p few, second_bytes bytes h m v long p)

pub is_first : (bytes : List ℕ) → IsBytes bytes → Passed bytes → word_at_byte bytes 4 ≡ 1 → IsImage (parts_behind First 20 bytes)
is_first bytes h (in_first m v p) e = first_image bytes h p
is_first bytes h (in_second m v long p few) e = absurd (omega arith)

pub is_second : (bytes : List ℕ) → IsBytes bytes → Passed bytes → (word_at_byte bytes 4 ≡ 1 → ⊥) → IsImage (parts_behind (Second (counts_at bytes)) 44 bytes)
is_second bytes h (in_first m v p) e = absurd (e v)
is_second bytes h (in_second m v long p few) e = second_image bytes h p few
