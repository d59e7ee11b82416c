-- A load after a store, and two stores: the word or byte that was stored there, and elsewhere what it was before.
use Rattle.std.proofs.Common.{◌≡◌, ℕ, ◌+◌, ◌-◌, ◌*◌, ◌/◌, ◌%◌, ◌^◌, ◌<◌, Bool, true, false, cond, ◌&&◌, ◌==◌, nat_le, nat_lt, refl, sym, ap}
use Rattle.std.proofs.Common.{ap₂, ◌∙◌, subst, le-leb, lt-ltb, leb-true, ltb-true, eq-eqb, eqb-true, arith}
use Rattle.std.proofs.lemmas.Bool.{and_parts}
use mathlib.Core.Path.{fun_ext}
use Rattle.words.specs.declared.width.Width.{Width}
use Rattle.words.specs.declared.width.Width.TheVariants.{Word, Byte}
use Rattle.words.specs.Widths.{kept}
use Rattle.mips_isa.specs.States.{AreApart, is_aligned, is_open, is_inside, byte_of, load_word, load_byte, load_at, store_word, store_byte, store_at}
use Rattle.mips_isa.specs.Laws.{LoadsPassStores, StoresCommute}

-- ---- loads and stores by the bytes that they reach

-- an access at a reaches the byte at c
abbrev reaches : Width → ℕ → ℕ → Bool
reaches Word a c = is_inside a c
reaches Byte a c = c == a

-- what a store of v at a leaves at c, where it reaches that
abbrev stored_at : Width → (a v c : ℕ) → ℕ
stored_at Word a v c = byte_of v (c - a)
stored_at Byte a v c = v % 2 ^ 8

-- what a load at b makes of memory
abbrev loaded_at : Width → (ℕ → ℕ) → ℕ → ℕ
loaded_at Word m b = m b * 2 ^ 24 + m (b + 1) * 2 ^ 16 + m (b + 2) * 2 ^ 8 + m (b + 3)
loaded_at Byte m b = m b

store_is : (w : Width) (mapped : ℕ → Bool) (m : ℕ → ℕ) (a v c : ℕ)
    → store_at w mapped m a v c ≡ cond (is_open w mapped a && reaches w a c) (stored_at w a v c) (m c)
unfolding store_word store_byte
store_is Word mapped m a v c = refl
store_is Byte mapped m a v c = refl

load_is : (w : Width) (mapped : ℕ → Bool) (m : ℕ → ℕ) (b : ℕ) → load_at w mapped m b ≡ cond (is_open w mapped b) (loaded_at w m b) 0
unfolding load_word load_byte
load_is Word mapped m b = refl
load_is Byte mapped m b = refl

is_inside_at : (a i : ℕ) → i < 4 → is_inside a (a + i) ≡ true
is_inside_at a i lt = ap₂ (λ x y. x && y) (le-leb a (a + i) (omega arith)) (lt-ltb (a + i) (a + 4) (omega arith))

-- a load sees no more than it reaches
loaded_same : (w : Width) (m n : ℕ → ℕ) (b : ℕ) → ((c : ℕ) → reaches w b c ≡ true → m c ≡ n c) → loaded_at w m b ≡ loaded_at w n b
loaded_same Word m n b same =
    let zero_on : b + 0 ≡ b = omega arith in
    let first : m b ≡ n b = subst (λ k. m k ≡ n k) zero_on (same (b + 0) (is_inside_at b 0 (omega arith))) in
    let second = same (b + 1) (is_inside_at b 1 (omega arith)) in
    let third = same (b + 2) (is_inside_at b 2 (omega arith)) in
    let fourth = same (b + 3) (is_inside_at b 3 (omega arith)) in
    ap₂ (λ x y. x + y) (ap₂ (λ x y. x + y) (ap₂ (λ x y. x * 2 ^ 24 + y * 2 ^ 16) first second) (ap (λ x. x * 2 ^ 8) third)) fourth
loaded_same Byte m n b same = same b (eq-eqb b b refl)

-- ---- at the same address

joined : (v : ℕ) → v < 2 ^ 32 → v / 2 ^ 24 % 256 * 2 ^ 24 + v / 2 ^ 16 % 256 * 2 ^ 16 + v / 2 ^ 8 % 256 * 2 ^ 8 + v % 256 ≡ v
joined v h = omega arith

stored_here : (w : Width) (mapped : ℕ → Bool) (m : ℕ → ℕ) (a v c : ℕ) → is_open w mapped a ≡ true → reaches w a c ≡ true
    → store_at w mapped m a v c ≡ stored_at w a v c
stored_here w mapped m a v c open_at here = store_is w mapped m a v c ∙ ap₂ (λ x y. cond (x && y) (stored_at w a v c) (m c)) open_at here

loaded_stored : (w : Width) (a v : ℕ) → v < 2 ^ 32 → loaded_at w (stored_at w a v) a ≡ kept w v
loaded_stored Word a v h =
    let zero_off : a - a ≡ 0 = omega arith in
    let one : a + 1 - a ≡ 1 = omega arith in
    let two : a + 2 - a ≡ 2 = omega arith in
    let three : a + 3 - a ≡ 3 = omega arith in
    ap₂ (λ x y. x + y)
    (ap₂ (λ x y. x + y) (ap₂ (λ x y. byte_of v x * 2 ^ 24 + byte_of v y * 2 ^ 16) zero_off one) (ap (λ x. byte_of v x * 2 ^ 8) two))
    (ap (byte_of v) three)
    ∙ joined v h
loaded_stored Byte a v h = refl

-- what was stored is loaded, as far as the width keeps it
pub load_same : (w : Width) (mapped : ℕ → Bool) (memory : ℕ → ℕ) (a v : ℕ) → is_open w mapped a ≡ true → v < 2 ^ 32
    → load_at w mapped (store_at w mapped memory a v) a ≡ kept w v
load_same w mapped memory a v open_at h =
    load_is w mapped (store_at w mapped memory a v) a ∙ ap (λ x. cond x (loaded_at w (store_at w mapped memory a v) a) 0) open_at
    ∙ loaded_same w (store_at w mapped memory a v) (stored_at w a v) a (λ c e. stored_here w mapped memory a v c open_at e) ∙ loaded_stored w a v h

-- ---- at another

-- a word doesn't reach a byte outside its four
word_or_byte : (a b c : ℕ) → AreApart Word a Byte b → reaches Word a c ≡ true → reaches Byte b c ≡ true → ⊥
word_or_byte a b c apart ra rb =
    let p = and_parts (nat_le a c) (nat_lt c (a + 4)) ra in
    let low = leb-true a c p.0 in
    let high = ltb-true c (a + 4) p.1 in
    let at = eqb-true c b rb in
    omega (arith, low, high, at, apart)

-- no byte is reached by both
never_both : (w v : Width) (a b c : ℕ) → AreApart w a v b → is_aligned w a ≡ true → is_aligned v b ≡ true → reaches w a c ≡ true
    → reaches v b c ≡ true → ⊥
never_both Word Word a b c apart ea eb ra rb =
    let p = and_parts (nat_le a c) (nat_lt c (a + 4)) ra in
    let q = and_parts (nat_le b c) (nat_lt c (b + 4)) rb in
    let low = leb-true a c p.0 in
    let high = ltb-true c (a + 4) p.1 in
    let low' = leb-true b c q.0 in
    let high' = ltb-true c (b + 4) q.1 in
    let za = eqb-true (a % 4) 0 ea in
    let zb = eqb-true (b % 4) 0 eb in
    apart (omega (arith, low, high, low', high', za, zb))
never_both Byte Byte a b c apart ea eb ra rb = apart (sym (eqb-true c a ra) ∙ eqb-true c b rb)
never_both Word Byte a b c apart ea eb ra rb = word_or_byte a b c apart ra rb
never_both Byte Word a b c apart ea eb ra rb = word_or_byte b a c apart rb ra

-- the byte at c isn't changed by a store that is apart from an access that reaches it
kept_byte : (w v : Width) (mapped : ℕ → Bool) (m : ℕ → ℕ) (a word b c : ℕ) → AreApart w a v b → is_aligned v b ≡ true → reaches v b c ≡ true
    → store_at w mapped m a word c ≡ m c
kept_byte w v mapped m a word b c apart eb rb = store_is w mapped m a word c ∙ go (is_aligned w a) (mapped a) (reaches w a c) refl refl
  where
    go : (x y z : Bool) → is_aligned w a ≡ x → reaches w a c ≡ z → cond ((x && y) && z) (stored_at w a word c) (m c) ≡ m c
    go false y z ea ra = refl
    go true false z ea ra = refl
    go true true false ea ra = refl
    go true true true ea ra = absurd (never_both w v a b c apart ea eb ra rb)

pub load-past-store : LoadsPassStores
load-past-store w v mapped memory a word b apart =
    load_is v mapped (store_at w mapped memory a word) b ∙ go (is_aligned v b) (mapped b) refl ∙ sym (load_is v mapped memory b)
  where
    go : (x y : Bool) → is_aligned v b ≡ x → cond (x && y) (loaded_at v (store_at w mapped memory a word) b) 0 ≡ cond (x && y) (loaded_at v memory b) 0
    go false y e = refl
    go true false e = refl
    go true true e = loaded_same v (store_at w mapped memory a word) memory b (λ c rb. kept_byte w v mapped memory a word b c apart e rb)

-- two stores, each where it is open and reaches the byte
exchanged : (p x q y : Bool) (first second rest : ℕ) → (p ≡ true → x ≡ true → q ≡ true → y ≡ true → ⊥)
    → cond (q && y) second (cond (p && x) first rest) ≡ cond (p && x) first (cond (q && y) second rest)
exchanged false x q y first second rest h = refl
exchanged true false q y first second rest h = refl
exchanged true true false y first second rest h = refl
exchanged true true true false first second rest h = refl
exchanged true true true true first second rest h = absurd (h refl refl refl refl)

pub stores-commute : StoresCommute
stores-commute w v mapped memory a first b second apart = fun_ext at
  where
    aligned : (u : Width) (d : ℕ) → is_open u mapped d ≡ true → is_aligned u d ≡ true
    aligned u d e = (and_parts (is_aligned u d) (mapped d) e).0

    at : (c : ℕ)
        → store_at v mapped (store_at w mapped memory a first) b second c ≡ store_at w mapped (store_at v mapped memory b second) a first c
    at c =
        store_is v mapped (store_at w mapped memory a first) b second c
        ∙ ap (cond (is_open v mapped b && reaches v b c) (stored_at v b second c)) (store_is w mapped memory a first c)
        ∙ exchanged (is_open w mapped a) (reaches w a c) (is_open v mapped b) (reaches v b c) (stored_at w a first c) (stored_at v b second c) (memory c)
        (λ oa ra ob rb. never_both w v a b c apart (aligned w a oa) (aligned v b ob) ra rb)
        ∙ sym (ap (cond (is_open w mapped a && reaches w a c) (stored_at w a first c)) (store_is v mapped memory b second c))
        ∙ sym (store_is w mapped (store_at v mapped memory b second) a first c)
