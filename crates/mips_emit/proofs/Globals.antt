-- Elements of globals, and their places in data.
use Rattle.std.proofs.Common.{◌≡◌, ◌≢◌, ℕ, zero, suc, ◌+◌, ◌^◌, ◌<◌, ◌≤◌, ◌⊎◌, inl, inr, ⊎_elim, Bool, true, List, [], ◌∷◌, Some, refl, sym, ap, ◌∙◌, arith}
use Rattle.std.specs.Prelude.{slice_get, slice_set}
use Rattle.std.proofs.lemmas.Bool.{cases_eq}
use Rattle.std.proofs.lemmas.Bool.Decides.{nat_tests}
use Rattle.std.proofs.lemmas.Option.{same_Some, none-some}
use Rattle.words.specs.declared.width.Width.{Width}
use Rattle.words.specs.declared.width.Width.TheVariants.{Word, Byte}
use Rattle.words.specs.Widths.{kept}
use Rattle.runs.specs.Stores.{Places, Arrays, chain, element_at, arrays_with}
use Rattle.runs.proofs.Words.{chain-some}
use Rattle.mips_isa.specs.States.{State, AreApart, is_open, load_word, store_byte}
use Rattle.mips_isa.specs.Starting.{data_base, stack_base}
use Rattle.mblock.specs.declared.limits.TheConstants.{UNIT_BYTES}
use Rattle.rtl.specs.declared.block.RGlobal.{RGlobal}
use Rattle.rtl.specs.Meaning.{kept_in}
use Rattle.mips_emit.specs.Elements.{width_of, width_bytes, place_in, address_of_place}
use Rattle.mips_emit.proofs.View.{word_at, set_at, shown_here, shown_other, word_other, set_at_words}
use Rattle.mips_emit.proofs.Stands.{Stored, stack_same, width_some, Stands, element_aligned, open_data}

-- what a store keeps
pub kept_is : (gs : List RGlobal) (a v w : ℕ) → kept_in gs a v ≡ Some w → w ≡ kept (width_of gs a) v
kept_is gs a v w e =
    let there = chain-some (slice_get gs a) (λ (global : RGlobal). Some (kept global.width v)) w e in
    rw there.1 (sym (same_Some (kept (there.0).width v) w there.2))

-- a word behind a byte that is stored
word_past_byte : (mapped : ℕ → Bool) (m : ℕ → ℕ) (a v b : ℕ) → a < b → load_word mapped (store_byte mapped m a v) b ≡ load_word mapped m b
unfolding load_word store_byte
word_past_byte mapped m a v b lt = grind (arith, nat_tests)

-- the stack keeps its words when an element is stored
stack_kept : (w : Width) (s : State) (p v total b : ℕ) → p + width_bytes w ≤ total → total ≤ UNIT_BYTES → stack_base ≤ b
    → word_at (set_at w s (address_of_place p) v) b ≡ word_at s b
stack_kept Word s p v total b inside few le = word_other s (data_base + p) v b (omega arith)
stack_kept Byte s p v total b inside few le = word_past_byte s.mapped s.memory (data_base + p) v b (omega arith)

-- elements one behind the other share no byte
parts_apart : (w u : Width) (p q total : ℕ) → p + width_bytes w ≤ total → q + width_bytes u ≤ total → total ≤ UNIT_BYTES
    → (p + width_bytes w ≤ q) ⊎ (q + width_bytes u ≤ p) → AreApart w (address_of_place p) u (address_of_place q)
parts_apart Word Word p q total hp hq few le = omega arith
parts_apart Byte Word p q total hp hq few le = omega arith
parts_apart Byte Byte p q total hp hq few le = omega arith
parts_apart Word Byte p q total hp hq few le = omega arith

set_there : {A : Type 0} (l : List A) (b : ℕ) (x y : A) → slice_get l b ≡ Some y → slice_get (slice_set l b x) b ≡ Some x
set_there [] b x y e = absurd (none-some y e)
set_there (z ∷ l) zero x y e = refl
set_there (z ∷ l) (suc b) x y e = set_there l b x y e

set_others : {A : Type 0} (l : List A) (b : ℕ) (x : A) (i : ℕ) → i ≢ b → slice_get (slice_set l b x) i ≡ slice_get l i
set_others (y ∷ l) zero x zero ne = absurd (ne refl)
set_others (y ∷ l) (suc b) x (suc i) ne = set_others l b x i (λ e. ne (ap suc e))
set_others _ _ x _ ne = refl

-- the arrays after a write
pub record StoredAt (g : Arrays) (a i v : ℕ) (g' : Arrays) : Type 0 where
  pub old : ℕ
  pub was : element_at g a i ≡ Some old
  pub now : (b j w : ℕ) → element_at g' b j ≡ Some w → ((b ≡ a) × (j ≡ i) × (w ≡ v)) ⊎ ((b ≡ a → j ≡ i → ⊥) × (element_at g b j ≡ Some w))

-- an element that there is, there was
was_there : {g : Arrays} {a i v : ℕ} {g' : Arrays} (at : StoredAt g a i v g') (b j w : ℕ) → element_at g' b j ≡ Some w → (old : ℕ) × (element_at g b j ≡ Some old)
was_there at b j w is = ⊎_elim (λ x. (at.old, rw (x.0, x.1) at.was)) (λ x. (w, x.1)) (at.now b j w is)

pub stored_at : (g : Arrays) (a i v : ℕ) (g' : Arrays) → arrays_with g a i v ≡ Some g' → StoredAt g a i v g'
stored_at g a i v g' e =
    let array = chain-some (slice_get g a) (λ (words : List ℕ). chain (slice_get words i) (λ _. Some (slice_set g a (slice_set words i v)))) g' e in
    let place = chain-some (slice_get array.0 i) (λ _. Some (slice_set g a (slice_set array.0 i v))) g' array.2 in
    record {
      old = place.0;
      was = ap (λ o. chain o (λ words. slice_get words i)) array.1 ∙ place.1;
      now = λ b j w is. change array.0 place.0 array.1 place.1 b j w (ap (λ g. element_at g b j) (same_Some _ g' place.2) ∙ is) (cases_eq b a) (cases_eq j i);
    }
  where
    change : (words : List ℕ) (old : ℕ) → slice_get g a ≡ Some words → slice_get words i ≡ Some old → (b j w : ℕ)
        → element_at (slice_set g a (slice_set words i v)) b j ≡ Some w → (b ≡ a) ⊎ (b ≡ a → ⊥) → (j ≡ i) ⊎ (j ≡ i → ⊥)
        → ((b ≡ a) × (j ≡ i) × (w ≡ v)) ⊎ ((b ≡ a → j ≡ i → ⊥) × (element_at g b j ≡ Some w))
    change words old there at b j w is (inl b_a) (inl j_i) =
        inl (b_a, j_i, same_Some w v (sym (rw (b_a, set_there g a (slice_set words i v) words there, j_i) at is) ∙ set_there words i v old at))
    change words old there at b j w is (inl b_a) (inr ne) =
        inr ((λ _ j_i. ne j_i), rw (b_a, there) (sym (set_others words i v j ne) ∙ (rw (b_a, set_there g a (slice_set words i v) words there) at is)))
    change words old there at b j w is (inr ne) _ = inr ((λ b_a _. ne b_a), rw (set_others g a (slice_set words i v) b ne) at is)

module _ {most total : ℕ} {gs : List RGlobal} {starts : ℕ → ℕ} {registers : Places} {g : Arrays} {fs : List Stored} {s : State} where
  -- an element that there is can be reached
  pub data_open : (a i v : ℕ) → element_at g a i ≡ Some v → Stands most total gs starts registers g fs s
      → is_open (width_of gs a) s.mapped (address_of_place (place_in gs starts a i)) ≡ true
  data_open a i v there h = rw h.mapped (open_data (width_of gs a) total (place_in gs starts a i) (element_aligned (width_of gs a) (starts a) i (h.even a))
      (omega (arith, width_some (width_of gs a), h.inside a i v there)))

  -- an element is written in memory
  pub data_written : (a i v : ℕ) (g' : Arrays) → v < 2 ^ 32
      → arrays_with g a i (kept (width_of gs a) v) ≡ Some g' → Stands most total gs starts registers g fs s
      → Stands most total gs starts registers g' fs (set_at (width_of gs a) s (address_of_place (place_in gs starts a i)) v)
  data_written a i v g' lt e h =
      let at = stored_at g a i (kept (width_of gs a) v) g' e in
      let w = width_of gs a in
      let p = address_of_place (place_in gs starts a i) in
      let here = h.inside a i at.old at.was in
      record {
        words = set_at_words w s p v h.words;
        mapped = h.mapped;
        held = h.held;
        stack = stack_same most (word_at s) (word_at (set_at w s p v)) (s.regs 29) fs
            (λ b le. stack_kept w s (place_in gs starts a i) v total b here h.few (omega (arith, le, h.room))) h.stack;
        room = h.room;
        aligned = h.aligned;
        elements = λ b j x is. ⊎_elim (λ o. rw (o.0, o.1, o.2) (shown_here w s p v (data_open a i at.old at.was h) lt))
            (λ o. shown_other w (width_of gs b) s p v (address_of_place (place_in gs starts b j))
            (parts_apart w (width_of gs b) (place_in gs starts a i) (place_in gs starts b j) total here (h.inside b j x o.1) h.few
            (h.apart a i b j at.old x at.was o.1 (λ e f. o.0 (sym e) (sym f)))) ∙ h.elements b j x o.1)
            (at.now b j x is);
        places = record {
          inside = λ b j x is. let o = was_there at b j x is in h.inside b j o.0 o.1;
          apart = λ b j c k x y is there ne. let o = was_there at b j x is in let q = was_there at c k y there in h.apart b j c k o.0 q.0 o.1 q.1 ne;
          even = h.even;
          few = h.few;
        };
        linked = h.linked;
        gp = h.gp;
      }
