-- How a state of the machine holds homes, frames and globals.
use Rattle.std.proofs.Common.{◌≡◌, ℕ, ◌+◌, ◌*◌, ◌%◌, ◌<◌, ◌≤◌, ◌⊎◌, Bool, true, false, List, [], ◌∷◌, length, Some, refl, ◌∙◌, arith, None}
use Rattle.std.specs.Prelude.{slice_get}
use Rattle.std.proofs.lemmas.Bool.Decides.{nat_tests}
use Rattle.words.specs.declared.width.Width.{Width}
use Rattle.words.specs.declared.width.Width.TheVariants.{Word, Byte}
use Rattle.runs.specs.Stores.{Places, Arrays, element_at}
use Rattle.mips_isa.specs.States.{State, IsWords, is_aligned, is_open}
use Rattle.mips_isa.specs.Starting.{stack_base, stack_end, is_mapped}
use Rattle.mblock.specs.declared.limits.TheConstants.{UNIT_BYTES}
use Rattle.rtl.specs.declared.block.RGlobal.{RGlobal}
use Rattle.mips_homes.specs.declared.homed.Home.{Home}
use Rattle.mips_homes.specs.declared.homed.Home.TheVariants.{Copied}
use Rattle.mips_emit.specs.Frames.{HaveNoCopies, link_words}
use Rattle.mips_emit.specs.Elements.{width_of, width_bytes, element_place, place_in, place_behind, address_of_place, data_middle}
use Rattle.mips_emit.proofs.View.{word_at, shown_at}

-- a frame: the slots, the registers put aside, then the link
pub record Stored : Type 0 where
  pub leaf : Bool
  pub homes : List Home
  pub count : ℕ
  pub saved : List ℕ
  pub slots : Places
  pub aside : Places
  pub link : ℕ

abbrev pub size_of : Stored → ℕ
size_of f = 4 * (f.count + length f.saved + link_words f.leaf)

abbrev pub with_slots : Stored → Places → Stored
with_slots f slots = record { leaf = f.leaf; homes = f.homes; count = f.count; saved = f.saved; slots = slots; aside = f.aside; link = f.link }

pub record FrameHolds (most : ℕ) (m : ℕ → ℕ) (at : ℕ) (f : Stored) : Type 0 where
  pub slots : (k v : ℕ) → k < f.count → f.slots k ≡ Some v → m (at + 4 * k) ≡ v
  pub aside : (j r v : ℕ) → slice_get f.saved j ≡ Some r → f.aside r ≡ Some v → m (at + 4 * (f.count + j)) ≡ v
  pub link : f.leaf ≡ false → m (at + 4 * (f.count + length f.saved)) ≡ f.link
  pub fits : size_of f ≤ most
  pub alone : f.leaf ≡ false → HaveNoCopies f.homes

-- the frames from an address up to the top of the stack
abbrev pub StackHolds : ℕ → (ℕ → ℕ) → ℕ → List Stored → Type 0
StackHolds most m at [] = at ≡ stack_end
StackHolds most m at (f ∷ fs) = FrameHolds most m at f × StackHolds most m (at + size_of f) fs

pub stack_same : (most : ℕ) (m m' : ℕ → ℕ) (at : ℕ) (fs : List Stored) → ((b : ℕ) → at ≤ b → m' b ≡ m b) → StackHolds most m at fs → StackHolds most m' at fs
stack_same most m m' at [] same h = h
stack_same most m m' at (f ∷ fs) same h = (
  record {
    slots = λ k v low is. same (at + 4 * k) (omega arith) ∙ (h.0).slots k v low is;
    aside = λ j r v there is. same (at + 4 * (f.count + j)) (omega arith) ∙ (h.0).aside j r v there is;
    link = λ calls. same (at + 4 * (f.count + length f.saved)) (omega arith) ∙ (h.0).link calls;
    fits = (h.0).fits;
    alone = (h.0).alone;
  },
  stack_same most m m' (at + size_of f) fs (λ b le. same b (omega (arith, le))) h.1,
)

pub stack_top : (most : ℕ) (m : ℕ → ℕ) (at : ℕ) (fs : List Stored) → StackHolds most m at fs → at ≤ stack_end
stack_top most m at [] h = omega (arith, h)
stack_top most m at (f ∷ fs) h = let up = stack_top most m (at + size_of f) fs h.1 in omega (arith, up)

-- the depth bounds how far the stack goes down
pub stack_room : (most : ℕ) (m : ℕ → ℕ) (at : ℕ) (fs : List Stored) → StackHolds most m at fs → stack_end ≤ at + length fs * most
stack_room most m at [] h = omega (arith, h)
stack_room most m at (f ∷ fs) h =
    let rest = stack_room most m (at + size_of f) fs h.1 in
    let e : length (f ∷ fs) * most ≡ most + length fs * most = omega arith in
    omega (arith, rest, (h.0).fits, e)

-- in a leaf the link is still in register 31, and registers that no home is hold the copies of slots
pub record LeafHolds (f : Stored) (registers : Places) (regs : ℕ → ℕ) : Type 0 where
  pub link : regs 31 ≡ f.link
  pub range : (x r k : ℕ) → slice_get f.homes x ≡ Some (Copied r k) → (8 ≤ r) × (r < 28)
  pub copied : (x r k v : ℕ) → slice_get f.homes x ≡ Some (Copied r k) → f.slots k ≡ Some v → regs r ≡ v
  pub idle : (x r k : ℕ) → slice_get f.homes x ≡ Some (Copied r k) → registers r ≡ None

abbrev pub Linked : List Stored → Places → (ℕ → ℕ) → Type 0
Linked [] registers regs = Unit {0}
Linked (f ∷ fs) registers regs = f.leaf ≡ true → LeafHolds f registers regs

-- so it is where other registers change, and no more of them are known
pub linked_kept : (fs : List Stored) {registers registers' : Places} {regs regs' : ℕ → ℕ} → regs' 31 ≡ regs 31
    → ((r : ℕ) → 8 ≤ r → r < 28 → regs' r ≡ regs r) → ((q v : ℕ) → registers' q ≡ Some v → registers q ≡ Some v)
    → Linked fs registers regs → Linked fs registers' regs'
linked_kept [] link same some h = tt
linked_kept (f ∷ fs) link same some h = λ leaf. (let l = h leaf in record {
  link = link ∙ l.link;
  range = l.range;
  copied = λ x r k v is at. (let range = l.range x r k is in same r range.0 range.1) ∙ l.copied x r k v is at;
  idle = λ x r k is. grind (arith, some r, l.idle x r k is);
})

-- the elements lie in the data, of so many bytes, and apart
pub record LieApart (total : ℕ) (gs : List RGlobal) (starts : ℕ → ℕ) (g : Arrays) : Type 0 where
  pub inside : (a i v : ℕ) → element_at g a i ≡ Some v → place_behind gs starts a i ≤ total
  pub apart : (a i b j v w : ℕ) → element_at g a i ≡ Some v → element_at g b j ≡ Some w → (a ≡ b → i ≡ j → ⊥)
      → (place_behind gs starts a i ≤ place_in gs starts b j) ⊎ (place_behind gs starts b j ≤ place_in gs starts a i)
  pub even : (a : ℕ) → starts a % 4 ≡ 0
  pub few : total ≤ UNIT_BYTES

pub width_some : (w : Width) → 0 < width_bytes w
width_some Word = omega arith
width_some Byte = omega arith

-- `total` is how many bytes of data there are
pub record Stands (most total : ℕ) (gs : List RGlobal) (starts : ℕ → ℕ) (registers : Places) (g : Arrays) (fs : List Stored) (s : State) : Type 0 where
  pub words : IsWords s
  pub mapped : s.mapped ≡ is_mapped total
  pub held : (r v : ℕ) → 4 ≤ r → r < 28 → registers r ≡ Some v → s.regs r ≡ v
  pub stack : StackHolds most (word_at s) (s.regs 29) fs
  pub room : stack_base ≤ s.regs 29
  pub aligned : s.regs 29 % 4 ≡ 0
  pub elements : (a i v : ℕ) → element_at g a i ≡ Some v → shown_at (width_of gs a) s (address_of_place (place_in gs starts a i)) ≡ v
  pub places : LieApart total gs starts g
  pub open places use {inside, apart, even, few}
  pub linked : Linked fs registers s.regs
  pub gp : s.regs 28 ≡ data_middle

-- an address in the stack
pub open_stack : (total a : ℕ) → a % 4 ≡ 0 → stack_base ≤ a → a < stack_end → is_open Word (is_mapped total) a ≡ true
open_stack total a aligned low high = grind (arith, nat_tests)

-- an element of data
pub element_aligned : (w : Width) (start i : ℕ) → start % 4 ≡ 0 → is_aligned w (address_of_place (element_place w start i)) ≡ true
element_aligned Word start i even = grind (arith, nat_tests)
element_aligned Byte start i even = refl

pub open_data : (w : Width) (total p : ℕ) → is_aligned w (address_of_place p) ≡ true → p < total → is_open w (is_mapped total) (address_of_place p) ≡ true
open_data w total p aligned lt = grind (arith, nat_tests)
