-- What pseudo-registers are known to hold, and what operands mean in a state.
use Rattle.std.proofs.Common.{◌≡◌, ◌≢◌, ℕ, ◌+◌, ◌*◌, ◌^◌, ◌<◌, ◌≤◌, Bool, true, false, List, [], ◌∷◌, ◌++◌, length, length-append, Option, Some, None, refl}
use Rattle.std.proofs.Common.{sym, ap, ◌∙◌, arith, eqb-true, nat_eq}
use Rattle.std.specs.Prelude.{not, slice_get}
use Rattle.std.proofs.lemmas.Bool.{cond_both}
use Rattle.std.proofs.lemmas.Bool.Decides.{nat_tests}
use Rattle.std.proofs.lemmas.Option.{none-some}
use Rattle.words.specs.declared.width.Width.{Width}
use Rattle.words.specs.declared.width.Width.TheVariants as widths
use Rattle.runs.specs.Stores.{Places, places_with}
use Rattle.mips_isa.specs.declared.inst.Plain.{Plain}
use Rattle.mips_isa.specs.States.{State, AreApart, read}
use Rattle.mips_isa.specs.Starting.{stack_base, stack_end}
use Rattle.mips_isa.specs.declared.inst.PairTest.TheVariants.{Equal, NotEqual}
use Rattle.mips_isa.specs.Controls.{pair_passes, zero_passes}
use Rattle.mblock.specs.declared.limits.TheConstants.{UNIT_BYTES}
use Rattle.mips_homes.specs.HomedRun.{is_callee_saved, read_home}
use Rattle.mips_homes.specs.declared.homed.Home.{Home}
use Rattle.mips_homes.specs.declared.homed.Frame.{Frame}
use Rattle.mips_homes.specs.declared.homed.Home.TheVariants.{Reg, Slot, Copied}
use Rattle.mips_emit.specs.declared.location.Source.{Source}
use Rattle.mips_emit.specs.declared.location.Source.TheVariants.{Zero, Word, InRegister, InSlot}
use Rattle.mips_emit.specs.declared.comparison.Form.{Form}
use Rattle.mips_emit.specs.declared.comparison.Form.TheVariants.{Known, OnPair, OnLeft, OnRight, ByResult, ByOpposite, InResult}
use Rattle.mips_emit.specs.declared.comparison.Comparison.{Comparison}
use Rattle.mips_emit.specs.declared.facts.Kept.{Kept}
use Rattle.mips_emit.specs.declared.facts.Last.{Last}
use Rattle.rtl.specs.declared.block.RGlobal.{RGlobal}
use Rattle.mips_emit.specs.Frames.{AreFrameHomes, IsFrame, IsReachable}
use Rattle.mips_emit.specs.Comparisons.{no_last, is_result}
use Rattle.mips_homes.specs.Homes.{cell}
use Rattle.mips_emit.specs.Locations.{Facts, known_in, no_facts, kept_past, FitsPlace, inner_of}
use Rattle.words.specs.Words.{wrap}
use Rattle.mips_emit.specs.Elements.{width_bytes, width_of, base_word, fits_offset, base_index, address_of_place}
use Rattle.mips_emit.specs.declared.offset.Offset.{Offset}
use Rattle.mips_emit.specs.Offsets.{no_offset, past, offset_past, offset_in}
use Rattle.mips_emit.specs.Code.{nop, operand_register, bring}
use Rattle.mips_emit.proofs.Runs.{RunsTo}
use Rattle.mips_emit.proofs.View.{word_at, read_other}

-- words that pseudo-registers hold
pub record IsKnown (known : Places) (hs : List Home) (registers slots : Places) : Type 0 where
  pub by : (x w : ℕ) → known x ≡ Some w → read_home hs registers slots x ≡ Some w

pub nothing_known : (hs : List Home) (registers slots : Places) → IsKnown (known_in no_facts) hs registers slots
nothing_known hs registers slots = record { by = λ x w e. absurd (none-some w e) }

-- ---- words that are yet to be put into registers

-- a register that has a word to come isn't shown
abbrev pub hidden : Option ℕ → Option ℕ → Option ℕ
hidden None o = o
hidden (Some w) o = None

abbrev pub hide : (deferred registers : Places) → Places
hide deferred registers = λ q. hidden (deferred q) (registers q)

-- they are what the registers of the run over homes hold, and none outlives a block
pub record AreDeferred (deferred registers : Places) : Type 0 where
  pub caller_saved : (q w : ℕ) → deferred q ≡ Some w → is_callee_saved q ≡ false
  pub holds : (q w : ℕ) → deferred q ≡ Some w → registers q ≡ Some w
  pub below : (q w : ℕ) → deferred q ≡ Some w → w < 2 ^ 32

-- register r is written, or has a word to come
pub defers : {deferred registers : Places} (r : ℕ) {p o : Option ℕ} → ((w : ℕ) → p ≡ Some w → (is_callee_saved r ≡ false) × (o ≡ Some w) × (w < 2 ^ 32))
    → AreDeferred deferred registers → AreDeferred (places_with deferred r p) (places_with registers r o)
defers r told is = record {
  caller_saved = λ q w e. grind (arith, nat_tests, is.caller_saved, told w);
  holds = λ q w e. grind (arith, nat_tests, is.holds, told w);
  below = λ q w e. grind (arith, nat_tests, is.below, told w);
}

pub none_deferred : (registers : Places) → AreDeferred (λ q. None) registers
none_deferred registers = record {
  caller_saved = λ q w e. absurd (none-some w e);
  holds = λ q w e. absurd (none-some w e);
  below = λ q w e. absurd (none-some w e);
}

-- a pseudo-register is written
pub known_register : {known : Places} {hs : List Home} {count : ℕ} {registers slots : Places} (x : ℕ) {r v : ℕ} {o : Option ℕ} → AreFrameHomes hs count
    → slice_get hs x ≡ Some (Reg r) → ((w : ℕ) → o ≡ Some w → w ≡ v) → IsKnown known hs registers slots
    → IsKnown (places_with known x o) hs (places_with registers r (Some v)) slots
known_register x ok there said k = record { by = λ y w e. grind (arith, nat_tests, said, k.by y w, ok.apart) }

pub known_slot : {known : Places} {hs : List Home} {count : ℕ} {registers slots : Places} (x : ℕ) {k v : ℕ} {o : Option ℕ} {h : Home} → AreFrameHomes hs count
    → slice_get hs x ≡ Some h → cell h ≡ Slot k → ((w : ℕ) → o ≡ Some w → w ≡ v) → IsKnown known hs registers slots
    → IsKnown (places_with known x o) hs registers (places_with slots k (Some v))
known_slot x ok there in_slot said is = record { by = λ y w e. grind (arith, nat_tests, said, is.by y w, ok.apart) }

-- the word of a pseudo-register is in its inner temporary
pub record IsFresh (fresh : Option ℕ) (hs : List Home) (registers slots : Places) (s : State) : Type 0 where
  pub by : (x w : ℕ) → fresh ≡ Some x → read_home hs registers slots x ≡ Some w → s.regs (inner_of (slice_get hs x)) ≡ w

pub none_fresh : (hs : List Home) (registers slots : Places) (s : State) → IsFresh None hs registers slots s
none_fresh hs registers slots s = record { by = λ x w e. absurd (none-some x e) }

-- whether the branch for a comparison is taken
abbrev pub passes : Form → Source → Source → State → Bool
passes (Known b) x y s = b
passes (OnPair test) x y s = pair_passes test (read 0 s.regs (operand_register 1 x)) (read 0 s.regs (operand_register 3 y))
passes (OnLeft test) x y s = zero_passes test (read 0 s.regs (operand_register 3 x))
passes (OnRight test) x y s = zero_passes test (read 0 s.regs (operand_register 3 y))
passes ByResult x y s = pair_passes NotEqual (read 0 s.regs 3) (read 0 s.regs 0)
passes ByOpposite x y s = pair_passes Equal (read 0 s.regs 3) (read 0 s.regs 0)
passes InResult x y s = pair_passes NotEqual (read 0 s.regs 2) (read 0 s.regs 0)

-- what an exit can use of the last instruction
pub record IsLast (last : Last) (hs : List Home) (registers slots : Places) (s : State) : Type 0 where
  pub fresh : IsFresh last.fresh hs registers slots s
  pub comparison : (m : Comparison) (v : ℕ) → last.comparison ≡ Some m → read_home hs registers slots m.result ≡ Some v
      → passes m.form m.left.source m.right.source s ≡ not (nat_eq v 0)
  pub result : (m : Comparison) (v : ℕ) → last.comparison ≡ Some m → is_result m.form ≡ true → read_home hs registers slots m.result ≡ Some v → s.regs 2 ≡ v

pub none_last : (hs : List Home) (registers slots : Places) (s : State) → IsLast no_last hs registers slots s
none_last hs registers slots s = record { fresh = none_fresh hs registers slots s; comparison = λ m v e. absurd (none-some m e); result = λ m v e. absurd (none-some m e) }

-- a word of the stack shares no byte with an element of data
pub stack_apart : (u : Width) (a p total : ℕ) → stack_base ≤ a → a < stack_end → p + width_bytes u ≤ total → total ≤ UNIT_BYTES
    → AreApart widths.Word a u (address_of_place p)
stack_apart widths.Word a p total low high inside few = omega arith
stack_apart widths.Byte a p total low high inside few = omega arith

-- what an operand means in a state, in which the frame has so many slots
abbrev pub Denotes : ℕ → State → Source → ℕ → Type 0
Denotes count s Zero v = v ≡ 0
Denotes count s (Word w) v = (w ≡ v) × (w < 2 ^ 32)
Denotes count s (InRegister r) v = read 0 s.regs r ≡ v
Denotes count s (InSlot k) v = (k < count) × (word_at s (s.regs 29 + 4 * k) ≡ v)

-- an operand that is in no register but one of homes and copies
abbrev pub IsAway : Source → Type 0
IsAway (InRegister r) = (4 ≤ r) × (r < 28)
IsAway _ = Unit {0}

pub operand_register_kept : (x : Source) (t u : ℕ) (f f' : ℕ → ℕ) → IsAway x → t ≢ u → u < 4 → ((r : ℕ) → r ≢ u → f' r ≡ f r) → read 0 f' (operand_register t x) ≡ read 0 f (operand_register t x)
operand_register_kept Zero t u f f' away ne low same = refl
operand_register_kept (InRegister r) t u f f' away ne low same = read_other f f' r (λ _. same r (omega (arith, away.0, low)))
operand_register_kept _ t u f f' away ne low same = read_other f f' t (λ _. same t ne)

pub longer : (a b : List Plain) → 1 ≤ length a → 1 ≤ length (a ++ b)
longer a b h = omega (arith, length-append a b)

pub longer_behind : (a b : List Plain) → 1 ≤ length b → 1 ≤ length (a ++ b)
longer_behind a b h = omega (arith, length-append a b)

pub bring_some : (t : ℕ) (x : Source) → 1 ≤ length (bring t x)
bring_some t (Word w) = grind arith
bring_some t (InRegister r) = omega arith
bring_some t _ = omega arith

-- an operand that isn't in register t, and what it means after a write of that
abbrev pub IsApart : ℕ → Source → Type 0
IsApart t (InRegister r) = r ≢ t
IsApart t _ = Unit {0}

pub denotes_kept : (count t v : ℕ) (x : Source) (s : State) (f : ℕ → ℕ) → t ≢ 29 → IsApart t x → ((q : ℕ) → q ≢ t → f q ≡ s.regs q)
    → Denotes count s x v → Denotes count (record s { regs = f }) x v
denotes_kept count t v (InRegister r) s f ne apart same d = read_other s.regs f r (λ _. same r apart) ∙ d
denotes_kept count t v (InSlot k) s f ne apart same d = (d.0, ap (λ p. word_at s (p + 4 * k)) (same 29 (λ e. ne (sym e))) ∙ d.1)
denotes_kept count t v _ s f ne apart same d = d

-- a register that isn't the home itself
abbrev pub IsElsewhere : Option Home → ℕ → Type 0
IsElsewhere (Some (Reg r)) q = q ≢ r
IsElsewhere (Some (Copied r k)) q = q ≢ r
IsElsewhere _ q = Unit {0}

-- ---- the base that is kept

-- a register is the sum of another one and a word, both of homes
abbrev pub IsSum : Offset → (ℕ → ℕ) → Type 0
IsSum o f = (4 ≤ o.register) × (o.register < 28) × (4 ≤ o.base) × (o.base < 28) × (f o.register ≡ wrap (f o.base + o.word))

pub record IsOffset (offset : Option Offset) (regs : ℕ → ℕ) : Type 0 where
  pub by : (o : Offset) → offset ≡ Some o → IsSum o regs

-- register 30 is the base of a global's elements at an index
pub record IsBase (gs : List RGlobal) (starts : ℕ → ℕ) (k : Kept) (f : ℕ → ℕ) : Type 0 where
  pub sum : IsSum k.index f
  pub base : f 30 ≡ wrap (width_bytes (width_of gs k.global) * f (base_index (width_of gs k.global) (starts k.global) k.index) + base_word (starts k.global))

pub record IsKept (gs : List RGlobal) (starts : ℕ → ℕ) (kept : Option Kept) (regs : ℕ → ℕ) : Type 0 where
  pub by : (k : Kept) → kept ≡ Some k → IsBase gs starts k regs

-- what registers hold by what is known
abbrev pub AreBases : (gs : List RGlobal) (starts : ℕ → ℕ) (facts : Facts) (regs : ℕ → ℕ) → Type 0
AreBases gs starts facts regs = IsKept gs starts facts.kept regs × IsOffset facts.offset regs

pub no_bases : (gs : List RGlobal) (starts : ℕ → ℕ) (regs : ℕ → ℕ) → IsKept gs starts None regs × IsOffset None regs
no_bases gs starts regs = (record { by = λ k e. absurd (none-some k e) }, record { by = λ o e. absurd (none-some o e) })

-- it and the registers of homes are as they were, but for one that is written
pub record Keeps (l : Option Home) (f f' : ℕ → ℕ) : Type 0 where
  pub base : f' 30 ≡ f 30
  pub others : (q : ℕ) → 4 ≤ q → IsElsewhere l q → f' q ≡ f q

-- what a write leaves in a register
abbrev pub Holds : Option Home → (ℕ → ℕ) → ℕ → Type 0
Holds (Some (Reg r)) f v = f r ≡ v
Holds _ f v = Unit {0}

-- a base is made from one register or the other
pub of_index : (P : ℕ → Type 0) (w : Width) (start : ℕ) (o : Offset) → P o.register → P o.base → P (base_index w start o)
of_index P w start o p q = cond_both (fits_offset w start o.word) o.base o.register P (λ _. q) (λ _. p)

-- what is known of registers that are as they were
base_as : {gs : List RGlobal} {starts : ℕ → ℕ} {f f' : ℕ → ℕ} (k : Kept) → f' 30 ≡ f 30 → f' (k.index).register ≡ f (k.index).register
    → f' (k.index).base ≡ f (k.index).base → IsBase gs starts k f → IsBase gs starts k f'
base_as {gs} {starts} {f} {f'} k same register base h = record {
  sum = rw (register, base) h.sum;
  base = rw (same, of_index (λ q. f' q ≡ f q) (width_of gs k.global) (starts k.global) k.index register base) h.base;
}

pub sum_same : {f f' : ℕ → ℕ} (o : Offset) → ((q : ℕ) → 4 ≤ q → q ≢ 30 → f' q ≡ f q) → IsSum o f → IsSum o f'
sum_same o same h = rw (same o.register h.0 (omega (arith, h.1)), same o.base h.2 (omega (arith, h.3))) h

pub kept_same : {gs : List RGlobal} {starts : ℕ → ℕ} {kept : Option Kept} {f f' : ℕ → ℕ} → ((q : ℕ) → 4 ≤ q → f' q ≡ f q) → IsKept gs starts kept f
    → IsKept gs starts kept f'
kept_same same h = record {
  by = λ k e. let is = h.by k e in base_as k (same 30 (omega arith)) (same (k.index).register is.sum.0) (same (k.index).base is.sum.2) is;
}

pub offset_same : {offset : Option Offset} {f f' : ℕ → ℕ} → ((q : ℕ) → 4 ≤ q → q ≢ 30 → f' q ≡ f q) → IsOffset offset f → IsOffset offset f'
offset_same same h = record { by = λ o e. sum_same o same (h.by o e) }

-- what is known by an offset past a write was known, and the write is elsewhere
past_some : {A : Type 0} (offset : A → Offset) (l : Option Home) (o : Option A) (a : A) → past offset l o ≡ Some a
    → (o ≡ Some a) × IsElsewhere l (offset a).register × IsElsewhere l (offset a).base
past_some offset l None a e = absurd (none-some a e)
past_some offset (Some (Reg r)) (Some b) a e = grind (arith, nat_tests)
past_some offset (Some (Copied r j)) (Some b) a e = grind (arith, nat_tests)
past_some offset _ (Some b) a e = (e, tt, tt)

module _ {l : Option Home} {f f' : ℕ → ℕ} (same : Keeps l f f') where
  pub offset_written : {offset : Option Offset} → IsOffset offset f → IsOffset (offset_past l offset) f'
  offset_written {offset} h = record {
    by = λ o e. let was = past_some (λ o. o) l offset o e in let is = h.by o was.0 in
        rw (same.others o.register is.0 was.1, same.others o.base is.2 was.2) is;
  }

  pub bases_written : {gs : List RGlobal} {starts : ℕ → ℕ} {kept : Option Kept} {offset : Option Offset} → IsKept gs starts kept f × IsOffset offset f
      → IsKept gs starts (kept_past l kept) f' × IsOffset (offset_past l offset) f'
  bases_written {kept} h = (
    record {
      by = λ k e. let was = past_some (λ k. k.index) l kept k e in let is = h.0.by k was.0 in
          base_as k same.base (same.others (k.index).register is.sum.0 was.1) (same.others (k.index).base is.sum.2 was.2) is;
    },
    offset_written h.1,
  )

-- what is known of a register
abbrev pub IsIndex : Offset → ℕ → (ℕ → ℕ) → Type 0
IsIndex o t f = (o.register ≡ t) × IsSum o f

pub index_is : (offset : Option Offset) (t : ℕ) (f : ℕ → ℕ) → 4 ≤ t → t < 28 → f t < 2 ^ 32 → IsOffset offset f → IsIndex (offset_in offset t) t f
index_is None t f low high below h = (refl, omega arith)
index_is (Some o) t f low high below h = cond_both (nat_eq o.register t) o (no_offset t) (λ o. IsIndex o t f)
    (λ e. (eqb-true o.register t e, h.by o refl)) (λ _. (refl, omega arith))

-- instructions that end in a write of register d, from a state m that they have reached but for it
pub record Ends (is : List Plain) (s m : State) (d v : ℕ) : Type 0 where
  pub regs : ℕ → ℕ
  pub runs : RunsTo is s (record m { regs = regs })
  pub here : regs d ≡ v
  pub others : (r : ℕ) → r ≢ d → regs r ≡ m.regs r
  pub below : v < 2 ^ 32

-- a nop
pub runs_nop : (s : State) → RunsTo (nop ∷ []) s s
runs_nop s = record { ends = refl }

pub frame_homes : (most : ℕ) (f : Frame) → IsFrame most f → AreFrameHomes f.homes.items f.slots
frame_homes most f ok = ok.homes

-- homes are within reach of the stack pointer
pub place_fits : (f : Frame) → IsReachable f → (x : ℕ) → FitsPlace (slice_get f.homes.items x)
place_fits f ok x = by (slice_get f.homes.items x) refl
  where
    by : (o : Option Home) → slice_get f.homes.items x ≡ o → FitsPlace o
    by None e = tt
    by (Some (Reg r)) e = tt
    by (Some h) e = let lt = (ok.homes).by x h e in omega (arith, ok.fits, lt)
