-- Registers are saved in a frame and come back; arguments and parameters; what a prologue and an epilogue do.
use Rattle.std.proofs.Common.{◌≡◌, ◌≢◌, ℕ, zero, suc, ◌+◌, ◌*◌, ◌%◌, ◌^◌, ◌<◌, ◌≤◌, Bool, true, false, List, [], ◌∷◌, length, Some}
use Rattle.std.proofs.Common.{refl, sym, ap, ◌∙◌, arith, nat_eq, true≢false, pos, negsuc, ◌-◌, ◌⊎◌, inl, inr, ◌++◌, map, None, eqb-true, ℤ}
use Rattle.std.specs.Prelude.{slice_get, ◌||◌, if◌then◌else◌}
use Rattle.std.proofs.lemmas.Bool.{eqb-false, or_parts, cond_both}
use Rattle.std.proofs.lemmas.Bool.Decides.{nat_tests}
use Rattle.std.proofs.lemmas.Option.{same_Some, none-some, slice_get_within}
use Rattle.words.specs.declared.width.Width.{Width}
use Rattle.words.specs.declared.width.Width.TheVariants.{Word}
use Rattle.runs.specs.Stores.{Places, Arrays, chain, unset_places}
use Rattle.mips_isa.specs.States.{State, IsWords, AreApart, is_open, read, put}
use Rattle.mips_isa.specs.Starting.{stack_base, stack_end, is_mapped}
use Rattle.rtl.specs.declared.block.RGlobal.{RGlobal}
use Rattle.mips_homes.specs.HomedRun.{cells, Run, Failed, read_home, read_homes, write_homes, is_in, Activation, is_callee_saved}
use Rattle.mips_homes.specs.HomedRun.{registers_at_entry, registers_at_return}
use Rattle.mips_homes.specs.declared.homed.Home.{Home}
use Rattle.mips_emit.specs.declared.location.Source.TheVariants.{Word}
use Rattle.mips_emit.specs.Frames.{AreFrameHomes, HaveNoCopies, link_words, IsFrame}
use Rattle.mips_emit.specs.Locations.{Facts, known_in, operand}
use Rattle.mips_emit.specs.Code.{arguments_code}
use Rattle.mips_emit.proofs.Runs.{RunsTo, runs_none, runs_then}
use Rattle.mips_emit.proofs.View.{shown_at, word_at, set, set_word, shown_other, word_here, set_words, set_at_words, word_below, put_here}
use Rattle.mips_emit.proofs.View.{put_other, read_register, loads_word, stores_word, sum_value, word_of_offset}
use Rattle.mips_emit.proofs.Stands.{Stored, with_slots, Stands, open_stack, stack_same, stack_top, Linked}
use Rattle.mips_emit.proofs.Operands.{hide, AreDeferred, IsKnown, Denotes, denotes_kept, stack_apart}
use Rattle.runs.proofs.Words.{chain-some}
use Rattle.mips_emit.proofs.Homes.{operand_means, caller_saved_kept, carries, arrives}
use Rattle.mips_select.specs.declared.prologue.Direction.TheVariants.{Save, Restore}
use Rattle.mips_select.specs.Code.{frame_words, parameters_code, frame_bytes, frame_link, link_offset, stack_step, epilogue}
use Rattle.mips_select.specs.Selected.{AreInOrder, AreClear}
use Rattle.words.specs.declared.operator.Operator.TheVariants.{Addu}
use Rattle.words.specs.Words.{wrap}
use Rattle.words.specs.Operators.{op_value}
use Rattle.mips_isa.specs.declared.inst.ImmOp.TheVariants.{Addiu}
use Rattle.mips_isa.specs.declared.inst.Plain.{Plain}
use Rattle.mips_isa.specs.declared.inst.Plain.TheVariants.{Imm}
use Rattle.mips_isa.specs.Actions.{action_of}
use Rattle.mblock.proofs.StateWords.{run_words}
use Rattle.mips_homes.specs.declared.homed.Frame.{Frame}
use Rattle.mips_homes.proofs.Chosen.{in_at}
use Rattle.mips_emit.specs.declared.limits.TheConstants.{FRAME_BYTES}
use Rattle.mips_emit.specs.Elements.{width_of, place_in, address_of_place}
use Rattle.mips_select.specs.declared.prologue.Direction.{Direction}

-- so many bytes of the stack, from the stack pointer on
pub record InStack (total n : ℕ) (s : State) : Type 0 where
  pub mapped : s.mapped ≡ is_mapped total
  pub words : IsWords s
  pub aligned : s.regs 29 % 4 ≡ 0
  pub low : stack_base ≤ s.regs 29
  pub high : s.regs 29 + n ≤ stack_end

-- registers that are saved
abbrev pub AreKept : List ℕ → Type 0
AreKept rs = (j r : ℕ) → slice_get rs j ≡ Some r → (0 < r) × (r < 32) × (r ≢ 29)

pub record Saved (at : ℕ) (rs : List ℕ) (s : State) : Type 0 where
  pub memory : ℕ → ℕ
  pub runs : RunsTo (frame_words Save at rs) s (record s { memory = memory })
  pub words : IsWords (record s { memory = memory })
  pub here : (j r : ℕ) → slice_get rs j ≡ Some r → word_at (record s { memory = memory }) (s.regs 29 + at + 4 * j) ≡ s.regs r
  pub others : (u : Width) (b : ℕ) → ((j : ℕ) → j < length rs → AreApart Word (s.regs 29 + at + 4 * j) u b)
      → shown_at u (record s { memory = memory }) b ≡ shown_at u s b

pub record Restored (at : ℕ) (rs : List ℕ) (s : State) : Type 0 where
  pub regs : ℕ → ℕ
  pub runs : RunsTo (frame_words Restore at rs) s (record s { regs = regs })
  pub words : IsWords (record s { regs = regs })
  pub others : (q : ℕ) → is_in rs q ≡ false → regs q ≡ s.regs q
  pub inside : (q v : ℕ) → is_in rs q ≡ true → ((j : ℕ) → slice_get rs j ≡ Some q → word_at s (s.regs 29 + at + 4 * j) ≡ v) → regs q ≡ v

module _ {total n : ℕ} where
  stack_open : {s : State} → InStack total n s → (o : ℕ) → o % 4 ≡ 0 → o < n → (s.regs 29 + o < 2 ^ 32) × (is_open Word s.mapped (s.regs 29 + o) ≡ true)
  stack_open {s} h o o4 lt = grind (arith, open_stack total (s.regs 29 + o))

  -- it stays so where neither the stack pointer nor what is mapped changes
  pub still_in : {s t : State} → InStack total n s → t.regs 29 ≡ s.regs 29 → t.mapped ≡ s.mapped → IsWords t → InStack total n t
  still_in h pointer mapped words = grind arith

  pub saves_run : (at : ℕ) (rs : List ℕ) {s : State} → InStack total n s → AreKept rs → at % 4 ≡ 0 → at + 4 * length rs ≤ n → Saved at rs s
  saves_run at [] {s} h kept at4 le = record {
    memory = s.memory;
    runs = runs_none s;
    words = h.words;
    here = λ j r there. absurd (none-some r there);
    others = λ u b apart. refl;
  }
  saves_run at (r ∷ rs) {s} h kept at4 le =
      let a = s.regs 29 + at in
      let ok = stack_open h at at4 (omega (arith, le)) in
      let h1 : InStack total n (set_word s a (s.regs r)) = still_in h refl refl (set_at_words Word s a (s.regs r) h.words) in
      let rest = saves_run (at + 4) rs h1 (λ j q there. kept (suc j) q there) (omega (arith, at4)) (omega (arith, le)) in
      record {
        memory = rest.memory;
        runs = runs_then (rw (read_register s.regs r (kept 0 r refl).0) at (stores_word s r at ok.0 ok.1)) rest.runs;
        words = rest.words;
        here = λ j q there. here rest ok.1 j q there;
        others = λ u b apart. rest.others u b (λ j lt. rw (next j) at (apart (suc j) (omega (arith, lt))))
            ∙ shown_other Word u s a (s.regs r) b (rw first at (apart 0 (omega arith)));
      }
    where
      first : s.regs 29 + at + 4 * 0 ≡ s.regs 29 + at
      first = omega arith

      next : (j : ℕ) → s.regs 29 + at + 4 * suc j ≡ s.regs 29 + (at + 4) + 4 * j
      next j = omega arith

      here : (rest : Saved (at + 4) rs (set_word s (s.regs 29 + at) (s.regs r))) → is_open Word s.mapped (s.regs 29 + at) ≡ true
          → (j q : ℕ) → slice_get (r ∷ rs) j ≡ Some q → word_at (record s { memory = rest.memory }) (s.regs 29 + at + 4 * j) ≡ s.regs q
      here rest ok zero q there =
          grind (arith, rest.others Word (s.regs 29 + at) (λ j lt. omega arith), word_here s (s.regs 29 + at) (s.regs r) ok ((h.words).regs r))
      here rest ok (suc j) q there = rw (next j) (rest.here j q there)

  pub restores_run : (at : ℕ) (rs : List ℕ) {s : State} → InStack total n s → AreKept rs → at % 4 ≡ 0 → at + 4 * length rs ≤ n → Restored at rs s
  restores_run at [] {s} h kept at4 le = record {
    regs = s.regs;
    runs = runs_none s;
    words = h.words;
    others = λ q e. refl;
    inside = λ q v e. absurd (true≢false (sym e));
  }
  restores_run at (r ∷ rs) {s} h kept at4 le =
      let ok = stack_open h at at4 (omega (arith, le)) in
      let h1 : InStack total n (set s r v) = still_in h pointer refl (set_words s r v h.words (word_below s (s.regs 29 + at) h.words)) in
      let rest = restores_run (at + 4) rs h1 (λ j q there. kept (suc j) q there) (omega (arith, at4)) (omega (arith, le)) in
      record {
        regs = rest.regs;
        runs = runs_then (loads_word s r at ok.0 ok.1) rest.runs;
        words = rest.words;
        others = λ q e. let both = or_parts (nat_eq q r) (is_in rs q) e in rest.others q both.1 ∙ put_other s.regs r v q (eqb-false q r both.0);
        inside = λ q w e f. inside rest q w (is_in rs q) refl e f;
      }
    where
      v : ℕ
      v = word_at s (s.regs 29 + at)

      pointer : (set s r (word_at s (s.regs 29 + at))).regs 29 ≡ s.regs 29
      pointer = put_other s.regs r v 29 (λ e. (kept 0 r refl).2 (sym e))

      inside : (rest : Restored (at + 4) rs (set s r (word_at s (s.regs 29 + at)))) (q w : ℕ) (c : Bool) → is_in rs q ≡ c
          → (nat_eq q r || is_in rs q) ≡ true → ((j : ℕ) → slice_get (r ∷ rs) j ≡ Some q → word_at s (s.regs 29 + at + 4 * j) ≡ w) → rest.regs q ≡ w
      inside rest q w true is e f = rest.inside q w is (λ j there.
          (let next : (set s r v).regs 29 + (at + 4) + 4 * j ≡ s.regs 29 + at + 4 * suc j = omega (arith, pointer) in ap (word_at s) next) ∙ f (suc j) there)
      inside rest q w false is e f =
          let is_kept = kept 0 r refl in
          grind (arith, nat_tests, rest.others q is, put_here s.regs r v (record { low = is_kept.0; high = is_kept.1 }), f 0)

-- arguments as operands, before the first is moved
abbrev pub AllDenote : ℕ → State → List Home → Facts → (xs vs : List ℕ) → Type 0
AllDenote count s hs facts [] [] = Unit {0}
AllDenote count s hs facts (x ∷ xs) (v ∷ vs) = Denotes count s (operand (slice_get hs) facts x) v × AllDenote count s hs facts xs vs
AllDenote count s hs facts _ _ = ⊥

-- the arguments that are left, after a register below theirs was written
still_denote : (count : ℕ) (s : State) {t : ℕ} {f : ℕ → ℕ} (hs : List Home) (facts : Facts) (t' : ℕ) (xs vs : List ℕ) → t < t' → t < 8
    → AreInOrder (slice_get hs) t' xs → ((q : ℕ) → q ≢ t → f q ≡ s.regs q) → AllDenote count s hs facts xs vs
    → AllDenote count (record s { regs = f }) hs facts xs vs
still_denote count s {t} {f} hs facts t' (x ∷ xs) (w ∷ ws) lt few order same d = (
  denotes_kept count t w (operand (slice_get hs) facts x) s f (omega arith) (grind (arith, nat_tests)) same d.0,
  still_denote count s hs facts (suc t') xs ws (omega (arith, lt)) few order.1 same d.1,
)
still_denote count s hs facts t' _ _ lt few order same d = d

module _ {most total : ℕ} {gs : List RGlobal} {starts : ℕ → ℕ} {g : Arrays} {fs : List Stored} where
  module _ {registers : Places} {top : Stored} (facts : Facts) where
    pub all_denote : {s : State} → Stands most total gs starts (hide facts.deferred registers) g (top ∷ fs) s → AreFrameHomes top.homes top.count
        → IsKnown (known_in facts) top.homes registers top.slots → AreDeferred facts.deferred registers → (xs vs : List ℕ)
        → read_homes top.homes registers top.slots xs ≡ Some vs → AllDenote top.count s top.homes facts xs vs
    all_denote h ok k lz [] [] e = tt
    all_denote h ok k lz [] (v ∷ vs) e = cc
    all_denote h ok k lz (x ∷ xs) vs e =
        let v = chain-some (read_home top.homes registers top.slots x) (λ v. chain (read_homes top.homes registers top.slots xs) (λ vs. Some (v ∷ vs))) vs e in
        let ws = chain-some (read_homes top.homes registers top.slots xs) (λ (vs : List ℕ). Some (v.0 ∷ vs)) vs v.2 in
        rw (← same_Some _ vs ws.2) ((operand_means h lz x v.0 ok k v.1).0, all_denote h ok k lz xs ws.0 ws.1)

    module _ {s : State} (h : Stands most total gs starts registers g (top ∷ fs) s) where
      pub record Arguments (t : ℕ) (xs vs : List ℕ) : Type 0 where
        pub regs : ℕ → ℕ
        pub runs : RunsTo (arguments_code (slice_get top.homes) facts t xs) s (record s { regs = regs })
        pub here : (j v : ℕ) → slice_get vs j ≡ Some v → regs (t + j) ≡ v
        pub others : (r : ℕ) → r < t → regs r ≡ s.regs r
        pub stands : Stands most total gs starts registers g (top ∷ fs) (record s { regs = regs })

    pub arguments : ((q w : ℕ) → registers q ≡ Some w → 8 ≤ q) → (t : ℕ) (xs vs : List ℕ) {s : State} (h : Stands most total gs starts registers g (top ∷ fs) s)
        → 0 < t → t + length vs ≤ 8 → AreInOrder (slice_get top.homes) t xs → AllDenote top.count s top.homes facts xs vs → Arguments h t xs vs
    arguments above t [] [] {s} h low high order d = record {
      regs = s.regs;
      runs = runs_none s;
      here = λ j v there. absurd (none-some v there);
      others = λ r lt. refl;
      stands = h;
    }
    arguments above t (x ∷ xs) (v ∷ vs) {s} h low high order d =
        let one = carries h t v (operand (slice_get top.homes) facts x) (record { low = low; high = omega (arith, high) }) d.0 in
        let left = still_denote top.count s top.homes facts (suc t) xs vs (omega arith) (omega (arith, high)) order.1 one.others d.1 in
        let more = arguments above (suc t) xs vs (caller_saved_kept h above (omega (arith, high)) one) (omega arith) (omega (arith, high)) order.1 left in
        record {
          regs = more.regs;
          runs = runs_then one.runs more.runs;
          here = λ j w at. by one.here more j w at;
          others = λ r lt. more.others r (omega (arith, lt)) ∙ one.others r (omega (arith, lt));
          stands = more.stands;
        }
      where
        by : {f : ℕ → ℕ} {h : Stands most total gs starts registers g (top ∷ fs) (record s { regs = f })} → f t ≡ v → (more : Arguments h (suc t) xs vs)
            → (j w : ℕ) → slice_get (v ∷ vs) j ≡ Some w → more.regs (t + j) ≡ w
        by here more j w at = grind (arith, more.others t, more.here)
    arguments above t _ _ h low high order d = absurd d

  module _ (P : Run → Type 0) (out : List ℕ) (failed : P (Failed out)) where
    pub parameters : {registers : Places} {top : Stored} {s : State} → Stands most total gs starts registers g (top ∷ fs) s → AreFrameHomes top.homes top.count
        → (vs : List ℕ) (t x : ℕ) (go : Places → Places → Run) → 3 < t → t + length vs ≤ 8 → AreClear (slice_get top.homes) t x (length vs)
        → ((j v : ℕ) → slice_get vs j ≡ Some v → s.regs (t + j) ≡ v)
        → ((registers' slots' : Places) (s' : State) → RunsTo (parameters_code (slice_get top.homes) t x (length vs)) s s'
        → Stands most total gs starts registers' g (with_slots top slots' ∷ fs) s' → P (go registers' slots'))
        → P (write_homes (cells top.homes registers top.slots) x vs out go)
    parameters {registers} {top} {s} h ok [] t x go low high clear here f = f registers top.slots s (runs_none s) h
    parameters {top = top} {s = s} h ok (v ∷ vs) t x go low high clear here f =
        let place : t + 0 ≡ t = omega arith in
        let is : s.regs t ≡ v = rw place at (here 0 v refl) in
        arrives h P (λ r s. write_homes (cells top.homes r s) (suc x) vs out go) x v t out
        (omega (arith, low)) is (rw (← is) ((h.words).regs t)) ok failed
        (λ r1 slots1 s1 e1 h1 same.
        parameters h1 ok vs (suc t) (suc x) go (omega (arith, low)) (omega (arith, high)) clear.1
        (λ j w there. (let next : suc t + j ≡ t + suc j = omega arith in let within = slice_get_within vs j w there in
        same.others (suc t + j) (omega (arith, low)) (grind (arith, high, within, clear.0))
        ∙ rw next (here (suc j) w there)))
        (λ r2 slots2 s2 e2 h2. f r2 slots2 s2 (runs_then e1 e2) h2))

-- ---- prologues and epilogues

-- the link, which a function with calls keeps behind the registers that it saves
abbrev links : Bool → List ℕ
links true = []
links false = 31 ∷ []

link_code : (direction : Direction) (leaf : Bool) (f : Frame) → frame_link direction leaf f ≡ frame_words direction (link_offset f) (links leaf)
link_code direction leaf f = grind arith

link_long : (leaf : Bool) → length (links leaf) ≡ link_words leaf
link_long leaf = grind arith

link_first : (leaf : Bool) (j r : ℕ) → slice_get (links leaf) j ≡ Some r → (j ≡ 0) × (r ≡ 31)
link_first leaf j r there = grind arith

link_apart : (leaf : Bool) (q : ℕ) → q ≢ 31 → is_in (links leaf) q ≡ false
link_apart leaf q ne = grind (arith, nat_tests)

link_ok : (leaf : Bool) → AreKept (links leaf)
link_ok leaf j r there = omega (arith, link_first leaf j r there)

abbrev pub stored_frame : Bool → Frame → Places → Places → ℕ → Stored
stored_frame leaf f slots aside link =
    record { leaf = leaf; homes = f.homes.items; count = f.slots; saved = f.saved.items; slots = slots; aside = aside; link = link }

-- the frames of waiting activations, with their links
abbrev pub frames_of : List Activation → List ℕ → List Stored
frames_of (a ∷ rest) (l ∷ ls) = stored_frame false a.frame a.slots a.aside l ∷ frames_of rest ls
frames_of _ _ = []

pub linked_frames : (ws : List Activation) (ls : List ℕ) (registers : Places) (regs : ℕ → ℕ) → Linked (frames_of ws ls) registers regs
linked_frames (a ∷ ws) (l ∷ ls) registers regs = λ leaf. absurd (true≢false (sym leaf))
linked_frames _ _ registers regs = tt

module _ {most : ℕ} {f : Frame} (ok : IsFrame most f) where
  saved_ok : AreKept f.saved.items
  saved_ok j r there = omega (arith, ok.saved j r there)

  -- registers that no function saves
  saved_other : (q : ℕ) → (q < 16) ⊎ (24 ≤ q) → is_in f.saved.items q ≡ false
  saved_other q out = grind (arith, in_at f.saved.items q, ok.saved)

  bytes_fit : (leaf : Bool) → frame_bytes leaf f ≤ most
  bytes_fit leaf = grind (arith, ok.fits)

bytes_aligned : (leaf : Bool) (f : Frame) → frame_bytes leaf f % 4 ≡ 0
bytes_aligned leaf f = grind arith

-- the stack pointer goes down and up
record Shifted (is : List Plain) (s : State) (p : ℕ) : Type 0 where
  regs : ℕ → ℕ
  runs : RunsTo is s (record s { regs = regs })
  pointer : regs 29 ≡ p
  others : (q : ℕ) → q ≢ 29 → regs q ≡ s.regs q

shifted : (s : State) (n p : ℕ) (z : ℤ) → (n ≡ 0 → s.regs 29 ≡ p) → (n ≢ 0 → wrap (s.regs 29 + word_of_offset z) ≡ p)
    → Shifted (if nat_eq n 0 then [] else Imm Addiu 29 29 z ∷ []) s p
shifted s n p z none some = cond_both (nat_eq n 0) [] (Imm Addiu 29 29 z ∷ []) (λ is. Shifted is s p)
    (λ e. record { regs = s.regs; runs = runs_none s; pointer = none (eqb-true n 0 e); others = λ q ne. refl })
    (λ e. let v = op_value Addu (read 0 s.regs 29) (word_of_offset z) in record {
      regs = put s.regs 29 v;
      runs = record { ends = refl };
      pointer = put_here s.regs 29 v (omega arith) ∙ sum_value (s.regs 29) (word_of_offset z) ∙ some (eqb-false n 0 e);
      others = put_other s.regs 29 v;
    })

lowered : (s : State) (n : ℕ) → n ≤ FRAME_BYTES → n ≤ s.regs 29 → s.regs 29 ≤ stack_end → Shifted (stack_step Save n) s (s.regs 29 - n)
lowered s n few le up = shifted s n (s.regs 29 - n) (negsuc (n - 1)) (λ e. omega (arith, e)) (λ some. omega (arith, some, few, le, up))

raised : (s : State) (n : ℕ) → n ≤ FRAME_BYTES → s.regs 29 + n ≤ stack_end → Shifted (stack_step Restore n) s (s.regs 29 + n)
raised s n few up = shifted s n (s.regs 29 + n) (pos n) (λ e. omega (arith, e)) (λ some. omega (arith, few, up))

module _ {most total : ℕ} {gs : List RGlobal} {starts : ℕ → ℕ} (small : most ≤ FRAME_BYTES) (leaf : Bool) {f : Frame} (ok : IsFrame most f)
    {r : Places} {g : Arrays} {fs : List Stored} {s : State} (h : Stands most total gs starts r g fs s) where
  -- what a prologue leaves, before the parameters go to their homes
  pub record Entered (link : ℕ) : Type 0 where
    pub to : State
    pub runs : RunsTo (stack_step Save (frame_bytes leaf f) ++ (frame_words Save (4 * f.slots) f.saved.items ++ frame_link Save leaf f)) s to
    pub same : (q : ℕ) → q < 16 → to.regs q ≡ s.regs q
    pub stands : Stands most total gs starts (registers_at_entry f.saved.items r) g (stored_frame leaf f unset_places r link ∷ fs) to

  pub enters : (link : ℕ) → s.regs 31 ≡ link → (leaf ≡ false → HaveNoCopies f.homes.items) → ((q : ℕ) → is_callee_saved q ≡ false → r q ≡ None)
      → stack_base + most ≤ s.regs 29 → Entered link
  enters link is_link alone passing room =
      let size = frame_bytes leaf f in
      let up = stack_top most (word_at s) (s.regs 29) fs h.stack in
      let fits = bytes_fit ok leaf in
      let low = lowered s size (omega (arith, fits, small)) (omega (arith, fits, room)) up in
      let s1 : State = record s { regs = low.regs } in
      let p = low.regs 29 in
      let down : p + size ≡ s.regs 29 = omega (arith, low.pointer, fits, room) in
      let size4 = bytes_aligned leaf f in
      let in_stack : InStack total size s1 = record {
        mapped = h.mapped;
        words = run_words (map action_of (stack_step Save size)) s s1 h.words (low.runs).ends;
        aligned = omega (arith, down, h.aligned, size4);
        low = omega (arith, down, room, fits);
        high = omega (arith, down, up);
      } in
      let long = link_long leaf in
      let saved = saves_run (4 * f.slots) f.saved.items in_stack (saved_ok ok) (omega arith) (omega (arith, long)) in
      let last = saves_run (link_offset f) (links leaf) (still_in in_stack refl refl saved.words) (link_ok leaf) (omega arith) (omega (arith, long)) in
      let to : State = record s1 { memory = last.memory } in
      let link_same : low.regs 31 ≡ link = low.others 31 (omega arith) ∙ is_link in
      record {
        to = to;
        runs = runs_then low.runs (rw (link_code Save leaf f) (runs_then saved.runs last.runs));
        same = λ q lt. low.others q (omega (arith, lt));
        stands = record {
          words = last.words;
          mapped = h.mapped;
          held = λ q w ql qh at. low.others q (omega (arith, qh)) ∙ h.held q w ql qh (grind arith);
          stack = (
            record {
              slots = λ k w low at. absurd (none-some w at);
              aside = λ j q w there at.
                  let range = ok.saved j q there in
                  let place : p + 4 * (f.slots + j) ≡ p + 4 * f.slots + 4 * j = omega arith in
                  ap (word_at to) place ∙ last.others Word (p + 4 * f.slots + 4 * j) (λ i lt. omega (arith, slice_get_within f.saved.items j q there))
                  ∙ saved.here j q there ∙ low.others q (omega (arith, range))
                  ∙ h.held q w (omega (arith, range)) (omega (arith, range)) at;
              link = λ calls.
                  let place : p + 4 * (f.slots + length f.saved.items) ≡ p + link_offset f + 4 * 0 = omega arith in
                  ap (word_at to) place ∙ last.here 0 31 (rw calls refl) ∙ link_same;
              fits = fits;
              alone = alone;
            },
            rw down (stack_same most (word_at s) (word_at to) (s.regs 29) fs (λ b le. last.others Word b (λ j lt. omega (arith, le, lt, down, long))
                ∙ saved.others Word b (λ j lt. omega (arith, le, lt, down, long))) h.stack),
          );
          room = in_stack.low;
          aligned = in_stack.aligned;
          elements = λ a i w at.
              let inside = h.inside a i w at in
              last.others (width_of gs a) (address_of_place (place_in gs starts a i))
              (λ j lt. stack_apart (width_of gs a) (p + link_offset f + 4 * j) (place_in gs starts a i) total (omega (arith, in_stack.low))
              (omega (arith, lt, long, down, up)) inside h.few)
              ∙ saved.others (width_of gs a) (address_of_place (place_in gs starts a i))
              (λ j lt. stack_apart (width_of gs a) (p + 4 * f.slots + 4 * j) (place_in gs starts a i) total (omega (arith, in_stack.low))
              (omega (arith, lt, long, down, up)) inside h.few)
              ∙ h.elements a i w at;
          places = h.places;
          linked = λ _. record {
            link = link_same;
            range = ((ok.homes).copied).range;
            copied = λ x q k v c at. absurd (none-some v at);
            idle = λ x q k c. grind (arith, passing q (((ok.homes).copied).caller_saved x q k c));
          };
          gp = low.others 28 (omega arith) ∙ h.gp;
        };
      }

module _ {most total : ℕ} {gs : List RGlobal} {starts : ℕ → ℕ} (small : most ≤ FRAME_BYTES) (leaf : Bool) {f : Frame} (ok : IsFrame most f)
    {r slots aside : Places} {g : Arrays} {link : ℕ} {fs : List Stored} {s : State}
    (h : Stands most total gs starts r g (stored_frame leaf f slots aside link ∷ fs) s) where
  -- what an epilogue leaves
  pub record Popped : Type 0 where
    pub to : State
    pub runs : RunsTo (epilogue leaf f) s to
    pub same : (q : ℕ) → q < 16 → to.regs q ≡ s.regs q
    pub link_is : to.regs 31 ≡ link
    pub stands : Stands most total gs starts (registers_at_return f.saved.items aside r) g fs to

  pub leaves_frame : ((registers : Places) (regs : ℕ → ℕ) → Linked fs registers regs) → Popped
  leaves_frame linked =
      let size = frame_bytes leaf f in
      let up = stack_top most (word_at s) (s.regs 29 + size) fs h.stack.1 in
      let in_stack : InStack total size s = record { mapped = h.mapped; words = h.words; aligned = h.aligned; low = h.room; high = up } in
      let long = link_long leaf in
      let back = restores_run (4 * f.slots) f.saved.items in_stack (saved_ok ok) (omega arith) (omega (arith, long)) in
      let pointer0 = back.others 29 (saved_other ok 29 (inr (omega arith))) in
      let last = restores_run (link_offset f) (links leaf) (still_in in_stack pointer0 refl back.words) (link_ok leaf) (omega arith) (omega (arith, long)) in
      let s1 : State = record s { regs = last.regs } in
      let other : (q : ℕ) → (q < 16) ⊎ (24 ≤ q) → q ≢ 31 → last.regs q ≡ s.regs q = λ q out ne.
      last.others q (link_apart leaf q ne) ∙ back.others q (saved_other ok q out) in
      let pointer1 : last.regs 29 ≡ s.regs 29 = other 29 (inr (omega arith)) (omega arith) in
      let fits = bytes_fit ok leaf in
      let lift = raised s1 size (omega (arith, fits, small)) (omega (arith, pointer1, up)) in
      let to : State = record s1 { regs = lift.regs } in
      let pointer : lift.regs 29 ≡ s.regs 29 + size = omega (arith, lift.pointer, pointer1) in
      let size4 = bytes_aligned leaf f in
      record {
        to = to;
        runs = runs_then (rw (link_code Restore leaf f) (runs_then back.runs last.runs)) lift.runs;
        same = λ q lt. lift.others q (omega (arith, lt)) ∙ other q (inl lt) (omega (arith, lt));
        link_is = lift.others 31 (omega arith) ∙ link_back back last leaf refl;
        stands = record {
          words = run_words (map action_of (stack_step Restore size)) s1 to last.words (lift.runs).ends;
          mapped = h.mapped;
          held = λ q w ql qh at. lift.others q (omega (arith, qh)) ∙ last.others q (link_apart leaf q (omega (arith, qh)))
              ∙ held back q w ql qh (is_in f.saved.items q) refl at;
          stack = rw pointer h.stack.1;
          room = omega (arith, pointer, h.room);
          aligned = omega (arith, pointer, h.aligned, size4);
          elements = h.elements;
          places = h.places;
          linked = linked (registers_at_return f.saved.items aside r) lift.regs;
          gp = lift.others 28 (omega arith) ∙ other 28 (inr (omega arith)) (omega arith) ∙ h.gp;
        };
      }
    where
      place : (j : ℕ) → s.regs 29 + 4 * f.slots + 4 * j ≡ s.regs 29 + 4 * (f.slots + j)
      place j = omega arith

      -- the link comes from the frame, or was in register 31 all the time
      link_back : (back : Restored (4 * f.slots) f.saved.items s) (last : Restored (link_offset f) (links leaf) (record s { regs = back.regs })) (b : Bool)
          → leaf ≡ b → last.regs 31 ≡ link
      link_back back last true is =
          last.others 31 (rw is refl) ∙ back.others 31 (saved_other ok 31 (inr (omega arith))) ∙ (h.linked is).link
      link_back back last false is = last.inside 31 link (rw is refl) (λ j there.
          let here : back.regs 29 + link_offset f + 4 * j ≡ s.regs 29 + 4 * (f.slots + length f.saved.items) =
          omega (arith, (link_first leaf j 31 there).0, back.others 29 (saved_other ok 29 (inr (omega arith)))) in
          ap (word_at s) here ∙ (h.stack.0).link is)

      held : (back : Restored (4 * f.slots) f.saved.items s) (q w : ℕ) → 4 ≤ q → q < 28 → (b : Bool) → is_in f.saved.items q ≡ b
          → (if b then aside q else r q) ≡ Some w → back.regs q ≡ w
      held back q w ql qh false e at = back.others q e ∙ h.held q w ql qh at
      held back q w ql qh true e at = back.inside q w e (λ j there. rw place ((h.stack.0).aside j q w there at))
