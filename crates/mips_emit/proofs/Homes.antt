-- Homes are read and written.
use Rattle.std.proofs.Common.{◌≡◌, ◌≢◌, ℕ, ◌+◌, ◌*◌, ◌^◌, ◌<◌, ◌≤◌, Bool, true, false, true≢false, List, [], ◌∷◌, ◌++◌, map, length, Option, Some, None, refl}
use Rattle.std.proofs.Common.{sym, ap, ◌∙◌, arith, eq-eqb, ne_eqb, eqb-true, nat_eq}
use Rattle.std.specs.Prelude.{if◌then◌else◌, slice_get}
use Rattle.std.proofs.lemmas.Bool.{cond_both}
use Rattle.std.proofs.lemmas.Bool.Decides.{nat_tests}
use Rattle.std.proofs.lemmas.Option.{same_Some, none-some}
use Rattle.words.specs.declared.width.Width.TheVariants as widths
use Rattle.runs.specs.Stores.{Places, places_with, Arrays, chain, element_at}
use Rattle.runs.proofs.Words.{chain-some}
use Rattle.mips_isa.specs.declared.inst.Plain.{Plain}
use Rattle.mips_isa.specs.States.{State, IsWords, is_open, read}
use Rattle.mips_isa.specs.Actions.{action_of}
use Rattle.mblock.proofs.StateWords.{run_words}
use Rattle.rtl.specs.declared.block.RGlobal.{RGlobal}
use Rattle.mips_homes.specs.HomedRun.{cells, is_callee_saved, Run, Failed, with_value, in_home, read_home, write_at, write_home}
use Rattle.mips_homes.specs.declared.homed.Home.{Home}
use Rattle.mips_homes.specs.declared.homed.Home.TheVariants.{Reg, Slot, Copied}
use Rattle.mips_emit.specs.declared.location.Source.{Source}
use Rattle.mips_emit.specs.declared.location.Source.TheVariants.{Zero, Word, InRegister, InSlot}
use Rattle.mips_emit.specs.Frames.{IsHome, AreFrameHomes}
use Rattle.std.specs.Option.{option_map_or}
use Rattle.mips_emit.specs.Locations.{in_slot, fresh_source, source, inner_of, deferred_with, deferred_at, word_source}
use Rattle.mips_emit.specs.Elements.{width_of, place_in, address_of_place}
use Rattle.mips_emit.specs.Code.{nop, const_code, store_word_at, fetch, operand_register, bring, stays, carry, into, finish, put_at, arrive}
use Rattle.mips_emit.proofs.Runs.{RunsTo, runs_none, runs_then}
use Rattle.mips_emit.proofs.View.{word_at, shown_at, set_word, shown_other, word_here, word_other, word_below, set_at_words, IsTarget, inner_is, read_register}
use Rattle.mips_emit.proofs.View.{moves, loads_word, stores_word, Sets, set_sets, li_sets}
use Rattle.mips_emit.proofs.Stands.{Stored, size_of, with_slots, stack_same, stack_top, LeafHolds, Linked, linked_kept, Stands, open_stack}
use Rattle.mips_emit.proofs.Operands.{IsKnown, nothing_known, hide, AreDeferred, none_deferred, defers, known_register, known_slot, IsFresh, none_fresh}
use Rattle.mips_emit.proofs.Operands.{stack_apart, Denotes, IsAway, longer, longer_behind, bring_some, Keeps, Holds, Ends, runs_nop}

-- a step that goes wrong where there is no home, and else goes on with what holds of the home
at_home : (P : Run → Type 0) (G : Option Home → Type 0) (o : Option Home) (out : List ℕ) (go : Home → Run) → P (Failed out)
    → ((l : Home) → o ≡ Some l → G (Some l) → P (go l)) → G o → P (with_value o out go)
at_home P G None out go failed f g = failed
at_home P G (Some l) out go failed f g = f l refl g

-- one register is written
words_changed : {s : State} {regs : ℕ → ℕ} (r v : ℕ) → IsWords s → v < 2 ^ 32 → regs r ≡ v → ((q : ℕ) → q ≢ r → regs q ≡ s.regs q)
    → IsWords (record s { regs = regs })
words_changed r v words below is others =
    record { regs = λ q. grind (arith, nat_tests, words.regs q, others q); hi = words.hi; lo = words.lo; memory = words.memory }

module _ {most total : ℕ} {gs : List RGlobal} {starts : ℕ → ℕ} where
  module _ {registers : Places} {g : Arrays} {fs : List Stored} {s : State} (h : Stands most total gs starts registers g fs s) where
    -- registers, HI and LO change, but not 28 and 29
    pub stands_with : {registers' : Places} {f : ℕ → ℕ} {hi lo : ℕ} → IsWords (record s { regs = f; hi = hi; lo = lo }) → Linked fs registers' f
        → f 29 ≡ s.regs 29 → f 28 ≡ s.regs 28 → ((r v : ℕ) → 4 ≤ r → r < 28 → registers' r ≡ Some v → f r ≡ v)
        → Stands most total gs starts registers' g fs (record s { regs = f; hi = hi; lo = lo })
    stands_with words linked pointer middle held = record {
      words = words;
      mapped = h.mapped;
      held = held;
      stack = rw pointer h.stack;
      room = rw pointer h.room;
      aligned = rw pointer h.aligned;
      elements = h.elements;
      places = h.places;
      linked = linked;
      gp = middle ∙ h.gp;
    }

    -- fewer registers are known
    pub fewer_stand : {registers' : Places} → ((q v : ℕ) → registers' q ≡ Some v → registers q ≡ Some v) → Stands most total gs starts registers' g fs s
    fewer_stand some = stands_with h.words (linked_kept fs refl (λ r low high. refl) some h.linked) refl refl (λ r v low high is. h.held r v low high (some r v is))

    -- registers that are no homes change
    pub call_kept : {f : ℕ → ℕ} → IsWords (record s { regs = f }) → Linked fs registers f → ((r : ℕ) → 4 ≤ r → r < 30 → f r ≡ s.regs r)
        → Stands most total gs starts registers g fs (record s { regs = f })
    call_kept words linked same = stands_with words linked (same 29 (omega arith) (omega arith)) (same 28 (omega arith) (omega arith))
        (λ r v low high is. same r low (omega (arith, high)) ∙ h.held r v low high is)

    -- caller-saved registers change where nothing is known of those below 8
    pub caller_saved_kept : {is : List Plain} {t v : ℕ} → ((q w : ℕ) → registers q ≡ Some w → 8 ≤ q) → t < 8 → (c : Sets is s t v)
        → Stands most total gs starts registers g fs (record s { regs = c.regs })
    caller_saved_kept {is} above low c = stands_with (run_words (map action_of is) s (record s { regs = c.regs }) h.words (c.runs).ends)
        (linked_kept fs (c.others 31 (omega (arith, low))) (λ r up high. c.others r (omega (arith, low, up))) (λ q w e. e) h.linked)
        (c.others 29 (omega (arith, low))) (c.others 28 (omega (arith, low)))
        (λ r w ql qh at. (let up = above r w at in c.others r (omega (arith, low, up))) ∙ h.held r w ql qh at)

    pub words_kept : {f : ℕ → ℕ} → IsWords (record s { regs = f }) → ((r : ℕ) → 4 ≤ r → r ≢ 30 → f r ≡ s.regs r)
        → Stands most total gs starts registers g fs (record s { regs = f })
    words_kept words same = call_kept words
        (linked_kept fs (same 31 (omega arith) (omega arith)) (λ r low high. same r (omega (arith, low)) (omega (arith, high))) (λ q w e. e) h.linked)
        (λ r low high. same r low (omega (arith, high)))

    -- the base of elements may change too
    pub run_kept : {is : List Plain} {f : ℕ → ℕ} → RunsTo is s (record s { regs = f }) → ((r : ℕ) → 4 ≤ r → r ≢ 30 → f r ≡ s.regs r)
        → Stands most total gs starts registers g fs (record s { regs = f })
    run_kept {is} {f} e same = words_kept (run_words (map action_of is) s (record s { regs = f }) h.words e.ends) same

    -- a register below 4 is written
    pub sets_kept : {is : List Plain} {t v : ℕ} → t < 4 → (c : Sets is s t v) → Stands most total gs starts registers g fs (record s { regs = c.regs })
    sets_kept lt c = run_kept c.runs (λ r low _. c.others r (omega (arith, low, lt)))

    pub ends_stands : {is : List Plain} {s0 : State} {t v : ℕ} → t < 4 → (e : Ends is s0 s t v) → Stands most total gs starts registers g fs (record s { regs = e.regs })
    ends_stands {t} {v} lt e = words_kept (words_changed t v h.words e.below e.here e.others) (λ r low _. e.others r (omega (arith, low, lt)))

  module _ {registers : Places} {g : Arrays} {top : Stored} {fs : List Stored} {s : State} (h : Stands most total gs starts registers g (top ∷ fs) s) where
    -- a slot of the top frame
    slot_open : (k : ℕ) → k < top.count → (s.regs 29 + 4 * k < 2 ^ 32) × (is_open widths.Word s.mapped (s.regs 29 + 4 * k) ≡ true)
    slot_open k lt =
        let up = stack_top most (word_at s) (s.regs 29 + size_of top) fs h.stack.1 in
        (omega (arith, up, lt), rw h.mapped (open_stack total (s.regs 29 + 4 * k) (omega (arith, h.aligned)) (omega (arith, h.room)) (omega (arith, up, lt))))

    -- a register into a slot
    stores_slot : (t k v : ℕ) → k < top.count → read 0 s.regs t ≡ v → RunsTo (store_word_at t (4 * k) ∷ []) s (set_word s (s.regs 29 + 4 * k) v)
    stores_slot t k v lt shows = let at = slot_open k lt in rw (← shows) (stores_word s t (4 * k) at.0 at.1)

    -- an operand into a register
    pub brings : (t v : ℕ) (x : Source) → IsTarget t → Denotes top.count s x v → Sets (bring t x) s t v
    brings t v Zero ok d = set_sets ok (sym d) (moves s t 0 h.words)
    brings t v (Word w) ok d = rw (← d.0) (li_sets s t w ok d.1)
    brings t v (InRegister r) ok d = set_sets ok d (moves s t r h.words)
    brings t v (InSlot k) ok d = let at = slot_open k d.0 in set_sets ok d.1 (loads_word s t (4 * k) at.0 at.1)

    -- the same, but for an operand that is there already
    stayed : (t v : ℕ) (x : Source) → IsTarget t → stays t x ≡ true → Denotes top.count s x v → s.regs t ≡ v
    stayed t v (InRegister r) ok e d = sym (read_register s.regs t ok.low) ∙ (rw (eqb-true r t e) at d)
    stayed t v _ ok e d = absurd (true≢false (sym e))

    pub carries : (t v : ℕ) (x : Source) → IsTarget t → Denotes top.count s x v → Sets (carry t x) s t v
    carries t v x ok d = cond_both (stays t x) [] (bring t x) (λ is. Sets is s t v)
        (λ e. record { regs = s.regs; runs = runs_none s; here = stayed t v x ok e d; others = λ q ne. refl }) (λ _. brings t v x ok d)

    -- an operand, shown by a register
    pub record Fetched (is : List Plain) (t q v : ℕ) : Type 0 where
      pub regs : ℕ → ℕ
      pub runs : RunsTo is s (record s { regs = regs })
      pub here : read 0 regs q ≡ v
      pub others : (r : ℕ) → r ≢ t → regs r ≡ s.regs r
      pub stands : Stands most total gs starts registers g (top ∷ fs) (record s { regs = regs })

    shown : (t q v : ℕ) → read 0 s.regs q ≡ v → Fetched [] t q v
    shown t q v d = record { regs = s.regs; runs = runs_none s; here = d; others = λ r ne. refl; stands = h }

    pub fetches : (t v : ℕ) (x : Source) → 0 < t → t < 4 → Denotes top.count s x v → Fetched (fetch t x) t (operand_register t x) v
    fetches t v Zero low high d = shown t 0 v (sym d)
    fetches t v (InRegister r) low high d = shown t r v d
    fetches t v x low high d =
        let c = brings t v x (omega arith) d in
        record { regs = c.regs; runs = c.runs; here = read_register c.regs t low ∙ c.here; others = c.others; stands = sets_kept h high c }

    -- slots are known that memory and the copies show
    slots_stand : {slots : Places} {m : ℕ → ℕ} → IsWords (record s { memory = m })
        → ((j w : ℕ) → j < top.count → slots j ≡ Some w → word_at (record s { memory = m }) (s.regs 29 + 4 * j) ≡ w)
        → ((b : ℕ) → s.regs 29 + 4 * top.count ≤ b → word_at (record s { memory = m }) b ≡ word_at s b)
        → ((a i v : ℕ) → element_at g a i ≡ Some v → shown_at (width_of gs a) (record s { memory = m }) (address_of_place (place_in gs starts a i)) ≡ v)
        → (LeafHolds top registers s.regs → (x r k v : ℕ) → slice_get top.homes x ≡ Some (Copied r k) → slots k ≡ Some v → s.regs r ≡ v)
        → Stands most total gs starts registers g (with_slots top slots ∷ fs) (record s { memory = m })
    slots_stand {m} words held above elements copied = record {
      words = words;
      mapped = h.mapped;
      held = h.held;
      stack = (
        record {
          slots = held;
          aside = λ j r w there at. above (s.regs 29 + 4 * (top.count + j)) (omega arith) ∙ (h.stack.0).aside j r w there at;
          link = λ calls. above (s.regs 29 + 4 * (top.count + length top.saved)) (omega arith) ∙ (h.stack.0).link calls;
          fits = (h.stack.0).fits;
          alone = (h.stack.0).alone;
        },
        stack_same most (word_at s) (word_at (record s { memory = m })) (s.regs 29 + size_of top) fs (λ b le. above b (omega (arith, le))) h.stack.1,
      );
      room = h.room;
      aligned = h.aligned;
      elements = elements;
      places = h.places;
      linked = λ leaf. let l = h.linked leaf in record { link = l.link; range = l.range; copied = copied l; idle = l.idle };
      gp = h.gp;
    }

    -- fewer slots are known
    fewer_slots : {slots : Places} → ((k v : ℕ) → slots k ≡ Some v → top.slots k ≡ Some v) → Stands most total gs starts registers g (with_slots top slots ∷ fs) s
    fewer_slots some = slots_stand h.words (λ j w lt at. (h.stack.0).slots j w lt (some j w at)) (λ b le. refl) h.elements
        (λ l x r k v c at. l.copied x r k v c (some k v at))

    -- a slot is written
    slot_written : {k v : ℕ} → k < top.count → v < 2 ^ 32 → ((x r : ℕ) → slice_get top.homes x ≡ Some (Copied r k) → s.regs r ≡ v)
        → Stands most total gs starts registers g (with_slots top (places_with top.slots k (Some v)) ∷ fs) (set_word s (s.regs 29 + 4 * k) v)
    slot_written {k} {v} lt below shown =
        let a = s.regs 29 + 4 * k in
        let up = stack_top most (word_at s) (s.regs 29 + size_of top) fs h.stack.1 in
        slots_stand (set_at_words widths.Word s a v h.words)
        (λ j w jl at. grind (arith, nat_tests, word_here s a v (slot_open k lt).1 below, word_other s a v (s.regs 29 + 4 * j), (h.stack.0).slots j w jl))
        (λ b le. word_other s a v b (omega (arith, le, lt)))
        (λ b i w at. shown_other widths.Word (width_of gs b) s a v (address_of_place (place_in gs starts b i))
        (stack_apart (width_of gs b) a (place_in gs starts b i) total (omega (arith, h.room)) (omega (arith, up, lt)) (h.inside b i w at) h.few)
        ∙ h.elements b i w at)
        (λ l x r j w copy at. grind (arith, nat_tests, shown x r, l.copied x r j w copy))

    -- only a leaf has copies
    copy_holds : (x r k : ℕ) → slice_get top.homes x ≡ Some (Copied r k) → LeafHolds top registers s.regs
    copy_holds x r k c = cond_both {A = ℕ} top.leaf 0 0 (λ _. LeafHolds top registers s.regs) h.linked (λ e. absurd ((h.stack.0).alone e x r k c))

  module _ {registers : Places} {g : Arrays} {top : Stored} {fs : List Stored} {s : State} (h : Stands most total gs starts registers g (top ∷ fs) s)
      (ok : AreFrameHomes top.homes top.count) (x r k v : ℕ) (copy : slice_get top.homes x ≡ Some (Copied r k))
      (below : v < 2 ^ 32) (regs : ℕ → ℕ) (is : regs r ≡ v) (others : (q : ℕ) → q ≢ r → regs q ≡ s.regs q) where
    -- the register of a copy is written: then nothing is known of the slot
    copy_changed : Stands most total gs starts registers g (with_slots top (places_with top.slots k None) ∷ fs) (record s { regs = regs })
    copy_changed =
        let l = copy_holds h x r k copy in
        let range = l.range x r k copy in
        stands_with (fewer_slots h (λ j w at. grind (arith, nat_tests)))
        (words_changed r v h.words below is others)
        (λ leaf. record {
          link = others 31 (omega (arith, range.1)) ∙ l.link;
          range = l.range;
          copied = λ y q j w c at. grind (arith, nat_tests, others q, l.copied y q j w c, one y j);
          idle = l.idle;
        })
        (others 29 (omega (arith, range.1))) (others 28 (omega (arith, range.1)))
        (λ q w ql qh at. grind (arith, nat_tests, others q, l.idle x r k copy, h.held q w ql qh))
      where
        one : (y j : ℕ) → slice_get top.homes y ≡ Some (Copied r j) → j ≡ k
        one y j c = let same = (ok.copied).once y x r j k c copy in cc

    -- and then the slot
    copy_stored : (RunsTo (store_word_at r (4 * k) ∷ []) (record s { regs = regs }) (set_word (record s { regs = regs }) (regs 29 + 4 * k) v))
        × Stands most total gs starts registers g (with_slots top (places_with top.slots k (Some v)) ∷ fs)
        (set_word (record s { regs = regs }) (regs 29 + 4 * k) v)
    copy_stored =
        let lt = ok.by x (Copied r k) copy in
        let range = (ok.copied).range x r k copy in (
          stores_slot copy_changed r k v lt (read_register regs r (omega (arith, range.0)) ∙ is),
          fewer_slots (slot_written copy_changed lt below (λ y q c. let same = ok.apart y x _ _ c copy refl in cc)) (λ j w at. grind (arith, nat_tests)),
        )

  module _ {deferred registers : Places} {g : Arrays} {top : Stored} {fs : List Stored} {s : State}
      (h : Stands most total gs starts (hide deferred registers) g (top ∷ fs) s) (are_deferred : AreDeferred deferred registers) where
    home_below : (home : Home) (v : ℕ) → IsHome top.count home → in_home registers top.slots home ≡ Some v → v < 2 ^ 32
    home_below (Reg r) v ok is = by (deferred r) refl
      where
        by : (o : Option ℕ) → deferred r ≡ o → v < 2 ^ 32
        by None e = rw (← h.held r v ok.0 ok.1 (rw e is)) ((h.words).regs r)
        by (Some w) e = rw (same_Some v w (sym is ∙ are_deferred.holds r w e)) (are_deferred.below r w e)
    home_below (Slot k) v ok is = rw (← (h.stack.0).slots k v ok is) (word_below s (s.regs 29 + 4 * k) h.words)
    home_below (Copied r k) v ok is = rw (← (h.stack.0).slots k v ok is) (word_below s (s.regs 29 + 4 * k) h.words)

    pub operand_below : (x v : ℕ) → AreFrameHomes top.homes top.count → read_home top.homes registers top.slots x ≡ Some v → v < 2 ^ 32
    operand_below x v ok e =
        let home = chain-some (slice_get top.homes x) (in_home registers top.slots) v e in home_below home.0 v (ok.by x home.0 home.1) home.2

    abbrev pub Means : Source → ℕ → Type 0
    Means x v = Denotes top.count s x v × IsAway x

    -- a word that is known
    word_means : (w v : ℕ) → w ≡ v → w < 2 ^ 32 → Means (word_source w) v
    word_means w v same below =
        cond_both (nat_eq w 0) Zero (Word w) (λ x. Means x v) (λ e. (sym same ∙ eqb-true w 0 e, tt)) (λ _. ((same, below), tt))

    -- an operand is what the pseudo-register holds
    pub operand_means : {known : Places} (x v : ℕ) → AreFrameHomes top.homes top.count → IsKnown known top.homes registers top.slots
        → read_home top.homes registers top.slots x ≡ Some v
        → Denotes top.count s (option_map_or word_source (deferred_at deferred (slice_get top.homes x)) (source (known x) (slice_get top.homes x))) v
        × IsAway (option_map_or word_source (deferred_at deferred (slice_get top.homes x)) (source (known x) (slice_get top.homes x)))
    operand_means {known} x v ok k e =
        go (slice_get top.homes x) (deferred_at deferred (slice_get top.homes x)) (known x) refl refl refl e
      where
        said : (w : ℕ) → known x ≡ Some w → w ≡ v
        said w is = same_Some w v (sym (k.by x w is) ∙ e)

        held : (r : ℕ) → IsHome top.count (Reg r) → deferred r ≡ None → registers r ≡ Some v → Means (InRegister r) v
        held r ok none is = (read_register s.regs r (omega (arith, ok.0)) ∙ h.held r v ok.0 ok.1 (rw none is), ok)

        copied : (r q : ℕ) → slice_get top.homes x ≡ Some (Copied r q) → top.slots q ≡ Some v → Means (InRegister r) v
        copied r q copy e =
            let range = (ok.copied).range x r q copy in
            (read_register s.regs r (omega (arith, range.0)) ∙ (copy_holds h x r q copy).copied x r q v copy e, (omega (arith, range.0), range.1))

        either : (r w : ℕ) → known x ≡ Some w → Means (InRegister r) v → Means (if nat_eq w 0 then Zero else InRegister r) v
        either r w is m = cond_both (nat_eq w 0) Zero (InRegister r) (λ x. Means x v) (λ t. (sym (said w is) ∙ eqb-true w 0 t, tt)) (λ _. m)

        go : (o : Option Home) (z p : Option ℕ) → slice_get top.homes x ≡ o → deferred_at deferred o ≡ z → known x ≡ p
            → chain o (in_home registers top.slots) ≡ Some v → Means (option_map_or word_source z (source p o)) v
        go None z p is lz kp e = absurd (none-some v e)
        go (Some (Reg r)) (Some w) p is lz kp e = word_means w v (same_Some w v (sym (are_deferred.holds r w lz) ∙ e)) (are_deferred.below r w lz)
        go (Some (Reg r)) None None is lz kp e = held r (ok.by x (Reg r) is) lz e
        go (Some (Reg r)) None (Some w) is lz kp e = either r w kp (held r (ok.by x (Reg r) is) lz e)
        go (Some (Slot q)) None None is lz kp e = (let lt = ok.by x (Slot q) is in ((lt, (h.stack.0).slots q v lt e), tt))
        go (Some (Slot q)) None (Some w) is lz kp e = word_means w v (said w kp) (rw (said w kp) (home_below (Slot q) v (ok.by x (Slot q) is) e))
        go (Some (Copied r q)) None None is lz kp e = copied r q is e
        go (Some (Copied r q)) None (Some w) is lz kp e = either r w kp (copied r q is e)
        go (Some _) (Some w) p is lz kp e = absurd (none-some w lz)

    -- an operand of an exit
    pub last_means : {known : Places} {fresh : Option ℕ} (x v : ℕ) → AreFrameHomes top.homes top.count → IsKnown known top.homes registers top.slots
        → IsFresh fresh top.homes registers top.slots s → read_home top.homes registers top.slots x ≡ Some v
        → Denotes top.count s (fresh_source fresh x (inner_of (slice_get top.homes x))
        (option_map_or word_source (deferred_at deferred (slice_get top.homes x)) (source (known x) (slice_get top.homes x)))) v
    last_means {known} {fresh} x v ok k f e = go fresh refl
      where
        go : (o : Option ℕ) → fresh ≡ o → Denotes top.count s (fresh_source o x (inner_of (slice_get top.homes x))
            (option_map_or word_source (deferred_at deferred (slice_get top.homes x)) (source (known x) (slice_get top.homes x)))) v
        go None is = (operand_means x v ok k e).0
        go (Some y) is = cond_both (nat_eq y x) (InRegister _) _ (λ z. Denotes top.count s z v)
            (λ same. read_register s.regs _ (inner_is (slice_get top.homes x)).low ∙ f.by x v (is ∙ ap Some (eqb-true y x same)) e)
            (λ _. (operand_means x v ok k e).0)

    -- code that writes a home, from a state s0 to another, and what it leaves
    pub record Written (is : List Plain) (s0 : State) (known : Places) (l : Option Home) (deferred' registers' slots' : Places) (to : State) : Type 0 where
      pub runs : RunsTo is s0 to
      pub stands : Stands most total gs starts (hide deferred' registers') g (with_slots top slots' ∷ fs) to
      pub still_deferred : AreDeferred deferred' registers'
      pub is_known : IsKnown known top.homes registers' slots'
      pub keeps : Keeps l s.regs to.regs

    -- pseudo-register x is written, of which o is known
    module _ (x v : ℕ) {known : Places} {o : Option ℕ} (below : v < 2 ^ 32) (said : (w : ℕ) → o ≡ Some w → w ≡ v)
        (ok : AreFrameHomes top.homes top.count) (k : IsKnown known top.homes registers top.slots) where
      -- in a register
      in_register : {r : ℕ} {is : List Plain} {s0 : State} {regs : ℕ → ℕ} → slice_get top.homes x ≡ Some (Reg r) → RunsTo is s0 (record s { regs = regs }) → regs r ≡ v → ((q : ℕ) → q ≢ r → regs q ≡ s.regs q)
          → Written is s0 (places_with known x o) (Some (Reg r)) (places_with deferred r None) (places_with registers r (Some v)) top.slots
          (record s { regs = regs })
      in_register {r} {regs} at run is others =
          let range = ok.by x (Reg r) at in
          let apart : (y k q : ℕ) → slice_get top.homes y ≡ Some (Copied q k) → q ≢ r = λ y k q c e. (ok.copied).idle x y r k at (rw e at c) in
          record {
            runs = run;
            stands = stands_with h (words_changed r v h.words below is others)
                (λ leaf. let l = h.linked leaf in record {
                  link = others 31 (omega (arith, range.1)) ∙ l.link;
                  range = l.range;
                  copied = λ y q k w c e. others q (apart y k q c) ∙ l.copied y q k w c e;
                  idle = λ y q k c. rw (ne_eqb q r (apart y k q c)) (l.idle y q k c);
                })
                (others 29 (omega (arith, range.1))) (others 28 (omega (arith, range.1)))
                (λ q w low high e. grind (arith, nat_tests, is, others q, h.held q w low high));
            still_deferred = defers r (λ w e. absurd (none-some w e)) are_deferred;
            is_known = known_register x ok at said k;
            keeps = record { base = others 30 (omega (arith, range.1)); others = λ q _ ne. others q ne };
          }

      -- in a slot and its copy
      in_copy : {r j : ℕ} {is : List Plain} {s0 : State} {regs : ℕ → ℕ} → slice_get top.homes x ≡ Some (Copied r j) → RunsTo is s0 (record s { regs = regs }) → regs r ≡ v → ((q : ℕ) → q ≢ r → regs q ≡ s.regs q)
          → Written (is ++ store_word_at r (4 * j) ∷ []) s0 (places_with known x o) (Some (Copied r j)) deferred registers (places_with top.slots j (Some v))
          (set_word (record s { regs = regs }) (regs 29 + 4 * j) v)
      in_copy {r} {j} {regs} at run here others =
          let range = (ok.copied).range x r j at in
          let m = copy_stored h ok x r j v at below regs here others in
          record {
            runs = runs_then run m.0;
            stands = m.1;
            still_deferred = are_deferred;
            is_known = known_slot x ok at refl said k;
            keeps = record { base = others 30 (omega (arith, range.1)); others = λ q _ ne. others q ne };
          }

      -- in a slot alone, from register q
      in_slot_alone : {j t : ℕ} (q : ℕ) {is : List Plain} {s0 : State} {regs : ℕ → ℕ} → slice_get top.homes x ≡ Some (Slot j) → t < 4
          → RunsTo is s0 (record s { regs = regs }) → read 0 regs q ≡ v → ((q : ℕ) → q ≢ t → regs q ≡ s.regs q)
          → Stands most total gs starts (hide deferred registers) g (top ∷ fs) (record s { regs = regs })
          → Written (is ++ store_word_at q (4 * j) ∷ []) s0 (places_with known x o) (Some (Slot j)) deferred registers (places_with top.slots j (Some v))
          (set_word (record s { regs = regs }) (regs 29 + 4 * j) v)
      in_slot_alone {j} q {regs} at high run here others st =
          let lt = ok.by x (Slot j) at in
          record {
            runs = runs_then run (stores_slot st q j v lt here);
            stands = slot_written st lt below (λ y r c. let same = ok.apart x y _ _ at c refl in absurd (cc));
            still_deferred = are_deferred;
            is_known = known_slot x ok at refl said k;
            keeps = record { base = others 30 (omega (arith, high)); others = λ q low _. others q (omega (arith, high, low)) };
          }

      -- an operand
      module _ (P : Run → Type 0) (go : Places → Places → Run) (y : Source) (d : Denotes top.count s y v) where
        abbrev Go : Option Home → Type 0
        Go l = (registers' slots' : Places) (to : State) → 1 ≤ length (put_at l y)
            → Written (put_at l y) s (places_with known x o) l (deferred_with l None deferred) registers' slots' to → P (go registers' slots')

        puts_at : (l : Home) → slice_get top.homes x ≡ Some l → Go (Some l) → P (write_at l registers top.slots v go)
        puts_at (Reg r) at f =
            let c = brings h r v y (omega (arith, ok.by x (Reg r) at)) d in
            f (places_with registers r (Some v)) top.slots _ (bring_some r y) (in_register at c.runs c.here c.others)
        puts_at (Copied r j) at f =
            let c = brings h r v y (omega (arith, (ok.copied).range x r j at)) d in
            f registers (places_with top.slots j (Some v)) _ (longer (bring r y) _ (bring_some r y)) (in_copy at c.runs c.here c.others)
        puts_at (Slot j) at f =
            let inner = inner_is (Some (Slot j)) in
            let c = fetches h (inner_of (Some (Slot j))) v y inner.low inner.high d in
            f registers (places_with top.slots j (Some v)) _ (longer_behind (fetch (inner_of (Some (Slot j))) y) _ (omega arith))
            (in_slot_alone (operand_register (inner_of (Some (Slot j))) y) at inner.high c.runs c.here c.others c.stands)

        pub puts : (out : List ℕ) → P (Failed out) → Go (slice_get top.homes x) → P (write_home (cells top.homes registers top.slots) x v out go)
        puts out failed f = at_home P Go (slice_get top.homes x) out (λ h. write_at h registers top.slots v go) failed puts_at f

      -- a result, computed into the register for its home
      module _ (P : Run → Type 0) (go : Places → Places → Run) (is : List Plain) (s0 : State) (some : 1 ≤ length is) where
        abbrev Finished : Option Home → Type 0
        Finished l = (registers' slots' : Places) (to : State) → 1 ≤ length (is ++ finish l)
            → Written (is ++ finish l) s0 (places_with known x o) l (deferred_with l None deferred) registers' slots' to
            → Holds l to.regs v → IsFresh (in_slot l x) top.homes registers' slots' to → P (go registers' slots')

        finishes_at : (l : Home) → slice_get top.homes x ≡ Some l → Ends is s0 s (into (Some l)) v × Finished (Some l)
            → P (write_at l registers top.slots v go)
        finishes_at (Reg r) at f =
            let e = f.0 in
            f.1 (places_with registers r (Some v)) top.slots (record s { regs = e.regs }) (longer is _ some)
            (in_register at (runs_then e.runs (runs_none (record s { regs = e.regs }))) e.here e.others) e.here (none_fresh _ _ _ _)
        finishes_at (Copied r j) at f =
            let e = f.0 in
            f.1 registers (places_with top.slots j (Some v)) _ (longer is _ some) (in_copy at e.runs e.here e.others) tt (none_fresh _ _ _ _)
        finishes_at (Slot j) at f =
            let inner = inner_is (Some (Slot j)) in
            let e = f.0 in
            f.1 registers (places_with top.slots j (Some v)) _ (longer is _ some) (in_slot_alone (inner_of (Some (Slot j))) at inner.high e.runs
            (read_register e.regs (inner_of (Some (Slot j))) inner.low ∙ e.here) e.others (ends_stands h inner.high e)) tt
            (record { by = λ c w is there. fresh e c w (same_Some x c is) there })
          where
            fresh : (e : Ends is s0 s (inner_of (Some (Slot j))) v) (c w : ℕ) → x ≡ c → read_home top.homes registers (places_with top.slots j (Some v)) c ≡ Some w
                → e.regs (inner_of (slice_get top.homes c)) ≡ w
            fresh e c w same there = rw (← same, at) (e.here ∙ same_Some v w (rw (← same, at, eq-eqb j j refl) at there))

        pub finishes : (out : List ℕ) → P (Failed out) → Ends is s0 s (into (slice_get top.homes x)) v → Finished (slice_get top.homes x)
            → P (write_home (cells top.homes registers top.slots) x v out go)
        finishes out failed e f = at_home P (λ l. Ends is s0 s (into l) v × Finished l) (slice_get top.homes x) out
            (λ h. write_at h registers top.slots v go) failed finishes_at (e, f)

    -- a constant, which needn't be put into a caller-saved register yet
    module _ (x v : ℕ) {known : Places} (below : v < 2 ^ 32) (ok : AreFrameHomes top.homes top.count) (k : IsKnown known top.homes registers top.slots)
        (P : Run → Type 0) (go : Places → Places → Run) where
      abbrev Told : List Plain → Option Home → Places → Type 0
      Told is l deferred' = (registers' slots' : Places) (to : State) → 1 ≤ length is → Written is s (places_with known x (Some v)) l deferred' registers' slots' to
          → P (go registers' slots')

      -- at once
      puts_now : (l : Home) → slice_get top.homes x ≡ Some l → Told (put_at (Some l) (word_source v)) (Some l) (deferred_with (Some l) None deferred)
          → P (write_at l registers top.slots v go)
      puts_now l at f = puts_at x v below (λ w e. sym (same_Some v w e)) ok k P go (word_source v) (word_means v v refl below).0 l at f

      in_turn : (r : ℕ) → slice_get top.homes x ≡ Some (Reg r) → (b : Bool) → is_callee_saved r ≡ b
          → Told (if b then bring r (word_source v) else nop ∷ []) (Some (Reg r)) (places_with deferred r (if b then None else Some v))
          → P (go (places_with registers r (Some v)) top.slots)
      in_turn r at true lasts f = puts_now (Reg r) at f
      in_turn r at false caller_saved f = f (places_with registers r (Some v)) top.slots s (omega arith) (record {
        runs = runs_nop s;
        stands = fewer_stand h (λ q w e. grind (arith, nat_tests));
        still_deferred = defers r (λ w e. (caller_saved, e, rw (same_Some w v (sym e)) below)) are_deferred;
        is_known = known_register x ok at (λ w e. sym (same_Some v w e)) k;
        keeps = record { base = refl; others = λ q low ne. refl };
      })

      tells_at : (l : Home) → slice_get top.homes x ≡ Some l → Told (const_code (Some l) v) (Some l) (deferred_with (Some l) (Some v) deferred)
          → P (write_at l registers top.slots v go)
      tells_at (Reg r) at f = in_turn r at (is_callee_saved r) refl f
      tells_at (Slot j) at f = puts_now (Slot j) at f
      tells_at (Copied r j) at f = puts_now (Copied r j) at f

      pub tells : (out : List ℕ) → P (Failed out) → Told (const_code (slice_get top.homes x) v) (slice_get top.homes x) (deferred_with (slice_get top.homes x) (Some v) deferred)
          → P (write_home (cells top.homes registers top.slots) x v out go)
      tells out failed f = at_home P (λ l. Told (const_code l v) l (deferred_with l (Some v) deferred)) (slice_get top.homes x) out
          (λ h. write_at h registers top.slots v go) failed tells_at f

  -- a register into a home, where no word is to come
  pub arrives : {registers : Places} {g : Arrays} {top : Stored} {fs : List Stored} {s : State} → Stands most total gs starts registers g (top ∷ fs) s
      → (P : Run → Type 0) (go : Places → Places → Run) (x v t : ℕ) (out : List ℕ)
      → 1 < t → s.regs t ≡ v → v < 2 ^ 32 → AreFrameHomes top.homes top.count → P (Failed out)
      → ((registers' slots' : Places) (s' : State) → RunsTo (arrive (slice_get top.homes x) t) s s'
      → Stands most total gs starts registers' g (with_slots top slots' ∷ fs) s' → Keeps (slice_get top.homes x) s.regs s'.regs → P (go registers' slots'))
      → P (write_home (cells top.homes registers top.slots) x v out go)
  arrives {registers} {g} {top} {fs} {s} h P go x v t out low is below ok failed f =
      at_home P Arrived (slice_get top.homes x) out (λ h. write_at h registers top.slots v go) failed by f
    where
      Arrived : Option Home → Type 0
      Arrived l = (registers' slots' : Places) (s' : State) → RunsTo (arrive l t) s s' → Stands most total gs starts registers' g (with_slots top slots' ∷ fs) s'
          → Keeps l s.regs s'.regs → P (go registers' slots')

      shows : read 0 s.regs t ≡ v
      shows = read_register s.regs t (omega (arith, low)) ∙ is

      k : IsKnown (λ q. None) top.homes registers top.slots
      k = nothing_known top.homes registers top.slots

      none : (w : ℕ) → None ≡ Some w → w ≡ v
      none w e = absurd (none-some w e)

      by : (l : Home) → slice_get top.homes x ≡ Some l → Arrived (Some l) → P (write_at l registers top.slots v go)
      by (Reg r) at f =
          let c = carries h r v (InRegister t) (omega (arith, ok.by x (Reg r) at)) shows in
          let w = in_register h (none_deferred registers) x v below none ok k at c.runs c.here c.others in
          f (places_with registers r (Some v)) top.slots (record s { regs = c.regs }) w.runs (fewer_stand w.stands (λ q u e. grind (arith, nat_tests))) w.keeps
      by (Copied r j) at f =
          let c = carries h r v (InRegister t) (omega (arith, (ok.copied).range x r j at)) shows in
          let w = in_copy h (none_deferred registers) x v below none ok k at c.runs c.here c.others in
          f registers (places_with top.slots j (Some v)) _ w.runs w.stands w.keeps
      by (Slot j) at f =
          let w = in_slot_alone h (none_deferred registers) x v below none ok k {t = 1} t at (omega arith) (runs_none s) shows (λ q ne. refl) h in
          f registers (places_with top.slots j (Some v)) _ w.runs w.stands w.keeps
