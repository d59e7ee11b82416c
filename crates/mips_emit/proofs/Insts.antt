-- Each instruction's code does what the instruction does.
use Rattle.std.proofs.Common.{◌≡◌, ◌≢◌, ℕ, zero, suc, ◌+◌, ◌^◌, ◌*◌, ◌%◌, ◌<◌, ◌≤◌, true, true≢false, List, [], ◌∷◌, ◌++◌, take, map, length, Option, Some, None}
use Rattle.std.proofs.Common.{refl, sym, ap, ◌∙◌, subst, arith, nat_eq, ltb-true}
use Rattle.std.specs.Prelude.{◌-◌, slice_get, nat_lt}
use Rattle.std.specs.Option.{option_or}
use Rattle.std.proofs.lemmas.Option.{same_Some, none-some, cond_some}
use Rattle.words.specs.declared.operator.Operator.TheVariants as operators
use Rattle.words.specs.Words.{wrap}
use Rattle.words.specs.Operators.{op_value}
use Rattle.runs.specs.Stores.{Places, places_with, Arrays, element_at, arrays_with}
use Rattle.mips_isa.specs.declared.inst.Plain.{Plain}
use Rattle.mips_isa.specs.declared.inst.LogicOp.TheVariants.{Xori}
use Rattle.mips_isa.specs.declared.inst.ShiftOp.TheVariants.{Sll}
use Rattle.mips_isa.specs.declared.inst.Plain.TheVariants.{Logic, Shift}
use Rattle.mips_isa.specs.States.{State, is_open, read}
use Rattle.mips_isa.specs.Actions.{action_of}
use Rattle.mblock.specs.declared.limits.TheConstants.{UNIT_BYTES}
use Rattle.mblock.proofs.StateWords.{run_words}
use Rattle.rtl.specs.declared.operator.Op.{Op}
use Rattle.rtl.specs.declared.instruction.RInst.{RInst}
use Rattle.rtl.specs.declared.instruction.RInst.TheVariants.{Const, Move, Bin, Load, Store}
use Rattle.rtl.specs.declared.block.RGlobal.{RGlobal}
use Rattle.rtl.specs.Operators.{op_result}
use Rattle.rtl.specs.Meaning.{kept_in}
use Rattle.rtl.proofs.Results.{result-word}
use Rattle.mips_homes.specs.HomedRun.{cells, Run, Failed, with_value, read_home, with_inst}
use Rattle.mips_homes.specs.declared.homed.Home.{Home}
use Rattle.mips_emit.specs.declared.limits.TheConstants.{KEPT_FACTS}
use Rattle.mips_homes.specs.declared.homed.Home.TheVariants.{Reg, Copied}
use Rattle.mips_emit.specs.declared.location.Source.{Source}
use Rattle.mips_emit.specs.declared.product.ShiftedSum.{ShiftedSum}
use Rattle.mips_emit.specs.declared.location.Source.TheVariants.{InRegister}
use Rattle.mips_emit.specs.declared.facts.Fact.{Fact}
use Rattle.mips_emit.specs.Frames.{AreFrameHomes}
use Rattle.mips_emit.specs.Locations.{Facts, known_of, known_in, with_fact, learned, last_of, inner_of, operand, index_register, kept_with}
use Rattle.mips_emit.specs.declared.facts.Kept.{Kept}
use Rattle.mips_emit.specs.declared.element.Reach.{Reach}
use Rattle.mips_emit.specs.declared.element.Reach.TheVariants.{ByPointer, ByScratch, ByKept, ByNew}
use Rattle.mips_emit.specs.declared.offset.Offset.{Offset}
use Rattle.mips_emit.specs.Offsets.{addend, offset_from, sum_offset, offset_past, offset_in, index_with}
use Rattle.rtl.specs.declared.operator.Op.TheVariants.{Add, Sub}
use Rattle.std.proofs.lemmas.Bool.{eqb-false, cond_both}
use Rattle.std.proofs.lemmas.Bool.Decides.{nat_tests}
use Rattle.mips_emit.specs.Elements.{width_of, width_bytes, direct, element_place, place_in, address_of_place, base_code, base_word, base_index}
use Rattle.mips_emit.specs.Elements.{shifted_offset, reach_by, element_base, element_offset}
use Rattle.mips_emit.specs.Code.{fetch, operand_register, into, immediate_of, is_symmetric, turned_immediate_of, turned_less_of, code_by_less, code_by_left}
use Rattle.mips_emit.specs.Code.{known_operand, multiple_of, multiple_code, code_by_multiple, code_by_word, code_by_right, op_code, holds_base, reach_with}
use Rattle.mips_emit.specs.Code.{reach_of, element_code, element_store, inst_code}
use Rattle.mips_emit.proofs.Runs.{RunsTo, if_some, runs_none, runs_then}
use Rattle.mips_emit.proofs.View.{shown_at, word_of_offset, shown_below, set_at, Sets, set_sets, read_register, IsTarget, t2, IsInner, inner_is, loads_at}
use Rattle.mips_emit.proofs.View.{stores_at, near_word, read_other, Based, based, from_base, from_shifted}
use Rattle.mips_emit.proofs.Stands.{Stored, with_slots, Stands, width_some}
use Rattle.mips_emit.proofs.Operands.{IsFresh, IsLast, none_last, IsKnown, Denotes, IsAway, operand_register_kept, longer_behind, Ends, hide, AreDeferred}
use Rattle.mips_emit.proofs.Operands.{Keeps, Holds, IsKept, IsOffset, AreBases, IsIndex, of_index, sum_same, kept_same, offset_same, offset_written}
use Rattle.mips_emit.proofs.Operands.{bases_written, index_is}
use Rattle.mips_emit.proofs.Homes.{operand_below, operand_means, fetches, sets_kept, run_kept, finishes, puts, tells, stands_with}
use Rattle.mips_emit.proofs.Globals.{kept_is, data_open, data_written, stored_at}
use Rattle.mips_emit.proofs.Operations.{Gives, alu_gives, operation_gives, immediate_gives, less_gives, symmetric}
use Rattle.mips_emit.proofs.Products.{IsMultiple, multiplied, turned_multiplied}

-- ---- facts

-- what fewer facts say, all say
known_fewer : (n : ℕ) (facts : List Fact) (x w : ℕ) → known_of (take n facts) x ≡ Some w → known_of facts x ≡ Some w
known_fewer zero facts x w e = absurd (none-some w e)
known_fewer (suc n) [] x w e = e
known_fewer (suc n) (f ∷ facts) x w e = grind (arith, nat_tests, known_fewer n facts x w)

fact_known : {hs : List Home} {registers slots : Places} (facts : Facts) (x : ℕ) (o : Option ℕ) → IsKnown (places_with (known_in facts) x o) hs registers slots
    → IsKnown (known_of (with_fact x o facts.known)) hs registers slots
fact_known facts x o h = record { by = λ y w e. h.by y w (known_fewer KEPT_FACTS ((let f : Fact = record { register = x; word = o } in f) ∷ facts.known) y w e) }

-- ---- parts of the proof

-- a step that goes wrong where there is no value
pub value_or_failed : {A : Type 0} (P : Run → Type 0) (o : Option A) (out : List ℕ) (go : A → Run) → P (Failed out) → ((v : A) → o ≡ Some v → P (go v))
    → P (with_value o out go)
value_or_failed P None out go failed f = failed
value_or_failed P (Some v) out go failed f = f v refl

into_target : (hs : List Home) (count x : ℕ) → AreFrameHomes hs count → IsTarget (into (slice_get hs x))
into_target hs count x ok = go (slice_get hs x) refl
  where
    go : (o : Option Home) → slice_get hs x ≡ o → IsTarget (into o)
    go (Some (Reg r)) e = omega (arith, ok.by x (Reg r) e)
    go (Some (Copied r k)) e = omega (arith, (ok.copied).range x r k e)
    go _ e = omega arith

-- an operand away from the lower registers isn't shown by register 2
operand_register_apart : (x : Source) → IsAway x → operand_register 1 x ≢ 2
operand_register_apart (InRegister r) away = omega arith
operand_register_apart _ away = omega arith

-- what an operator with a known word adds
sums_to : (op : Op) (v w u c : ℕ) → op_result op v w ≡ Some u → addend op w ≡ Some c → u ≡ wrap (v + c)
sums_to Add v w u c e is = cc
sums_to Sub v w u c e is = let difference : wrap (v + (2 ^ 32 - w)) ≡ wrap (v + wrap (2 ^ 32 - w)) = omega arith in cc
sums_to _ v w u c e is = absurd (none-some c is)

-- what an operator leaves in a register, of which the right operand may be known
module _ (op : Op) (v w u count : ℕ) (s : State) (f f' : ℕ → ℕ) (old : Option Offset) (e : op_result op v w ≡ Some u) (before : IsOffset old f)
    (same : (q : ℕ) → 4 ≤ q → f q ≡ s.regs q) where
  sum_known : (l : Option Home) (right : Option ℕ) (x : Source) → ((t : ℕ) → l ≡ Some (Reg t) → (4 ≤ t) × (t < 28)) → IsAway x → Denotes count s x v
      → ((c : ℕ) → right ≡ Some c → c ≡ w) → Keeps l f f' → Holds l f' u → IsOffset (option_or (sum_offset l op right x) (offset_past l old)) f'
  sum_known (Some (Reg t)) (Some c) (InRegister r) ok away means said keeps is = by (addend op c) refl
    where
      others : IsOffset (offset_past (Some (Reg t)) old) f'
      others = offset_written keeps before

      by : (o : Option ℕ) → addend op c ≡ o → IsOffset (option_or (offset_from t r o) (offset_past (Some (Reg t)) old)) f'
      by None added = others
      by (Some d) added = cond_both (nat_eq r t) None (Some (record { register = t; base = r; word = d })) (λ o. IsOffset (option_or o (offset_past (Some (Reg t)) old)) f')
          (λ _. others) (λ n.
          let sum = sums_to op v w u d e (ap (addend op) (sym (said c refl)) ∙ added) in
          let kept = keeps.others r away.0 (eqb-false r t n) ∙ same r away.0 ∙ sym (read_register s.regs r (omega (arith, away.0))) ∙ means in
          let range = ok t refl in
          record { by = λ o e. rw (same_Some o _ (sym e)) (range.0, range.1, away.0, away.1, rw kept (is ∙ sum)) })
  sum_known _ _ _ ok away d said keeps is = offset_written keeps before

-- the last instruction leaves no more than a result for a slot
only_fresh : {fresh : Option ℕ} {hs : List Home} {registers slots : Places} {s : State} → IsFresh fresh hs registers slots s
    → IsLast (record { fresh = fresh; comparison = None }) hs registers slots s
only_fresh new = record { fresh = new; comparison = λ m v is. absurd (none-some m is); result = λ m v is. absurd (none-some m is) }

module _ {most total : ℕ} {gs : List RGlobal} {starts : ℕ → ℕ} where
  -- an element lies below the greatest place
  element_few : {registers : Places} {g : Arrays} {fs : List Stored} {s : State} (a i v : ℕ) → element_at g a i ≡ Some v
      → Stands most total gs starts registers g fs s → place_in gs starts a i < UNIT_BYTES
  element_few a i v there h = omega (arith, width_some (width_of gs a), h.inside a i v there, h.few)

  module _ {registers : Places} {g : Arrays} {top : Stored} {fs : List Stored} {s : State} (h : Stands most total gs starts registers g (top ∷ fs) s) where
    -- instructions that compute a word in register d
    pub record Computed (is : List Plain) (d v : ℕ) : Type 0 where
      pub to : State
      pub others : (q : ℕ) → 4 ≤ q → to.regs q ≡ s.regs q
      pub stands : Stands most total gs starts registers g (top ∷ fs) to
      pub ends : Ends is s to d v
      pub some : 1 ≤ length is

    -- the last of them from a state that the others have reached
    computed : {is js : List Plain} {m : State} {d u : ℕ} → Stands most total gs starts registers g (top ∷ fs) m → ((q : ℕ) → 4 ≤ q → m.regs q ≡ s.regs q)
        → ((t : State) → RunsTo is m t → RunsTo js s t) → (1 ≤ length is → 1 ≤ length js) → u < 2 ^ 32
        → Gives is m d u → Computed js d u
    computed {is} {m} st others lead some lt c =
        let all : State = record m { regs = c.regs; hi = c.hi; lo = c.lo } in
        let words = run_words (map action_of is) m all st.words (c.runs).ends in
        record {
          to = record m { hi = c.hi; lo = c.lo };
          others = others;
          stands = stands_with st (record { regs = (st.words).regs; hi = words.hi; lo = words.lo; memory = (st.words).memory }) st.linked refl refl st.held;
          ends = record { regs = c.regs; runs = lead all c.runs; here = c.here; others = c.others; below = lt };
          some = some c.some;
        }

    -- an operand, and what is known of it: a word, in each state that stands
    pub record IsOperand (k : Option ℕ) (x : Source) (v : ℕ) : Type 0 where
      pub away : IsAway x
      pub means : (s : State) → Stands most total gs starts registers g (top ∷ fs) s → Denotes top.count s x v
      pub said : (c : ℕ) → k ≡ Some c → c ≡ v
      pub below : v < 2 ^ 32

    -- one operand, then instructions that give a word
    one_operand : {k : Option ℕ} {x : Source} {v : ℕ} (t d u : ℕ) (is : List Plain) → 0 < t → t < 4 → IsOperand k x v → u < 2 ^ 32
        → ((s : State) → read 0 s.regs (operand_register t x) ≡ v → Gives is s d u) → Computed (fetch t x ++ is) d u
    one_operand {x} {v} t d u is low high x_is lt gives =
        let a = fetches h t v x low high (x_is.means s h) in
        computed a.stands (λ q up. a.others q (omega (arith, high, up))) (λ m e. runs_then a.runs e) (longer_behind (fetch t x) _) lt
        (gives (record s { regs = a.regs }) a.here)

    -- a multiple of an operand
    times : {k : Option ℕ} {x : Source} {v : ℕ} (t d u : ℕ) (m : ShiftedSum) → IsInner t → IsTarget d → IsOperand k x v → u < 2 ^ 32 → IsMultiple m v u
        → Computed (multiple_code t d m x) d u
    times {x} {v} t d u m is_inner ok x_is lt is =
        let a = fetches h t v x is_inner.low is_inner.high (x_is.means s h) in
        let s1 : State = record s { regs = a.regs } in
        let q = operand_register t x in
        let c : Sets (Shift Sll 2 q (m.amount % 32) ∷ []) s1 2 is.shown =
        set_sets {v = op_value operators.Sll (read 0 a.regs q) (wrap (m.amount % 32))} t2 (rw a.here is.shifts) (record { ends = refl }) in
        computed (sets_kept a.stands (omega arith) c) (λ q up. c.others q (omega (arith, up)) ∙ a.others q (omega (arith, is_inner.high, up)))
        (λ m e. runs_then a.runs (runs_then c.runs e)) (λ some. longer_behind (fetch t x) _ (omega arith)) lt
        (alu_gives (record s1 { regs = c.regs }) d 2 q is.shown v u ok (read_register c.regs 2 (omega arith) ∙ c.here)
        (operand_register_kept x t 2 a.regs c.regs x_is.away is_inner.apart (omega arith) c.others ∙ a.here) m.op is.sums)

    pub computes : {k l : Option ℕ} {x y : Source} {v w : ℕ} (op : Op) (t d u : ℕ) → IsInner t → IsTarget d → IsOperand k x v → IsOperand l y w
        → op_result op v w ≡ Some u → Computed (op_code op t d (known_operand k x) (known_operand l y)) d u
    computes {k} {l} {x} {y} {v} {w} op t d u is_inner ok x_is y_is e = by_multiple (multiple_of op l) (multiple_of op k) refl refl
      where
        below : u < 2 ^ 32
        below = result-word op v w u x_is.below y_is.below e

        -- an operand alone, where the other one is known
        with_word : {o : Option ℕ} {x y : Source} {v w : ℕ} (t : ℕ) (i : Plain) (p : Option ℕ) → 0 < t → t < 4 → IsOperand o x v → IsOperand p y w
            → op_result op v w ≡ Some u → immediate_of op d (operand_register t x) p ≡ Some i → Computed (fetch t x ++ i ∷ []) d u
        with_word t i None low high x_is y_is e is = absurd (none-some i is)
        with_word {x} t i (Some c) low high x_is y_is e is =
            let same = y_is.said c refl in
            one_operand t d u (i ∷ []) low high x_is below
            (λ s at. immediate_gives (operand_register t x) c ok at x_is.below (omega (arith, same, y_is.below)) op is (rw same e))

        -- both operands, and then an operator
        by_less : (o : Option Plain) → turned_less_of op d (operand_register 2 y) k ≡ o → Computed (code_by_less op t d o x y) d u
        by_less None is =
            let a = fetches h t v x is_inner.low is_inner.high (x_is.means s h) in
            let s1 : State = record s { regs = a.regs } in
            let b = fetches a.stands 2 w y (omega arith) (omega arith) (y_is.means s1 a.stands) in
            computed b.stands (λ q up. b.others q (omega (arith, up)) ∙ a.others q (omega (arith, is_inner.high, up)))
            (λ m e. runs_then a.runs (runs_then b.runs e)) (λ some. longer_behind (fetch t x) _ (longer_behind (fetch 2 y) _ some)) below
            (operation_gives (record s1 { regs = b.regs }) d (operand_register t x) (operand_register 2 y) v w u ok
            (operand_register_kept x t 2 a.regs b.regs x_is.away is_inner.apart (omega arith) b.others ∙ a.here) b.here op x_is.below y_is.below e)
        by_less (Some i) is = one_operand 2 d u (i ∷ Logic Xori d d 1 ∷ []) (omega arith) (omega arith) y_is below
            (λ s at. less_gives op s d (operand_register 2 y) v w u i k ok at x_is.below y_is.below x_is.said is e)

        by_left : (o : Option Plain) → turned_immediate_of op d (operand_register 2 y) k ≡ o → Computed (code_by_left op t d o (known_operand k x) (known_operand l y)) d u
        by_left None is = by_less (turned_less_of op d (operand_register 2 y) k) refl
        by_left (Some i) is =
            let there = if_some (is_symmetric op) (immediate_of op d (operand_register 2 y) k) i is in
            with_word 2 i k (omega arith) (omega arith) y_is x_is (symmetric op w v there.0 ∙ e) there.1

        by_right : (o : Option Plain) → immediate_of op d (operand_register t x) l ≡ o
            → Computed (code_by_right op t d o (known_operand k x) (known_operand l y)) d u
        by_right None is = by_left (turned_immediate_of op d (operand_register 2 y) k) refl
        by_right (Some i) is = with_word t i l is_inner.low is_inner.high x_is y_is e is

        by_multiple : (a b : Option ShiftedSum) → multiple_of op l ≡ a → multiple_of op k ≡ b
            → Computed (code_by_multiple t d a x (code_by_multiple t d b y (code_by_word op t d (known_operand k x) (known_operand l y)))) d u
        by_multiple (Some m) b is _ = times t d u m is_inner ok x_is below (multiplied op l m v w u y_is.said x_is.below y_is.below is e)
        by_multiple None (Some m) _ is = times t d u m is_inner ok y_is below (turned_multiplied op k m v w u x_is.said x_is.below y_is.below is e)
        by_multiple None None _ _ = by_right (immediate_of op d (operand_register t x) l) refl

    -- an element of a global
    module _ (kept : Option Kept) (offset : Option Offset) (a i v : ℕ) (there : element_at g a i ≡ Some v) (k : IsKept gs starts kept s.regs)
        (offsets : IsOffset offset s.regs) where
      -- a state in which a register and an offset lead to it, and what base is kept there
      pub record Reached (by : Reach) (x : Source) (now : Option Kept) : Type 0 where
        pub to : State
        pub apart : element_base by ≢ 2
        pub bases : IsKept gs starts now to.regs × IsOffset offset to.regs
        pub runs : RunsTo (element_code (width_of gs a) (starts a) by x) s to
        pub here : wrap (read 0 to.regs (element_base by) + word_of_offset (element_offset (width_of gs a) (starts a) by)) ≡ address_of_place (place_in gs starts a i)
        pub ok : is_open (width_of gs a) to.mapped (address_of_place (place_in gs starts a i)) ≡ true
        pub stands : Stands most total gs starts registers g (top ∷ fs) to

      abbrev this : ℕ → Option Kept
      this t = Some (record { global = a; index = offset_in offset t })

      few : place_in gs starts a i < UNIT_BYTES
      few = element_few a i v there h

      -- a base is made in register t
      made : {s : State} (t q : ℕ) → IsTarget t → t ≢ 2 → t ≢ 28 → q ≢ 2 → Stands most total gs starts registers g (top ∷ fs) s
          → Based (base_code (width_of gs a) t (starts a) q) s t (wrap (width_bytes (width_of gs a) * read 0 s.regs q + base_word (starts a)))
      made {s} t q ok t_apart middle apart h = based (width_of gs a) s t q (starts a) (read 0 s.regs q) ok t_apart middle refl apart h.gp (omega (arith, few))

      -- from a base in register 1
      far : {known : Option ℕ} {x : Source} → IsOperand known x i → Reached ByScratch x kept
      far {x} x_is =
          let c = fetches h 1 i x (omega arith) (omega arith) (x_is.means s h) in
          let b = made 1 (operand_register 1 x) (omega arith) (omega arith) (omega arith) (operand_register_apart x x_is.away) c.stands in
          let others : (r : ℕ) → 4 ≤ r → b.regs r ≡ s.regs r = λ r low. b.others r (omega (arith, low)) (omega (arith, low)) ∙ c.others r (omega (arith, low)) in
          let st = run_kept c.stands b.runs (λ r low _. b.others r (omega (arith, low)) (omega (arith, low))) in
          record {
            to = record s { regs = b.regs };
            apart = omega arith;
            bases = (kept_same others k, offset_same (λ r low _. others r low) offsets);
            runs = runs_then c.runs b.runs;
            here = from_base (starts a) (width_bytes (width_of gs a) * i) (b.regs 1) few (rw c.here at b.here);
            ok = data_open a i v there st;
            stands = st;
          }

      -- from a base in register 30
      module _ (t : ℕ) (away : IsAway (InRegister t)) (is : read 0 s.regs t ≡ i) where
        abbrev at : Offset
        at = offset_in offset t

        abbrev from : ℕ
        from = base_index (width_of gs a) (starts a) at

        index : IsIndex at t s.regs
        index = index_is offset t s.regs away.0 away.1 ((h.words).regs t) offsets

        at_kept : (by : Reach) (m : State) → RunsTo (element_code (width_of gs a) (starts a) by (InRegister t)) s m → element_base by ≡ 30
            → element_offset (width_of gs a) (starts a) by ≡ shifted_offset (width_of gs a) (starts a) (at.word)
            → m.regs 30 ≡ wrap (width_bytes (width_of gs a) * m.regs from + base_word (starts a))
            → ((q : ℕ) → 4 ≤ q → q ≢ 30 → m.regs q ≡ s.regs q) → Stands most total gs starts registers g (top ∷ fs) m → Reached by (InRegister t) (this t)
        at_kept by m run base_is offset_is base others st =
            let sum = sum_same at others index.1 in
            let shown : m.regs at.register ≡ i = others at.register index.1.0 (omega (arith, index.1.1)) ∙ ap s.regs index.0 ∙ sym (read_register s.regs t (omega (arith, away.0))) ∙ is in
            record {
              to = m;
              apart = omega (arith, base_is);
              bases = (record { by = λ k e. rw (same_Some k _ (sym e)) (record { sum = sum; base = base }) }, offset_same others offsets);
              runs = run;
              here = rw (base_is, offset_is) (from_shifted (width_of gs a) (starts a) at i (m.regs 30) m.regs shown sum.4 few base);
              ok = data_open a i v there st;
              stands = st;
            }

        -- which is made, and kept
        anew : Reached (ByNew from at.word) (InRegister t) (this t)
        anew =
            let low : 4 ≤ from = of_index (λ q. 4 ≤ q) (width_of gs a) (starts a) at index.1.0 index.1.2 in
            let high : from < 28 = of_index (λ q. q < 28) (width_of gs a) (starts a) at index.1.1 index.1.3 in
            let b = made 30 from (omega arith) (omega arith) (omega arith) (omega (arith, low)) h in
            let others : (r : ℕ) → 4 ≤ r → r ≢ 30 → b.regs r ≡ s.regs r = λ r up ne. b.others r ne (omega (arith, up)) in
            at_kept (ByNew from at.word) (record s { regs = b.regs }) b.runs refl refl
            (rw (others from low (omega (arith, high)), ← read_register s.regs from (omega (arith, low))) b.here) others (run_kept h b.runs others)

        -- or was kept
        again : (p : Option Kept) → kept ≡ p → holds_base gs starts p a (Some at) ≡ true → Reached (ByKept at.word) (InRegister t) (this t)
        again None same e = absurd (true≢false (sym e))
        again (Some j) same e = at_kept (ByKept at.word) s (runs_none s) refl refl (grind (arith, nat_tests, (k.by j same).base)) (λ q _ _. refl) h

      -- from the global pointer
      close : (x : Source) (p : ℕ) → p ≡ place_in gs starts a i → p < 65536 → Reached (ByPointer p) x kept
      close x p same lt = record {
        to = s;
        apart = omega arith;
        bases = (k, offsets);
        runs = runs_none s;
        here = rw h.gp (near_word p lt ∙ ap address_of_place same);
        ok = data_open a i v there h;
        stands = h;
      }

      pub elements : {known : Option ℕ} {x : Source} → IsOperand known x i
          → Reached (reach_with gs starts kept a known (index_with offset (index_register known x))) x (kept_with a (index_with offset (index_register known x)) kept)
      elements {known} {x} x_is = by known x x_is
        where
          place : ℕ → ℕ
          place w = element_place (width_of gs a) (starts a) w

          near_or_far : {x : Source} {w : ℕ} → IsOperand (Some w) x i → (o : Option ℕ) → direct (width_of gs a) (starts a) (Some w) ≡ o
              → Reached (reach_by (width_of gs a) (starts a) o None (holds_base gs starts kept a None)) x kept
          near_or_far x_is None e = far x_is
          near_or_far {x} {w} x_is (Some p) e =
              let near = cond_some (nat_lt (place w) 65536) (place w) p (if_some (nat_lt w 65536) _ p e).1 in
              close x p (sym near.1 ∙ ap place (x_is.said w refl)) (omega (arith, sym near.1, ltb-true (place w) 65536 near.0))

          by : (known : Option ℕ) (x : Source) → IsOperand known x i
              → Reached (reach_with gs starts kept a known (index_with offset (index_register known x))) x (kept_with a (index_with offset (index_register known x)) kept)
          by None (InRegister t) x_is =
              let is = x_is.means s h in
              cond_both (holds_base gs starts kept a (Some (offset_in offset t))) _ _ (λ r. Reached r (InRegister t) (this t))
              (again t x_is.away is kept refl) (λ _. anew t x_is.away is)
          by None x x_is = far x_is
          by (Some w) x x_is = near_or_far x_is (direct (width_of gs a) (starts a) (Some w)) refl

  -- a pseudo-register that is read is an operand
  pub operand_is : {registers : Places} {g : Arrays} {top : Stored} {fs : List Stored} {s : State} (facts : Facts)
      (h : Stands most total gs starts (hide facts.deferred registers) g (top ∷ fs) s) → AreDeferred facts.deferred registers
      → AreFrameHomes top.homes top.count → IsKnown (known_in facts) top.homes registers top.slots → (x v : ℕ) → read_home top.homes registers top.slots x ≡ Some v
      → IsOperand h (known_in facts x) (operand (slice_get top.homes) facts x) v
  operand_is facts h lz ok k x v e = record {
    away = (operand_means h lz x v ok k e).1;
    means = λ s h. (operand_means h lz x v ok k e).0;
    said = λ c is. same_Some c v (sym (k.by x c is) ∙ e);
    below = operand_below h lz x v ok e;
  }

  module _ (g : Arrays) (fs : List Stored) (P : Run → Type 0) (out : List ℕ) (failed : P (Failed out)) where
    pub performs : (i : RInst) (facts : Facts) (registers : Places) (top : Stored) (s : State) (go : Places → Places → Arrays → Run)
        → AreFrameHomes top.homes top.count → IsKnown (known_in facts) top.homes registers top.slots → AreDeferred facts.deferred registers
        → AreBases gs starts facts s.regs → Stands most total gs starts (hide facts.deferred registers) g (top ∷ fs) s
        → ((registers' slots' : Places) (g' : Arrays) (s' : State) → 1 ≤ length (inst_code gs starts (slice_get top.homes) facts i)
        → RunsTo (inst_code gs starts (slice_get top.homes) facts i) s s' → Stands most total gs starts (hide (learned (slice_get top.homes) i facts).deferred registers') g' (with_slots top slots' ∷ fs) s'
        → AreDeferred (learned (slice_get top.homes) i facts).deferred registers' → AreBases gs starts (learned (slice_get top.homes) i facts) s'.regs → IsKnown (known_in (learned (slice_get top.homes) i facts)) top.homes registers' slots' → IsLast (last_of (slice_get top.homes) facts i) top.homes registers' slots' s'
        → P (go registers' slots' g'))
        → P (with_inst gs i (cells top.homes registers top.slots) g out go)
    performs (Const d w) facts registers top s go ok k lz kp h f =
        tells h lz d (wrap w) (omega arith) ok k P (λ r s. go r s g) out failed
        (λ r' s' to some z. f r' s' g to some z.runs z.stands z.still_deferred (bases_written z.keeps kp) (fact_known facts d (Some (wrap w)) z.is_known)
        (none_last top.homes r' s' to))
    performs (Move d a) facts registers top s go ok k lz kp h f =
        value_or_failed P (read_home top.homes registers top.slots a) out _ failed (λ v e.
        let x = operand_is facts h lz ok k a v e in
        puts h lz d v x.below (λ u is. x.said u is) ok k P (λ r s. go r s g) (operand (slice_get top.homes) facts a) (x.means s h) out failed
        (λ r' s' to some z. f r' s' g to some z.runs z.stands z.still_deferred (bases_written z.keeps kp) (fact_known facts d (known_in facts a) z.is_known)
        (none_last top.homes r' s' to)))
    performs (Bin op d a b) facts registers top s go ok k lz kp h f =
        value_or_failed P (read_home top.homes registers top.slots a) out _ failed (λ v ev.
        value_or_failed P (read_home top.homes registers top.slots b) out _ failed (λ w ew.
        value_or_failed P (op_result op v w) out _ failed (λ u eu.
        let at = slice_get top.homes in
        let x = operand_is facts h lz ok k a v ev in
        let y = operand_is facts h lz ok k b w ew in
        let z = computes h op (inner_of (at d)) (into (at d)) u (inner_is (at d)) (into_target top.homes top.count d ok) x y eu in
        let before : AreBases gs starts facts (z.to).regs = (kept_same z.others kp.0, offset_same (λ q up _. z.others q up) kp.1) in
        let offset = λ (to : State) (p : Keeps (at d) (z.to).regs to.regs) (held : Holds (at d) to.regs u).
        sum_known op v w u top.count s (z.to).regs to.regs facts.offset eu before.1 z.others (at d) (known_in facts b) (operand at facts a)
        (λ t e. ok.by d (Reg t) e) x.away (x.means s h) y.said p held in
        finishes z.stands lz d u {o = None} (z.ends).below (λ c e. absurd (none-some c e)) ok k P (λ r s. go r s g) _ s z.some out failed z.ends
        (λ r' s' to some p held new. f r' s' g to some p.runs p.stands p.still_deferred ((bases_written p.keeps before).0, offset to p.keeps held)
        (fact_known facts d None p.is_known) (only_fresh new)))))
    performs (Load d a i) facts registers top s go ok k lz kp h f =
        value_or_failed P (read_home top.homes registers top.slots i) out _ failed (λ v ev.
        value_or_failed P (element_at g a v) out _ failed (λ w there.
        let width = width_of gs a in
        let o = reach_of gs starts (slice_get top.homes) facts a i in
        let p = elements h facts.kept facts.offset a v w there kp.0 kp.1 (operand_is facts h lz ok k i v ev) in
        let at = address_of_place (place_in gs starts a v) in
        let load = loads_at width p.to (into (slice_get top.homes d)) (element_base o) (element_offset width (starts a) o) at p.here p.ok in
        let value : shown_at width p.to at ≡ w = (p.stands).elements a v w there in
        let c = set_sets (into_target top.homes top.count d ok) value load in
        let below : w < 2 ^ 32 = rw (← value) (shown_below width p.to at (p.stands).words) in
        finishes p.stands lz d w {o = None} below (λ w e. absurd (none-some w e)) ok k P (λ r s. go r s g) _ s
        (longer_behind (element_code width (starts a) o (operand (slice_get top.homes) facts i)) _ (omega arith)) out failed
        (record { regs = c.regs; runs = runs_then p.runs c.runs; here = c.here; others = c.others; below = below })
        (λ r' s' to some z held new. f r' s' g to some z.runs z.stands z.still_deferred (bases_written z.keeps p.bases) (fact_known facts d None z.is_known)
        (only_fresh new))))
    performs (Store a i b) facts registers top s go ok k lz kp h f =
        value_or_failed P (read_home top.homes registers top.slots i) out _ failed (λ v ev.
        value_or_failed P (read_home top.homes registers top.slots b) out _ failed (λ w ew.
        value_or_failed P (kept_in gs a w) out _ failed (λ c ec.
        value_or_failed P (arrays_with g a v c) out _ failed (λ g' eg.
        let width = width_of gs a in
        let at_g = stored_at g a v c g' eg in
        let x = operand (slice_get top.homes) facts i in
        let y = operand (slice_get top.homes) facts b in
        let y_is = operand_is facts h lz ok k b w ew in
        let o = reach_of gs starts (slice_get top.homes) facts a i in
        let p = elements h facts.kept facts.offset a v at_g.old at_g.was kp.0 kp.1 (operand_is facts h lz ok k i v ev) in
        let m = p.to in
        let z = fetches p.stands 2 w y (omega arith) (omega arith) (y_is.means m p.stands) in
        let to : State = record m { regs = z.regs } in
        let at = address_of_place (place_in gs starts a v) in
        let store = subst (λ w. RunsTo (element_store width (operand_register 2 y) (starts a) o ∷ []) to (set_at width to at w)) z.here
        (stores_at width to (operand_register 2 y) (element_base o) (element_offset width (starts a) o) at
        (rw (read_other m.regs z.regs (element_base o) (λ _. z.others (element_base o) p.apart)) p.here) p.ok) in
        f registers top.slots g' (set_at width to at w) (longer_behind (element_code width (starts a) o x) _ (longer_behind (fetch 2 y) _ (omega arith)))
        (runs_then {u = set_at width to at w} p.runs (runs_then {u = set_at width to at w} z.runs store))
        (data_written a v w g' y_is.below (ap (arrays_with g a v) (sym (kept_is gs a w c ec)) ∙ eg) z.stands) lz
        (kept_same (λ q up. z.others q (omega (arith, up))) (p.bases).0, offset_same (λ q up _. z.others q (omega (arith, up))) (p.bases).1) k
        (none_last top.homes registers top.slots (set_at width to at w))))))
