-- The laid out orders run as the unit does.
use Rattle.std.proofs.Common.{◌≡◌, ◌≢◌, ℕ, zero, suc, ◌+◌, ◌-◌, ◌*◌, ◌^◌, ◌<◌, ◌≤◌, inl, inr, Bool, true, false, cond, List, [], ◌∷◌, ◌++◌}
use Rattle.std.proofs.Common.{map, length, slice_get, All, Option, Some, None, ◌==◌, refl, sym, ap, ◌∙◌, subst, true≢false, eqb-true, arith}
use Rattle.std.specs.Prelude.{is_some}
use Rattle.std.proofs.lemmas.List.{length-map}
use Rattle.std.proofs.lemmas.Bool.{cases_lt, cond-true}
use Rattle.std.proofs.lemmas.Option.{same_Some, none-some, slice_get_within}
use Rattle.runs.specs.declared.ran.End.{End}
use Rattle.runs.specs.declared.ran.End.TheVariants.{Wrong, More}
use Rattle.runs.specs.Runs.{Outcome}
use Rattle.mips_isa.specs.declared.inst.Plain.{Plain}
use Rattle.mips_isa.specs.declared.inst.Inst.{Inst}
use Rattle.mips_isa.specs.declared.inst.Inst.TheVariants as I
use Rattle.mips_isa.specs.Ranges.{IsInst}
use Rattle.mips_isa.specs.States.{State, IsWords}
use Rattle.mips_isa.specs.Actions.{action_of, is_safe, state_after, nop}
use Rattle.mips_code.specs.Words.{inst_word}
use Rattle.mblock.specs.declared.exit.Exit.{Exit}
use Rattle.mblock.specs.declared.exit.Exit.TheVariants.{Call}
use Rattle.mblock.specs.Parts.{BlockParts, OrderParts}
use Rattle.std.specs.Option.{option_map_or}
use Rattle.mblock.specs.Slots.{is_slotted}
use Rattle.mblock.specs.BlockMeaning.{Calls, exit_shape, Departure, GoesTo, CallsTo, GoesBack, PrintsTo, HaltsWith, exit_effect}
use Rattle.mblock.specs.BlockMeaning.{exit_effect_after, run, block_effect}
use Rattle.mips_code.specs.declared.steps.Ending.TheVariants as endings
use Rattle.mips_code.specs.Machines as def
use Rattle.mips_code.specs.Machines.{Machine, words_code, machine_run}
use Rattle.mips_asm.specs.Fetching.{insts_code}
use Rattle.mips_asm.specs.Layout.{place, exit_size, exit_insts, slot_insts, jump_to, address_of_place, layout, links_of}
use Rattle.mips_asm.proofs.Fetches.{runs_same}
use Rattle.mips_asm.proofs.Within.{place_next, place_mono, place_most, place_none, place_room}
use Rattle.mblock.specs.UnitRuns.{wrong, outcome_at_block, outcome_at_return, call_return_of, return_block_of, outcome_of_departure}
use Rattle.mblock.specs.UnitRuns.{exit_item, items, unit_run, is_call, TellsApart}
use Rattle.mblock.specs.Orders.{AreOrders}
use Rattle.mips_code.specs.Agreement.{Agrees}
use Rattle.mips_asm.specs.LayoutRuns.{EachLayoutRuns, EachLayoutTellsCallsApart}
use Rattle.mips_asm.proofs.LayoutPlaces.{HasAt, has_back, layout_has, insts_length, slot_length}
use Rattle.mips_asm.proofs.Steps.{machine_at, at, toward, Leads, leads_on, fewer, hop}
use Rattle.mips_asm.proofs.OrderSteps.{Arrives, Placed, order_arrives}
use Rattle.mblock.proofs.StateWords.{run_words, leave_words}
use Rattle.mips_asm.specs.declared.limits.TheConstants.{CODE_WORDS}

-- ---- ends

abbrev pub is_wrong_end : End → Bool
is_wrong_end Wrong = true
is_wrong_end _ = false

abbrev pub is_wrong : Outcome → Bool
is_wrong o = is_wrong_end o.end

pub not_wrong : (e : End) → e ≢ Wrong → is_wrong_end e ≡ false
not_wrong Wrong h = absurd (h refl)
not_wrong _ h = refl

abbrev pub more : List ℕ → Outcome
more out = record { end = More; output = out }

-- the same of the machine
abbrev pub said : List ℕ → def.MachineOutcome
said out = record { end = endings.More; output = out }

-- ---- the items of one block

-- what doesn't go wrong is safe
pub is_right : (b : Bool) (x : Outcome) (out : List ℕ) → is_wrong (cond b x (wrong out)) ≡ false → (b ≡ true) × (is_wrong x ≡ false)
is_right true x out h = (refl, h)
is_right false x out h = absurd (true≢false h)

module _ (blocks : List BlockParts) (links : ℕ → ℕ) (t : ℕ) (out : List ℕ) where
  -- before its exit a block prints nothing
  items_within : (rest : List Plain) (n : ℕ) (s : State) → n ≤ length rest → is_wrong (items blocks links n t rest s out) ≡ false
      → items blocks links n t rest s out ≡ (more out)
  items_within rest zero s le e = refl
  items_within [] (suc n) s le e = absurd (omega arith)
  items_within (i ∷ rest) (suc n) s le e =
      let next = state_after (action_of i) s in
      let right = is_right (is_safe (action_of i) s) (items blocks links n t rest next out) out e in
      rw right.0 (items_within rest n next (omega arith) right.1)

  record Passes (rest : List Plain) (n left_over : ℕ) (s : State) : Type 0 where
    end : State
    ran : run (map action_of rest) s ≡ Some end
    goes : items blocks links n t rest s out ≡ exit_item blocks links t (slice_get blocks t) (items blocks links left_over) end out

  items_past : (rest : List Plain) (n left_over : ℕ) (s : State) → n ≡ length rest + 1 + left_over
      → is_wrong (items blocks links n t rest s out) ≡ false → Passes rest n left_over s
  items_past [] n left_over s e w =
      let one : suc left_over ≡ n = omega arith in
      subst (λ m. Passes [] m left_over s) one (record { end = s; ran = refl; goes = refl })
  items_past (i ∷ rest) zero left_over s e w = absurd (omega arith)
  items_past (i ∷ rest) (suc n) left_over s e w =
      let next = state_after (action_of i) s in
      let right = is_right (is_safe (action_of i) s) (items blocks links n t rest next out) out w in
      let p = items_past rest n left_over next (omega arith) right.1 in
      record { end = p.end; ran = cond-true _ _ _ right.0 ∙ p.ran; goes = cond-true _ _ _ right.0 ∙ p.goes }

-- ---- places

pub there_is : {A : Type 0} (l : List A) (q : ℕ) → q < length l → (x : A) × (slice_get l q ≡ Some x)
there_is [] q lt = absurd (omega arith)
there_is (x ∷ l) zero lt = (x, refl)
there_is (x ∷ l) (suc q) lt = there_is l q (omega arith)

-- the call with a link
record Returned (links : ℕ → ℕ) (word u k : ℕ) (bs : List BlockParts) : Type 0 where
  nth : ℕ
  block : BlockParts
  callee : ℕ
  there : slice_get bs nth ≡ Some block
  calls : block.exit ≡ Call callee u
  link : links (k + nth) ≡ word

returned : (links : ℕ → ℕ) (word u k : ℕ) (bs : List BlockParts) → return_block_of links word k bs ≡ Some u → Returned links word u k bs
returned links word u k [] e = absurd (none-some u e)
returned links word u k (b ∷ rest) e = go (returned links word u (suc k) rest) b.exit refl (links k == word) refl e
  where
    later : Returned links word u (suc k) rest → Returned links word u k (b ∷ rest)
    later r =
        let next : suc k + r.nth ≡ k + suc r.nth = omega arith in
        record { nth = suc r.nth; block = r.block; callee = r.callee; there = r.there; calls = r.calls; link = subst (λ n. links n ≡ word) next r.link }

    go : (return_block_of links word (suc k) rest ≡ Some u → Returned links word u (suc k) rest) → (x : Exit) → b.exit ≡ x → (y : Bool)
        → (links k == word) ≡ y → call_return_of x y (return_block_of links word (suc k) rest) ≡ Some u → Returned links word u k (b ∷ rest)
    go next (Call f n) ex true ey h =
        let here : k ≡ k + 0 = omega arith in
        let is_call = ex ∙ ap (Call f) (same_Some n u h) in
        let links_here = subst (λ m. links m ≡ word) here (eqb-true (links k) word ey) in
        record { nth = 0; block = b; callee = f; there = refl; calls = is_call; link = links_here }
    go next _ _ ex ey h = later (next h)

shape_call : (x : Exit) (f u : ℕ) → exit_shape x ≡ Calls f u → x ≡ Call f u
shape_call (Call g n) f u e = cc
shape_call _ f u e = cc

-- behind a call's slot stands the jump to where it goes on
call_words : (code : List Inst) (start : ℕ → ℕ) (p u f : ℕ) (exit : Exit) (slot : Option Plain) → exit ≡ Call f u
    → is_some slot ≡ is_slotted exit → HasAt code p (exit_insts start p exit slot) → HasAt code (p + 2) (jump_to (start u) ∷ I.Plain nop ∷ [])
call_words code start p u f exit slot e fits h =
    let at_call = subst (λ x. HasAt code p (exit_insts start p x slot)) e h in
    let one = slot_length slot (fits ∙ ap is_slotted e) in
    let two : p + 1 + length (slot_insts slot) ≡ p + 2 = omega (arith, one) in
    subst (λ n. HasAt code n (jump_to (start u) ∷ I.Plain nop ∷ [])) two
    (has_back code (p + 1) (slot_insts slot) (jump_to (start u) ∷ I.Plain nop ∷ []) at_call.1)

shape_size : (x : Exit) (y : Exit) → exit_shape x ≡ exit_shape y → is_call x ≡ true → exit_size y ≡ 4
shape_size (Call f n) y e c = ap exit_size (shape_call y f n (sym e))
shape_size _ y e c = absurd (true≢false (sym c))

-- how many items a number of words may stand for: the two theorems differ in this alone
pub record IsMeasure (blocks : List BlockParts) (orders : List OrderParts) (P : ℕ → ℕ → Type 0) (e : ℕ) : Type 0 where
  pub leaves : (n k j : ℕ) → P n k → 2 + k ≤ j → P (n + e) j
  pub halts : (n j : ℕ) → 2 + n ≤ j → P (n + e) j
  pub block : (t : ℕ) (b : BlockParts) (o : OrderParts) → slice_get blocks t ≡ Some b → slice_get orders t ≡ Some o → (n left_over k j : ℕ)
      → n ≡ length b.insts + 1 + left_over → P (left_over + e) k → length o.insts + k ≤ j → P n j
  pub part : (t : ℕ) (b : BlockParts) (s : State) (out : List ℕ) (n : ℕ) → slice_get blocks t ≡ Some b → n ≤ length b.insts
      → is_wrong (items blocks (links_of orders) n t b.insts s out) ≡ false → (k : ℕ) × P n k
      × (machine_run (insts_code (layout orders)) k (machine_at (place orders t) s out) ≡ said out)

module _ (blocks : List BlockParts) (orders : List OrderParts) (h : AreOrders blocks orders)
    (room : length (layout orders) ≤ CODE_WORDS) where
  abbrev start : ℕ → ℕ
  start = place orders

  abbrev links : ℕ → ℕ
  links = links_of orders

  placed : Placed (layout orders) start
  placed = record { room = room; starts = λ u. omega (arith, place_most orders u, insts_length start orders 0 h.fits, room) }

  order_for : (t : ℕ) (b : BlockParts) → slice_get blocks t ≡ Some b → (o : OrderParts) × (slice_get orders t ≡ Some o)
  order_for t b e = let lt = slice_get_within blocks t b e in there_is orders t (omega (arith, lt, h.long))

  link_is : (t : ℕ) (o : OrderParts) → slice_get orders t ≡ Some o → links t ≡ address_of_place (start t + length o.insts + 2)
  link_is t o e = ap (λ x. address_of_place (start t + option_map_or (λ (o : OrderParts). length o.insts) x 0 + 2)) e

  link_below : (t : ℕ) (o : OrderParts) → slice_get orders t ≡ Some o → links t < 2 ^ 32
  link_below t o e = omega (arith, link_is t o e, place_room orders t o e, insts_length start orders 0 h.fits, room)

  -- a return arrives where its call goes on
  return_hops : (word u : ℕ) (s : State) (out : List ℕ) → return_block_of links word 0 blocks ≡ Some u
      → Leads (layout orders) 2 (toward s word out) (machine_at (start u) s out)
  return_hops word u s out e =
      let r = returned links word u 0 blocks e in
      let o = order_for r.nth r.block r.there in
      let p = start r.nth + length o.0.insts in
      let same : o.0.exit ≡ Call r.callee u = shape_call o.0.exit r.callee u (sym (h.exits r.nth r.block o.0 r.there o.1) ∙ ap exit_shape r.calls) in
      let has : HasAt (layout orders) p (exit_insts start p o.0.exit o.0.slot) =
      rw (length-map o.0.insts I.Plain) at (has_back (layout orders) (start r.nth) (map I.Plain o.0.insts) _ (layout_has orders h.fits r.nth o.0 o.1)) in
      let jumps = call_words (layout orders) start p u r.callee o.0.exit o.0.slot same (h.fits r.nth o.0 o.1) has in
      let nth : 0 + r.nth ≡ r.nth = omega arith in
      let address : address_of_place (p + 2) ≡ word = sym (link_is r.nth o.0 o.1) ∙ ap links (sym nth) ∙ r.link in
      subst (λ x. Leads (layout orders) 2 (toward s x out) (machine_at (start u) s out))
      address (hop (layout orders) (p + 2) (start u) s out room jumps)

  -- a call before another has the lesser link
  before : (i j : ℕ) (a b : BlockParts) → slice_get blocks i ≡ Some a → slice_get blocks j ≡ Some b → is_call a.exit ≡ true → i < j
      → links i < links j
  before i j a b ea eb ca lt =
      let x = order_for i a ea in
      let y = order_for j b eb in
      let size_x : exit_size x.0.exit ≡ 4 = shape_size a.exit x.0.exit (h.exits i a x.0 ea x.1) ca in
      let next = place_next orders i x.0 x.1 in
      let far = place_mono orders (suc i) j (omega arith) in
      let lx = link_is i x.0 x.1 in
      let ly = link_is j y.0 y.1 in
      omega arith

  tells : TellsApart (links) blocks
  tells = record {
    words = λ k. go k (slice_get orders k) refl;
    apart = λ i j a b ea eb ca cb e. elim (cases_lt i j) [
      | inl lt ↦ absurd (let l = before i j a b ea eb ca lt in omega arith)
      | inr ge ↦ elim (cases_lt j i) [
        | inl lt ↦ absurd (let l = before j i b a eb ea cb lt in omega arith)
        | inr le ↦ omega arith
      ]
    ];
  }
    where
      go : (k : ℕ) (x : Option OrderParts) → slice_get orders k ≡ x → links k < 2 ^ 32
      go k (Some o) e = link_below k o e
      go k None e =
          let l : links k ≡ address_of_place (place orders k + 0 + 2) = ap (λ x. address_of_place (place orders k + option_map_or (λ (o : OrderParts). length o.insts) x 0 + 2)) e in
          omega (arith, place_most orders k, insts_length (place orders) orders 0 h.fits)

  module _ (P : ℕ → ℕ → Type 0) (e : ℕ) (measure : IsMeasure blocks orders P e) where
    abbrev Follows : ℕ → Machine → Outcome → Type 0
    Follows n m ran = (k : ℕ) × P n k × Agrees ran (machine_run (insts_code (layout orders)) k m)

    abbrev Entered : ℕ → Type 0
    Entered n = (t : ℕ) (b : BlockParts) (s : State) (out : List ℕ) → slice_get blocks t ≡ Some b → IsWords s
        → is_wrong (items blocks links n t b.insts s out) ≡ false → Follows n (machine_at (start t) s out) (items blocks links n t b.insts s out)

    -- behind an exit
    entered_at : (n : ℕ) → Entered n → (u : ℕ) (m : Machine) (s : State) (out : List ℕ) → IsWords s
        → Leads (layout orders) 2 m (machine_at (start u) s out)
        → is_wrong (outcome_at_block u (slice_get blocks u) (items blocks links n) s out) ≡ false
        → Follows (n + e) m (outcome_at_block u (slice_get blocks u) (items blocks links n) s out)
    entered_at n next u m s out words l w = go (slice_get blocks u) refl w
      where
        go : (x : Option BlockParts) → slice_get blocks u ≡ x → is_wrong (outcome_at_block u x (items blocks links n) s out) ≡ false
            → Follows (n + e) m (outcome_at_block u x (items blocks links n) s out)
        go None ex fine = absurd (true≢false fine)
        go (Some b) ex fine =
            let f = next u b s out ex words fine in
            let a = l.by f.0 in
            (a.0, measure.leaves n f.0 a.0 f.1 a.1, rw a.2 f.2)

    left_at : (n : ℕ) → Entered n → (g : Departure) (m : Machine) (s : State) (out : List ℕ) → IsWords s
        → Arrives (layout orders) start m out g s → is_wrong (outcome_of_departure blocks links g (items blocks links n) s out) ≡ false
        → Follows (n + e) m (outcome_of_departure blocks links g (items blocks links n) s out)
    left_at n next (GoesTo u) m s out words l w = entered_at n next u m s out words l w
    left_at n next (CallsTo f u) m s out words l w = entered_at n next f m s out words l w
    left_at n next (PrintsTo word u) m s out words l w = entered_at n next u m s (out ++ word ∷ []) words l w
    left_at n next (HaltsWith word) m s out words l w = let a = l n in (a.0, measure.halts n a.0 a.1, rw a.2 (record { end = refl; output = refl }))
    left_at n next (GoesBack word) m s out words l w = go (return_block_of links word 0 blocks) refl w
      where
        go : (x : Option ℕ) → return_block_of links word 0 blocks ≡ x
            → is_wrong (outcome_at_return blocks x (items blocks links n) s out) ≡ false
            → Follows (n + e) m (outcome_at_return blocks x (items blocks links n) s out)
        go None ex fine = absurd (true≢false fine)
        go (Some u) ex fine =
            entered_at n next u m s out words
            (fewer (layout orders) 4 2 _ _ (omega arith) (leads_on (layout orders) 2 2 _ _ _ l (return_hops word u s out ex))) fine

    -- a whole block, and what follows
    block_follows : (n left_over t : ℕ) (b : BlockParts) (s : State) (out : List ℕ) → n ≡ length b.insts + 1 + left_over → Entered left_over
        → slice_get blocks t ≡ Some b → IsWords s → is_wrong (items blocks links n t b.insts s out) ≡ false
        → Follows n (machine_at (start t) s out) (items blocks links n t b.insts s out)
    block_follows n left_over t b s out en next eb words w =
        let p = items_past blocks links t out b.insts n left_over s en w in
        let o = order_for t b eb in
        let r = exit_effect b.exit p.end (links t) in
        let effect : block_effect b s (links t) ≡ Some r = ap (λ x. exit_effect_after b.exit x (links t)) p.ran in
        let same = h.means t b o.0 eb o.1 s (links t) r words (link_below t o.0 o.1) effect in
        let arrives =
        order_arrives (layout orders) start o.0 (start t) s (links t) r out placed
        (link_is t o.0 o.1) (layout_has orders h.fits t o.0 o.1) same in
        let goes = p.goes ∙ ap (λ x. exit_item blocks links t x (items blocks links left_over) p.end out) eb in
        let fine = subst (λ x. is_wrong x ≡ false) goes w in
        let f = left_at left_over next r.goes (at (start t + length o.0.insts) arrives.0 out) r.state out
        (leave_words b.exit p.end (links t) (run_words (map action_of b.insts) s p.end words p.ran)
        (link_below t o.0 o.1)) arrives.2 fine in
        let a = arrives.1.by f.0 in
        let ran = machine_run (insts_code (layout orders)) a.0 (machine_at (start t) s out) in
        (a.0, measure.block t b o.0 eb o.1 n left_over f.0 a.0 en f.1 a.1, subst (λ p. Agrees p ran) (sym goes) (rw a.2 f.2))

    follows : (fuel n : ℕ) → n < fuel → Entered n
    follows zero n le t b s out eb words w = absurd (omega arith)
    follows (suc fuel) n le t b s out eb words w = elim (cases_lt (length b.insts) n) [
      | inl over ↦
          block_follows n (n - (length b.insts + 1)) t b s out (omega (arith, over))
          (follows fuel (n - (length b.insts + 1)) (omega (arith, over))) eb words w
      | inr under ↦
          let k = measure.part t b s out n eb under w in (k.0, k.1, rw (items_within blocks links t out b.insts n s under w, k.2) (record { end = refl; output = refl }))
    ]

    -- a run from block 0, over words
    pub from_start : All IsInst (layout orders) → (s : State) → IsWords s → (i : ℕ) → (unit_run blocks links s i).end ≢ Wrong
        → (m : ℕ) × P i m × Agrees (unit_run blocks links s i) (machine_run (words_code (map inst_word (layout orders))) m (machine_at 0 s []))
    from_start fit s words i right = go (slice_get blocks 0) refl (not_wrong (unit_run blocks links s i).end right)
      where
        go : (x : Option BlockParts) → slice_get blocks 0 ≡ x → is_wrong (outcome_at_block 0 x (items blocks links i) s []) ≡ false
            → (m : ℕ) × P i m × Agrees (outcome_at_block 0 x (items blocks links i) s [])
            (machine_run (words_code (map inst_word (layout orders))) m (machine_at 0 s []))
        go None ex fine = absurd (true≢false fine)
        go (Some b) ex fine =
            let f = follows (suc i) i (omega arith) 0 b s [] ex words fine in
            (f.0, f.1, rw (runs_same (layout orders) fit) (rw (place_none orders) at f.2))

pub each_layout_runs : EachLayoutRuns
each_layout_runs blocks orders h room fit =
    from_start blocks orders h room (λ n k. n < 513 * (k + 1)) 513 (record {
      leaves = λ n k j h le. omega arith;
      halts = λ n j le. omega arith;
      block = λ t b o eb eo n left_over k j en lt le. omega (arith, h.short t b eb);
      part = λ t b s out n eb le w. (0, omega (arith, h.short t b eb), refl);
    }) fit

pub each_layout_tells_calls_apart : EachLayoutTellsCallsApart
each_layout_tells_calls_apart = tells
