-- Each step over homes is one or more items of the unit.
use Rattle.std.proofs.Common.{◌≡◌, ◌≢◌, ℕ, zero, suc, ◌+◌, ◌*◌, ◌≤◌, ◌==◌, ◌⊎◌, inl, inr, Bool, true, false, eqb-true, ◌&&◌, List, [], ◌∷◌, ◌++◌}
use Rattle.std.proofs.Common.{length, Option, Some, None, refl, sym, ap, ◌∙◌, subst, arith, nat_eq, nat_lt, true≢false, ltb-true, ◌<◌}
use Rattle.std.specs.Prelude.{if◌then◌else◌, not, slice_get}
use Rattle.std.proofs.lemmas.List.{append-nil, append_assoc}
use Rattle.std.proofs.lemmas.Option.{same_Some, none-some, slice_get_within}
use Rattle.std.proofs.Math.Nat.{mul-le-mul_right}
use Rattle.std.proofs.lemmas.Bool.{and_parts, cond_both, cases_eq}
use Rattle.runs.specs.Stores.{Places, places_with, unset_places, Arrays}
use Rattle.mips_isa.specs.declared.inst.Plain.{Plain}
use Rattle.mips_isa.specs.States.{State}
use Rattle.mips_isa.proofs.Registers.{cond-ap}
use Rattle.mblock.specs.declared.exit.Exit.{Exit}
use Rattle.mblock.specs.declared.exit.Exit.TheVariants as E
use Rattle.mblock.specs.Parts.{BlockParts}
use Rattle.mblock.specs.BlockMeaning.{exit_effect}
use Rattle.mblock.specs.UnitRuns.{items, outcome_of_departure, return_block_of, TellsApart, outcome_at_block}
use Rattle.rtl.specs.declared.instruction.RInst.{RInst}
use Rattle.rtl.specs.declared.instruction.RExit.{RExit}
use Rattle.rtl.specs.declared.instruction.RExit.TheVariants.{Goto, Branch, Call, Return, Out}
use Rattle.rtl.specs.declared.block.RBlock.{RBlock}
use Rattle.rtl.specs.declared.block.RFunc.{RFunc}
use Rattle.rtl.specs.declared.block.RGlobal.{RGlobal}
use Rattle.rtl.specs.Meaning.{Code, code_of}
use Rattle.mips_homes.specs.HomedRun.{cells, around, Activation, new_activation, at_code, Run, Running, Ended, Failed, with_value}
use Rattle.mips_homes.specs.HomedRun.{read_home, read_homes, is_callee_saved, callee_saved, write_homes, registers_at_entry}
use Rattle.mips_homes.specs.HomedRun.{registers_at_return, state_at_block, with_result, state_after_return, state_after_exit, step_at}
use Rattle.mips_homes.specs.HomedRun.{homed_step, homed_steps}
use Rattle.mips_homes.specs.declared.homed.Frame.{Frame}
use Rattle.mips_homes.specs.declared.homed.Home.{Home}
use Rattle.mips_homes.specs.declared.homed.Homed.{Homed}
use Rattle.mips_emit.specs.declared.comparison.Comparison.{Comparison}
use Rattle.mips_emit.specs.declared.facts.Last.{Last}
use Rattle.mips_emit.specs.declared.location.Source.{Source}
use Rattle.mips_emit.specs.Locations.{Facts, no_facts, known_in, locations, learned, known_after, fresh_of, last_operand}
use Rattle.mips_emit.specs.Code.{inst_code}
use Rattle.mips_emit.specs.Comparisons.{comparison_code, comparison_of, asked_last, next_code, last_with, no_last, last_after, tested}
use Rattle.mips_emit.specs.Comparisons.{branch_code, branch_exit, is_result, returned, return_code, exit_by_form}
use Rattle.mips_emit.specs.Frames.{IsFrame}
use Rattle.mips_emit.proofs.Runs.{RunsTo, runs_none, runs_then, Point, At, Stopped, from, Leads, leads_then, leads_run, leads_exit}
use Rattle.mips_emit.proofs.View.{word_at, set, set_words, put_here, put_other, moves}
use Rattle.mips_emit.proofs.Stands.{Stored, stack_room, Stands}
use Rattle.mips_emit.proofs.Operands.{passes, Denotes, hide, AreDeferred, none_deferred, AreBases, no_bases, IsLast, none_last, frame_homes}
use Rattle.mips_emit.proofs.Operands.{IsKnown, nothing_known}
use Rattle.mips_emit.proofs.Homes.{fewer_stand, words_kept, call_kept, last_means, fetches, carries, sets_kept, caller_saved_kept, arrives}
use Rattle.mips_emit.proofs.Insts.{value_or_failed, performs}
use Rattle.mips_emit.proofs.Comparing.{none_asked, waiting, compares, asked_result, returned_result}
use Rattle.mips_select.specs.declared.limits.TheConstants.{STACK_BYTES}
use Rattle.mips_select.specs.Data.{padded_bytes, start_of}
use Rattle.mips_select.specs.Plans.{Linking, Placing, placing_of}
use Rattle.mips_select.specs.Code.{epilogue, asked_of, exit_code, exit_of, code_insts, context_in, own_block, result_code, after_block}
use Rattle.mips_select.specs.Selected.{GoesOn, StandsAt, IsPlaced, IsFunction, IsSelected}
use Rattle.mips_select.proofs.Frames.{all_denote, arguments, parameters, stored_frame, frames_of, linked_frames, enters, leaves_frame}
use Rattle.mips_emit.specs.declared.comparison.Form.{Form}
use Rattle.std.proofs.lemmas.Bool.Decides.{nat_tests}
use Rattle.mips_select.proofs.Places.{HasAt, has_whole, has_head, has_tail}

-- ---- how blocks are left, apart from what the unit does then

pub branch_words : (place : ℕ → ℕ) (x y : ℕ) (b : Bool) → (if not b then place y else place x) ≡ place (if b then x else y)
branch_words place x y b = grind arith

pub either : (head : ℕ → List Plain) (x y : ℕ) (b : Bool) → (head y ≡ []) × (head x ≡ []) → head (if b then x else y) ≡ []
either head x y b e = grind arith

-- a callee-saved register is none of those in which arguments are passed
pub above_arguments : (r : Places) (q w : ℕ) → callee_saved r q ≡ Some w → 8 ≤ q
above_arguments r q w e = grind (arith, nat_tests)

-- a branch for a comparison
pub goes_by : (blocks : List BlockParts) (links : ℕ → ℕ) (form : Form) (x y : Source) (t e : ℕ) (k : ℕ) (s : State) (out : List ℕ) (n : ℕ)
    → outcome_of_departure blocks links (exit_effect (exit_by_form form x y t e) s (links k)).goes (items blocks links n)
    (exit_effect (exit_by_form form x y t e) s (links k)).state out
    ≡ outcome_at_block (if passes form x y s then t else e) (slice_get blocks (if passes form x y s then t else e)) (items blocks links n) s out
goes_by blocks links form x y t e k s out n = grind arith

-- by which comparison a branch or a return goes
pub tested_by : (p : Option Comparison) (x : ℕ) (m : Comparison) → tested p x ≡ Some m → (p ≡ Some m) × (m.result ≡ x)
tested_by p x m e = grind (arith, nat_tests)

pub returned_by : (p : Option Comparison) (x : ℕ) → returned p x ≡ true
    → (m : Comparison) × (p ≡ Some m) × (is_result m.form ≡ true) × (m.result ≡ x)
returned_by p x e = grind (arith, nat_tests)

-- behind a comparison neither the exit nor what stands before it goes by what is known
pub same_left : (l : Linking) (p : Placing) (facts known known' : Facts) (i : RInst) (m : Comparison) (n : ℕ) (x : RExit)
    → comparison_of (locations p.frame) facts (asked_of x) i ≡ Some m
    → (exit_of l p known (last_with (Some m) None) n x ≡ exit_of l p known' (last_with (Some m) None) n x)
    × (exit_code p.leaf p.frame known (last_with (Some m) None) x ≡ exit_code p.leaf p.frame known' (last_with (Some m) None) x)
same_left l p facts known known' i m n x is = grind (arith, asked_result, returned_result, none_asked (locations p.frame) facts i m)

-- ---- where a call goes on

-- the call of block k goes on where its link leads back
module _ (links : ℕ → ℕ) (blocks : List BlockParts) (k f n : ℕ) (b : BlockParts) (tells : TellsApart links blocks) (there : slice_get blocks k ≡ Some b)
    (is : b.exit ≡ E.Call f n) where
  found_from : (base : ℕ) (bs : List BlockParts) → HasAt blocks base bs → base ≤ k → k < base + length bs
      → return_block_of links (links k) base bs ≡ Some n
  found_from base [] has low high = absurd (omega (arith, low, high))
  found_from base (x ∷ bs) has low high =
      let rest = λ (other : base ≢ k). found_from (suc base) bs (has_tail has) (omega (arith, low, other)) (omega (arith, high)) in
      grind (arith, nat_tests, cases_eq base k, has_head has, there, is, rest, tells.apart base k x b (has_head has) there)

  pub return_found : return_block_of links (links k) 0 blocks ≡ Some n
  return_found = found_from 0 blocks (has_whole blocks) (omega arith) (omega (arith, slice_get_within blocks k b there))

-- ---- steps

module _ {h : Homed} {depth : ℕ} {blocks : List BlockParts} (ok : IsSelected h depth blocks) {links : ℕ → ℕ} (tells : TellsApart links blocks) where
  abbrev pub gs : List RGlobal
  gs = (h.rtl.now).globals

  abbrev pub starts : ℕ → ℕ
  starts = start_of (h.rtl.now).globals

  abbrev pub total : ℕ
  total = length (padded_bytes (h.rtl.now).globals)

  abbrev pub Stand : Places → Arrays → List Stored → State → Type 0
  Stand r g fs s = Stands ok.most total gs starts r g fs s

  abbrev pub linking : Linking
  linking = record { globals = gs; starts = starts; entry = ok.entry }

  abbrev pub Stood : Bool → Frame → (ℕ → ℕ) → (ℕ → List Plain) → ℕ → RBlock → Type 0
  Stood leaf f place head b block = StandsAt blocks linking (placing_of leaf f place) head b block

  abbrev pub Lead : ℕ → Point → Point → Type 0
  Lead d p q = Leads blocks links d p q

  -- the code of a block
  abbrev pub block_code : Bool → Frame → (place : ℕ → ℕ) → RBlock → List Plain
  block_code leaf f place block = code_insts linking (placing_of leaf f place) no_facts no_last (code_of block)

  -- the block of a unit that stands for what is left of a block
  pub record CodeAt (p : Placing) (head : ℕ → List Plain) (facts : Facts) (last : Last) (k : ℕ) (x : RExit) : Type 0 where
    pub form : BlockParts
    pub next : ℕ
    pub there : slice_get blocks k ≡ Some form
    pub exit : form.exit ≡ exit_of linking p facts last next x
    pub leads_on : GoesOn blocks linking p head next x

  -- the same before some instructions
  abbrev pub CodeBefore : Placing → (head : ℕ → List Plain) → Facts → Last → ℕ → Code → Type 0
  CodeBefore p head facts last k c = CodeAt p head (known_after (locations p.frame) c.insts facts)
      (last_after (locations p.frame) (asked_of c.exit) facts c.insts last) k c.exit

  -- where the blocks of a function stand and what they begin with
  pub record Homes (leaf : Bool) (f : Frame) (bs : List RBlock) : Type 0 where
    pub place : ℕ → ℕ
    pub head : ℕ → List Plain
    pub placed : IsPlaced blocks linking (placing_of leaf f place) head bs
    pub frame : IsFrame ok.most f

  -- where the call with a link goes on, for an activation that waits
  pub record Resumes (link : ℕ) (d : Option ℕ) (w : Activation) : Type 0 where
    pub homes : Homes false w.frame w.blocks
    pub open homes use {place, head, placed, frame}
    pub number : ℕ
    pub found : return_block_of links link 0 blocks ≡ Some number
    pub next : ℕ
    pub after : ((slice_get blocks number ≡ Some (after_block w.frame d (place next))) × (head next ≡ []))
        ⊎ ((number ≡ place next) × (head next ≡ result_code (locations w.frame) d))
    pub block : RBlock
    pub code : w.code ≡ code_of block
    pub at : Stood false w.frame place head next block

  abbrev pub Waits : ℕ → Option ℕ → List Activation → List ℕ → Type 0
  Waits link d [] ls = return_block_of links link 0 blocks ≡ Some 1
  Waits link d (w ∷ ws) [] = ⊥
  Waits link d (w ∷ ws) (l ∷ ls) = Resumes link d w × Waits l w.result_to ws ls

  as_deep : (link : ℕ) (d : Option ℕ) (ws : List Activation) (ls : List ℕ) → Waits link d ws ls → length (frames_of ws ls) ≡ length ws
  as_deep link d [] ls w = refl
  as_deep link d (a ∷ ws) [] w = absurd w
  as_deep link d (a ∷ ws) (l ∷ ls) w = ap suc (as_deep l a.result_to ws ls w.1)

  -- where an activation of a function stands in the unit: its link and those below it, whether it is a leaf, and its blocks
  pub record Lives (f : Frame) (bs : List RBlock) (result_to : Option ℕ) (ws : List Activation) : Type 0 where
    pub link : ℕ
    pub below : List ℕ
    pub leaf : Bool
    pub homes : Homes leaf f bs
    pub open homes use {place, head, placed, frame}
    pub waits : Waits link result_to ws below

  -- the state of a run over homes, and a point of the unit's run
  pub record Match (r : Places) (a : Activation) (ws : List Activation) (g : Arrays) (out : List ℕ) (p : Point) : Type 0 where
    pub state : State
    pub number : ℕ
    pub lives : Lives a.frame a.blocks a.result_to ws
    pub open lives use {link, below, leaf, place, head, placed, frame, waits}
    pub facts : Facts
    pub last : Last
    pub point : p ≡ At number (code_insts linking (placing_of leaf a.frame place) facts last a.code) state out
    pub code : CodeBefore (placing_of leaf a.frame place) head facts last number a.code
    pub is_known : IsKnown (known_in facts) a.frame.homes.items r a.slots
    pub are_deferred : AreDeferred facts.deferred r
    pub are_bases : AreBases gs starts facts state.regs
    pub is_last : IsLast last a.frame.homes.items r a.slots state
    pub stands : Stand (hide facts.deferred r) g (stored_frame leaf a.frame a.slots a.aside link ∷ frames_of ws below) state

  abbrev pub MatchRun : Run → Point → Type 0
  MatchRun (Running r [] g out) p = ⊥
  MatchRun (Running r (a ∷ ws) g out) p = Match r a ws g out p
  MatchRun (Ended v out) p = p ≡ Stopped v out
  MatchRun (Failed out) p = Unit {0}

  pub record Reached (n : ℕ) (p : Point) (run : Run) : Type 0 where
    pub to : Point
    pub count : ℕ
    pub enough : n ≤ count
    pub leads : Lead count p to
    pub match : MatchRun run to

  -- so many items, at least, lead to a point that matches, unless the run went wrong
  abbrev pub Reach : ℕ → Point → Run → Type 0
  Reach n p (Failed out) = Unit {0}
  Reach n p run = Reached n p run

  pub reach_after : (m n : ℕ) {d : ℕ} {p q : Point} (run : Run) → m ≤ d + n → Lead d p q → Reach n q run → Reach m p run
  reach_after m n (Failed out) le lead x = tt
  reach_after m n {d} _ le lead r =
      record { to = r.to; count = d + r.count; enough = omega (arith, le, r.enough); leads = leads_then lead r.leads; match = r.match }

  leads_to : {n d : ℕ} {p q : Point} {run : Run} → Lead d p q → n ≤ d → MatchRun run q → Reached n p run
  leads_to {d = d} {q = q} lead le match = record { to = q; count = d; enough = le; leads = lead; match = match }

  -- instructions up to the exit
  pub code_leads : (k : ℕ) {is : List Plain} {s t : State} (out : List ℕ) → RunsTo is s t → Lead (length is) (At k is s out) (At k [] t out)
  code_leads k {is} {s} {t} out e = subst (λ l. Lead (length is) (At k l s out) (At k [] t out)) (append-nil is) (leads_run k [] out e)

  pub departs : {k : ℕ} {form : BlockParts} {x : Exit} {s : State} {out : List ℕ} {q : Point} → slice_get blocks k ≡ Some form → form.exit ≡ x → ((n : ℕ)
      → outcome_of_departure blocks links (exit_effect x s (links k)).goes (items blocks links n) (exit_effect x s (links k)).state out ≡ from blocks links n
      q) → Lead 1 (At k [] s out) q
  departs there is e = leads_exit there (λ n. rw is (e n))

  jump : {k : ℕ} {form : BlockParts} {t : ℕ} {target : BlockParts} {s : State} {out : List ℕ} → slice_get blocks k ≡ Some form → form.exit ≡ E.Goto t
      → slice_get blocks t ≡ Some target → Lead 1 (At k [] s out) (At t target.insts s out)
  jump there is at = departs there is (λ n. rw at)

  -- one or more items lead there
  abbrev LeadOn : Point → Point → Type 0
  LeadOn p q = (d : ℕ) × (1 ≤ d) × Lead d p q

  -- code that stands in a block of its own, before a block without head, or that is the block's head
  through : {p : Point} {k t : ℕ} {target : BlockParts} {code head rest : List Plain} {s s' : State} {out : List ℕ}
      → slice_get blocks t ≡ Some target → RunsTo code s s'
      → ((form : BlockParts) → slice_get blocks k ≡ Some form → Lead 1 p (At k form.insts s out))
      → ((slice_get blocks k ≡ Some (record { insts = code; exit = E.Goto t })) × (head ≡ [])) ⊎ ((k ≡ t) × (head ≡ code))
      → target.insts ≡ head ++ rest → LeadOn p (At t rest s' out)
  through {k} {t} {target} {code} {s' = s'} {out} there runs enter (inl at) is =
      let last : Lead 1 (At k [] s' out) (At t target.insts s' out) = jump at.0 refl there in
      (1 + (length code + 1), omega arith, leads_then (enter _ at.0) (leads_then (code_leads k out runs) (rw (is, at.1) at last)))
  through {p} {k} {target} {code} {rest} {s} {out} there runs enter (inr at) is =
      let first : Lead 1 p (At k (code ++ rest) s out) = rw (← at.1, ← is) (enter target (rw at.0 there)) in
      (1 + length code, omega arith, rw at.0 at (leads_then first (leads_run k rest out runs)))

  -- where some code of an activation is left
  match_at : {r slots : Places} (a : Activation) {ws : List Activation} {g : Arrays} (out : List ℕ) (l : Lives a.frame a.blocks a.result_to ws) {k : ℕ}
      (c : Code) (facts : Facts) (last : Last) {s : State} → CodeBefore (placing_of l.leaf a.frame l.place) l.head facts last k c
      → IsKnown (known_in facts) a.frame.homes.items r slots → AreDeferred facts.deferred r → AreBases gs starts facts s.regs
      → IsLast last a.frame.homes.items r slots s → Stand (hide facts.deferred r) g (stored_frame l.leaf a.frame slots a.aside l.link ∷ frames_of ws l.below) s
      → Match r (at_code a slots c) ws g out (At k (code_insts linking (placing_of l.leaf a.frame l.place) facts last c) s out)
  match_at a out l {k} c facts last {s} code known deferred bases is_last stands = record {
    state = s;
    number = k;
    lives = l;
    facts = facts;
    last = last;
    point = refl;
    code = code;
    is_known = known;
    are_deferred = deferred;
    are_bases = bases;
    is_last = is_last;
    stands = stands;
  }

  -- at the start of a block nothing is known
  starts_block : {r slots : Places} (a : Activation) {ws : List Activation} {g : Arrays} (out : List ℕ) (l : Lives a.frame a.blocks a.result_to ws)
      {b : ℕ} {block : RBlock} {s : State} → Stood l.leaf a.frame l.place l.head b block
      → Stand r g (stored_frame l.leaf a.frame slots a.aside l.link ∷ frames_of ws l.below) s
      → Match r (at_code a slots (code_of block)) ws g out (At (l.place b) (block_code l.leaf a.frame l.place block) s out)
  starts_block {r} {slots} a out l {b} {block} {s} at st = match_at a out l (code_of block) no_facts no_last
      (record {
        form = own_block linking (placing_of l.leaf a.frame l.place) (l.head b) at.next block;
        next = at.next;
        there = at.there;
        exit = refl;
        leads_on = at.leads_on;
      })
      (nothing_known a.frame.homes.items r slots) (none_deferred r) (no_bases gs starts s.regs) (none_last a.frame.homes.items r slots s) st

  -- a jump over homes
  jumps : (p : Point) (a : Activation) (ws : List Activation) (l : Lives a.frame a.blocks a.result_to ws) (b : ℕ) {r slots : Places}
      {g : Arrays} (out : List ℕ) {s : State} → Stand r g (stored_frame l.leaf a.frame slots a.aside l.link ∷ frames_of ws l.below) s
      → ((block : RBlock) → Stood l.leaf a.frame l.place l.head b block → LeadOn p (At (l.place b) (block_code l.leaf a.frame l.place block) s out))
      → Reach 1 p (state_at_block b a slots (around r ws g out))
  jumps p a ws l b out {s} st f = value_or_failed (λ run. Reach 1 p run) (slice_get a.blocks b) out _ tt (λ block there.
      let at = l.placed.by b block there in
      let lead = f block at in
      leads_to lead.2 lead.1 (starts_block a out l at st))

  -- a function is entered, from a point that leads to its first block
  pub entered : (p : Point) (f : ℕ) (func : RFunc) (frame : Frame) → IsFunction blocks linking ok.most f func frame
      → (r : Places) (arrays : Arrays) (ws : List Activation) (link : ℕ) (result_to : Option ℕ) (below vs : List ℕ) (s : State) (out : List ℕ)
      → ((form : BlockParts) → slice_get blocks (ok.entry f) ≡ Some form → Lead 1 p (At (ok.entry f) form.insts s out))
      → Stand r arrays (frames_of ws below) s → ((q : ℕ) → is_callee_saved q ≡ false → r q ≡ None) → s.regs 31 ≡ link
      → ((j v : ℕ) → slice_get vs j ≡ Some v → s.regs (4 + j) ≡ v) → length vs ≡ func.parameters → suc (length ws) * ok.most ≤ STACK_BYTES
      → Waits link result_to ws below
      → Reach 1 p (write_homes (cells frame.homes.items (registers_at_entry frame.saved.items r) unset_places) 0 vs out (λ r' s'.
      state_at_block 0 (new_activation func.blocks.items frame s' r result_to) s' (around r' ws arrays out)))
  entered p f func frame is r arrays ws link result_to below vs s out enter st passing is_link here count deep waits =
      let one : suc (length ws) * ok.most ≡ ok.most + length ws * ok.most = omega arith in
      let low = rw (as_deep link result_to ws below waits) at (stack_room ok.most (word_at s) (s.regs 29) (frames_of ws below) st.stack) in
      let e = enters ok.small is.leaf is.frame st link is_link is.alone passing (omega (arith, one, deep, low)) in
      let homes : Homes is.leaf frame func.blocks.items = record { place = is.place; head = is.head; placed = is.placed; frame = is.frame } in
      let lives : Lives frame func.blocks.items result_to ws = record { link = link; below = below; leaf = is.leaf; homes = homes; waits = waits } in
      parameters (λ run. Reach 1 p run) out tt e.stands (frame_homes ok.most frame is.frame) vs 4 0
      (λ r' s'. state_at_block 0 (new_activation func.blocks.items frame s' r result_to) s' (around r' ws arrays out))
      (omega arith) (omega (arith, count, is.parameters)) (rw count is.clear)
      (λ j v at. (let low = slice_get_within vs j v at in e.same (4 + j) (omega (arith, low, count, is.parameters))) ∙ here j v at)
      (λ r' slots' s2 e2 st2. jumps p (new_activation func.blocks.items frame slots' r result_to) ws lives 0 out st2 (λ block stood.
      through stood.there (rw (count, append_assoc) at (runs_then e.runs e2)) enter is.first refl))

  -- the link leads back to a block
  back : {k : ℕ} {form : BlockParts} {s : State} {out : List ℕ} {link n : ℕ} {target : BlockParts} → slice_get blocks k ≡ Some form → form.exit ≡ E.Return
      → s.regs 31 ≡ link → return_block_of links link 0 blocks ≡ Some n → slice_get blocks n ≡ Some target → Lead 1 (At k [] s out) (At n target.insts s out)
  back there is at found next = departs there is (λ i. rw (at, found, next))

  -- a return, from a state in which the frame is gone
  returns : {p : Point} {d k : ℕ} {form : BlockParts} {out : List ℕ} {s : State} → Lead d p (At k [] s out) → slice_get blocks k ≡ Some form
      → form.exit ≡ E.Return → (a : Activation) (ws : List Activation) (below : List ℕ) (o : Option ℕ) (r : Places) {g : Arrays} {link : ℕ} → s.regs 31 ≡ link
      → ((v : ℕ) → o ≡ Some v → s.regs 2 ≡ v) → Stand (registers_at_return a.frame.saved.items a.aside r) g (frames_of ws below) s
      → Waits link a.result_to ws below → Reach 1 p (state_after_return o a r ws g out)
  returns {p} {d} {out} {s} lead there is a [] below o r at result st found =
      value_or_failed (λ run. Reach 1 p run) o out (λ v. Ended v out) tt (λ v o_v.
      let s1 = set s 4 (s.regs 2) in
      let value : s1.regs 4 ≡ v = put_here s.regs 4 (s.regs 2) (omega arith) ∙ result v o_v in
      let end : Lead 1 (At 1 [] s1 out) (Stopped v out) = departs ok.end refl (λ n. rw value) in
      leads_to (leads_then lead (leads_then (back there is at found ok.end) (leads_then (code_leads 1 out (moves s 4 2 st.words)) end))) (omega arith) refl)
  returns lead there is a (w ∷ ws) [] o r at result st waits = absurd waits
  returns {p} {d} {k} {out} {s} lead there is a (w ∷ ws) (l ∷ ls) o r {g} {link} at result st waits = put a.result_to resumed
    where
      m : Resumes link a.result_to w
      m = waits.0

      again : Places → Places → Run
      again r' s' = Running r' (at_code w s' w.code ∷ ws) g out

      lives : Lives w.frame w.blocks w.result_to ws
      lives = record { link = l; below = ls; leaf = false; homes = m.homes; waits = waits.1 }

      -- the result is put into its home at the head of the block, or in a block of its own
      resumed : (r' slots' : Places) (s' : State) → RunsTo (result_code (locations w.frame) a.result_to) s s'
          → Stand r' g (stored_frame false w.frame slots' w.aside l ∷ frames_of ws ls) s' → Reach 1 p (again r' slots')
      resumed r' slots' s' e st' =
          let to = At (m.place m.next) (block_code false w.frame m.place m.block) s' out in
          let on : LeadOn (At k [] s out) to = through (m.at).there e (λ target found. back there is at m.found found) m.after refl in
          leads_to (leads_then lead on.2) (omega (arith, on.1))
          (subst (λ code. Match r' (at_code w slots' code) ws g out to) (sym m.code) (starts_block w out lives m.at st'))

      put : (result_to : Option ℕ) → ((r' slots' : Places) (s' : State) → RunsTo (result_code (locations w.frame) result_to) s s'
          → Stand r' g (stored_frame false w.frame slots' w.aside l ∷ frames_of ws ls) s' → Reach 1 p (again r' slots'))
          → Reach 1 p (with_result result_to o (cells w.frame.homes.items (registers_at_return a.frame.saved.items a.aside r) w.slots) out again)
      put None f = f (registers_at_return a.frame.saved.items a.aside r) w.slots s (runs_none s) st
      put (Some x) f = value_or_failed (λ run. Reach 1 p run) o out _ tt (λ v o_v.
          let two = result v o_v in
          arrives st (λ run. Reach 1 p run) again x v 2 out (omega arith) two (rw (← two) ((st.words).regs 2)) (frame_homes ok.most w.frame m.frame) tt
          (λ r' slots' s' e st' _. f r' slots' s' e st'))

  -- behind a block only callee-saved registers are known, and none of them has a word to come
  settled : {deferred r : Places} {g : Arrays} {fs : List Stored} {s : State} → AreDeferred deferred r → Stand (hide deferred r) g fs s
      → Stand (callee_saved r) g fs s
  settled lz st = fewer_stand st (λ q v is. grind (arith, lz.caller_saved q))

  -- an activation that has come to its exit
  module _ {r : Places} {a : Activation} {ws : List Activation} {g : Arrays} {out : List ℕ} {p : Point} (m : Match r a ws g out p) where
    abbrev s : State
    s = m.state

    abbrev k : ℕ
    k = m.number

    abbrev placing : Placing
    placing = placing_of m.leaf a.frame m.place

    abbrev stored : Stored
    stored = stored_frame m.leaf a.frame a.slots a.aside m.link

    abbrev fs : List Stored
    fs = frames_of ws m.below

    abbrev homes : List Home
    homes = a.frame.homes.items

    -- the unit reaches what the run over homes does, from some code in the block
    abbrev From : List Plain → Run → Type 0
    From code run = Reach 1 (At k code s out) run

    -- what an exit reads
    abbrev operand : ℕ → Source
    operand x = last_operand (locations a.frame) m.facts m.last.fresh x

    abbrev Reads : (x v : ℕ) → Type 0
    Reads x v = read_home homes r a.slots x ≡ Some v

    abbrev Leaving : RExit → Type 0
    Leaving x = CodeAt placing m.head m.facts m.last k x

    -- an exit that reads a pseudo-register
    reading : (x : ℕ) (code : List Plain) (go : ℕ → Run) → ((v : ℕ) → Reads x v → From code (go v))
        → From code (with_value (read_home homes r a.slots x) out go)
    reading x code go f = value_or_failed (From code) (read_home homes r a.slots x) out go tt f

    settles : Stand (callee_saved r) g (stored ∷ fs) s
    settles = settled m.are_deferred m.stands

    -- what an exit reads is what the home holds
    means : (x v : ℕ) → Reads x v → Denotes stored.count s (operand x) v
    means x v e = last_means m.stands m.are_deferred x v (frame_homes ok.most a.frame m.frame) m.is_known m.is_last.fresh e

    -- on to a block without a head, behind some code
    goes_on : {code : List Plain} (b : ℕ) (out' : List ℕ) {s1 s2 : State} → RunsTo code s s1 → Stand (callee_saved r) g (stored ∷ fs) s2 → m.head b ≡ []
        → ((target : BlockParts) → slice_get blocks (m.place b) ≡ Some target → Lead 1 (At k [] s1 out) (At (m.place b) target.insts s2 out'))
        → From code (state_at_block b a a.slots (around (callee_saved r) ws g out'))
    goes_on {code} b out' runs st none leave = jumps (At k code s out) a ws m.lives b out' st (λ block stood.
        (length code + 1, omega arith, leads_then (code_leads k out runs) (rw none at (leave _ stood.there))))

    -- back to the activation below, behind some code
    goes_back : (x : Option ℕ) → Leaving (Return x) → {code : List Plain} (o : Option ℕ) {s1 : State} → RunsTo code s s1
        → Stand (callee_saved r) g (stored ∷ fs) s1 → ((v : ℕ) → o ≡ Some v → s1.regs 2 ≡ v)
        → From (code ++ epilogue m.leaf a.frame) (state_after_return o a (callee_saved r) ws g out)
    goes_back x c o runs st result =
        let e = leaves_frame ok.small m.leaf m.frame st (linked_frames ws m.below) in
        returns (code_leads k out (runs_then runs e.runs)) c.there c.exit a ws m.below o (callee_saved r) e.link_is
        (λ v is. e.same 2 (omega arith) ∙ result v is) e.stands m.waits

    branches : (x y z : ℕ) (c : Leaving (Branch x y z)) (v : ℕ) → Reads x v → (t : Option Comparison) → tested m.last.comparison x ≡ t
        → (known : Option ℕ) → known_in m.facts x ≡ known → c.form.exit ≡ branch_exit t known (operand x) (m.place y) (m.place z)
        → From (branch_code t known (operand x)) (state_at_block (if nat_eq v 0 then z else y) a a.slots (around (callee_saved r) ws g out))
    branches x y z c v e None is_test (Some w) is_known is_exit =
        let same : w ≡ v = same_Some w v (sym (m.is_known.by x w is_known) ∙ e) in
        let goes : c.form.exit ≡ E.Goto (m.place (if nat_eq v 0 then z else y)) = cc (cond-ap m.place (nat_eq v 0) z y) in
        goes_on _ out (runs_none s) settles (either m.head z y (nat_eq v 0) c.leads_on) (λ target there. jump c.there goes there)
    branches x y z c v e None is_test None is_known is_exit =
        let one = fetches m.stands 1 v (operand x) (omega arith) (omega arith) (means x v e) in
        goes_on _ out one.runs (settled m.are_deferred one.stands) (either m.head z y (nat_eq v 0) c.leads_on) (λ target there.
        departs c.there is_exit (λ n. rw (one.here, branch_words m.place z y (nat_eq v 0), there)))
    branches x y z c v e (Some n) is_test known is_known is_exit =
        let there = tested_by m.last.comparison x n is_test in
        let taken = m.is_last.comparison n v there.0 (ap (read_home homes r a.slots) there.1 ∙ e) in
        goes_on _ out (runs_none s) settles (either m.head z y (nat_eq v 0) c.leads_on) (λ target there.
        departs c.there is_exit (λ i.
        goes_by blocks links n.form n.left.source n.right.source (m.place y) (m.place z) k s out i
        ∙ rw (taken, branch_words m.place z y (nat_eq v 0), there)))

    gives : (x : ℕ) → Leaving (Return (Some x)) → (v : ℕ) → Reads x v → (b : Bool) → returned m.last.comparison x ≡ b
        → From (return_code b (operand x) ++ epilogue m.leaf a.frame) (state_after_return (Some v) a (callee_saved r) ws g out)
    gives x c v e true is =
        let there = returned_by m.last.comparison x is in
        goes_back (Some x) c (Some v) (runs_none s) settles (λ w some.
        m.is_last.result there.0 v there.1 there.2 (ap (read_home homes r a.slots) there.3 ∙ e) ∙ same_Some v w some)
    gives x c v e false is =
        let one = carries m.stands 2 v (operand x) (omega arith) (means x v e) in
        goes_back (Some x) c (Some v) one.runs (settled m.are_deferred (sets_kept m.stands (omega arith) one)) (λ w some. one.here ∙ same_Some v w some)

    exits : (x : RExit) → Leaving x → From (exit_code m.leaf a.frame m.facts m.last x) (state_after_exit h depth x a (around r ws g out))
    exits (Goto b) c = goes_on b out (runs_none s) settles c.leads_on (λ target there. jump c.there c.exit there)
    exits (Branch x y z) c = reading x _ _ (λ v e. branches x y z c v e (tested m.last.comparison x) refl (known_in m.facts x) refl c.exit)
    exits (Out x next) c = reading x _ _ (λ v e.
        let one = carries settles 4 v (operand x) (omega arith) (means x v e) in
        let st1 = caller_saved_kept settles (above_arguments r) (omega arith) one in
        let s1 : State = record s { regs = one.regs } in
        let st2 = words_kept st1 (set_words s1 2 1 st1.words (omega arith)) (λ q low _. put_other s1.regs 2 1 q (omega (arith, low))) in
        goes_on next (out ++ v ∷ []) one.runs st2 c.leads_on (λ target there. departs c.there c.exit (λ n. rw (one.here, there))))
    exits (Return None) c = goes_back None c None (runs_none s) settles (λ v none. absurd (none-some v none))
    exits (Return (Some x)) c = reading x _ _ (λ v e. gives x c v e (returned m.last.comparison x) refl)
    exits (Call f xs result_to next) c =
        value_or_failed (From start) (read_homes homes r a.slots xs.items) out _ tt (λ vs read_vs.
        value_or_failed (From start) (slice_get a.blocks next) out _ tt (λ block next_there.
        value_or_failed (From start) (slice_get (h.rtl.now).functions f) out _ tt (λ func func_there.
        value_or_failed (From start) (slice_get h.frames.items f) out _ tt (λ callee frame_there.
        cond_both (nat_lt (length (waiting block ∷ ws)) depth && length vs == func.parameters) _ (Failed out) (From start) (λ fits.
        let both = and_parts (nat_lt (length (waiting block ∷ ws)) depth) (length vs == func.parameters) fits in
        let deep : suc (length (waiting block ∷ ws)) * ok.most ≤ depth * ok.most =
        mul-le-mul_right ok.most (ltb-true (length (waiting block ∷ ws)) depth both.0) in
        let is = ok.functions f func callee func_there frame_there in
        let few = is.parameters in
        let count : length vs ≡ func.parameters = eqb-true (length vs) func.parameters both.1 in
        let st = rw no_leaf at m.stands in
        let denote = all_denote m.facts st (frame_homes ok.most a.frame m.frame) m.is_known m.are_deferred xs.items vs read_vs in
        let args = arguments m.facts (above_arguments r) 4 xs.items vs (settled m.are_deferred st) (omega arith) (omega (arith, count, few))
        ((c.leads_on).0).1 denote in
        let s1 : State = record s { regs = args.regs } in
        let s2 = set s1 31 (links k) in
        let st2 = call_kept args.stands (set_words s1 31 (links k) (args.stands).words (tells.words k)) (λ leaf. absurd (true≢false (sym leaf)))
        (λ q low high. put_other s1.regs 31 (links k) q (omega (arith, high))) in
        let placed = rw no_leaf at m.placed in
        let resumes : Resumes (links k) result_to (waiting block) = record {
          homes = record { place = m.place; head = m.head; placed = placed; frame = m.frame };
          number = c.next;
          found = return_found links blocks k (ok.entry f) c.next c.form tells c.there c.exit;
          next = next;
          after = (c.leads_on).1;
          block = block;
          code = refl;
          at = placed.by next block next_there;
        } in
        reach_after 1 1 _ (omega arith) (code_leads k out args.runs)
        (entered (At k [] s1 out) f func callee is (callee_saved r) g (waiting block ∷ ws) (links k) result_to (m.link ∷ m.below) vs s2 out
        (λ form there. departs c.there c.exit (λ n. rw there))
        st2 (λ q passes. ap (λ b. if b then r q else None) passes) (put_here s1.regs 31 (links k) (omega arith))
        (λ j v there. (let low = slice_get_within vs j v there in put_other s1.regs 31 (links k) (4 + j) (omega (arith, low, count, few)))
        ∙ args.here j v there)
        count (omega (arith, deep, ok.room)) (resumes, m.waits))) (λ _. tt)))))
      where
        start : List Plain
        start = exit_code m.leaf a.frame m.facts m.last (Call f xs result_to next)

        no_leaf : m.leaf ≡ false
        no_leaf = ((c.leads_on).0).0

        waiting : RBlock → Activation
        waiting block = at_code a a.slots (code_of block)

    -- the code where some instructions are left
    abbrev left : List RInst → Code
    left is = record { insts = is; exit = a.code.exit }

    abbrev behind : List RInst → Facts → Last → List Plain
    behind is facts last = code_insts linking placing facts last (left is)

    -- the next instruction, with the comparison that is one with the branch if it is such
    next : (i : RInst) (is : List RInst) (o : Option Comparison)
        → comparison_of (locations a.frame) m.facts (asked_last (asked_of a.code.exit) is) i ≡ o
        → CodeBefore placing m.head (learned (locations a.frame) i m.facts) (last_with o (fresh_of (locations a.frame) i)) k (left is)
        → From (next_code (context_in linking placing) m.facts o i
        ++ behind is (learned (locations a.frame) i m.facts) (last_with o (fresh_of (locations a.frame) i)))
        (step_at h depth (i ∷ is) a.code.exit a (around r ws g out))
    next i is None e0 c =
        let code = inst_code gs starts (locations a.frame) m.facts i in
        let now = learned (locations a.frame) i m.facts in
        let last = last_with None (fresh_of (locations a.frame) i) in
        performs g fs (From (code ++ behind is now last)) out tt i m.facts r stored s
        (λ r' s' g'. Running r' (at_code a s' (left is) ∷ ws) g' out) (frame_homes ok.most a.frame m.frame) m.is_known m.are_deferred m.are_bases m.stands
        (λ r' slots' g' s' some e st lz kp kn new.
        leads_to (leads_run k (behind is now last) out e) some (match_at a out m.lives (left is) now last c kn lz kp new st))
    next i (j ∷ js) (Some n) is c = absurd (none_asked (locations a.frame) m.facts i n is)
    next i [] (Some n) is c =
        let code = comparison_code n in
        let now = learned (locations a.frame) i m.facts in
        let rest = exit_code m.leaf a.frame now (last_with (Some n) None) a.code.exit in
        compares ok.most total gs starts g fs (From (code ++ rest)) out tt i m.facts (asked_of a.code.exit) n r stored s
        (λ r' s' g'. Running r' (at_code a s' (left []) ∷ ws) g' out) is (frame_homes ok.most a.frame m.frame) m.is_known m.are_deferred m.stands
        (λ q u s' some e st lz new. leads_to
        (subst (λ l. Lead (length code) (At k (code ++ rest) s out) (At k l s' out))
        (same_left linking placing m.facts now (waiting m.facts q u) i n c.next a.code.exit is).1 (leads_run k rest out e)) some
        (match_at a out m.lives (left []) (waiting m.facts q u) (last_with (Some n) None)
        (record {
          form = c.form;
          next = c.next;
          there = c.there;
          exit = c.exit ∙ (same_left linking placing m.facts now (waiting m.facts q u) i n c.next a.code.exit is).0;
          leads_on = c.leads_on;
        })
        (nothing_known homes (places_with r q (Some u)) a.slots) lz (no_bases gs starts s'.regs) new st))

    step : (is : List RInst) → CodeBefore placing m.head m.facts m.last k (left is)
        → From (behind is m.facts m.last) (step_at h depth is a.code.exit a (around r ws g out))
    step [] c = exits a.code.exit c
    step (i ∷ is) c = next i is (comparison_of (locations a.frame) m.facts (asked_last (asked_of a.code.exit) is) i) refl c

  -- a step
  advances : (run : Run) (p : Point) → MatchRun run p → Reach 1 p (homed_step h depth run)
  advances (Failed out) p m = tt
  advances (Ended v out) p m = leads_to {d = 1} {q = Stopped v out} (rw m (record { by = λ n. refl })) (omega arith) refl
  advances (Running r [] g out) p m = absurd m
  advances (Running r (a ∷ ws) g out) p m = rw m.point (step m a.code.insts m.code)

  -- one more step
  further : (n : ℕ) (p : Point) (run : Run) → Reach n p run → Reach (suc n) p (homed_step h depth run)
  further n p (Failed out) x = tt
  further n p run x = reach_after (suc n) 1 (homed_step h depth run) (omega (arith, x.enough)) x.leads (advances run x.to x.match)

  -- as many items as steps, at least
  pub runs : (n m t : ℕ) (p : Point) (run : Run) → m + n ≡ t → Reach m p run → Reach t p (homed_steps h depth n run)
  runs zero m t p run e x = (let same : m ≡ t = omega (arith, e) in rw same at x)
  runs (suc n) m t p run e x = runs n (suc m) t p (homed_step h depth run) (omega (arith, e)) (further m p run x)
