-- The blocks that stand for a program keep its runs, and so does its unit.
use Rattle.std.proofs.Common.{◌≡◌, ◌≢◌, ℕ, ◌+◌, ◌%◌, ◌^◌, ◌<◌, ◌≤◌, List, [], ◌∷◌, map, length, Some, None, refl, sym, ap, ◌∙◌, arith}
use Rattle.std.specs.Prelude.{slice_get}
use Rattle.std.proofs.lemmas.Bool.Decides.{nat_tests}
use Rattle.std.proofs.lemmas.Option.{same_Some, none-some, slice_get_within, get_or_from_slice_get}
use mathlib.Core.Path.{fun_ext}
use Rattle.words.specs.declared.width.Width.{Width}
use Rattle.words.specs.declared.width.Width.TheVariants.{Word, Byte}
use Rattle.runs.specs.declared.ran.End.TheVariants.{Wrong}
use Rattle.runs.specs.Runs.{Outcome}
use Rattle.runs.specs.Stores.{unset_places}
use Rattle.mips_isa.specs.States.{State, IsWords, byte_of, load_word, load_byte}
use Rattle.mips_isa.specs.Starting.{data_base, stack_end, first_bytes, start_state}
use Rattle.mips_isa.specs.Actions.{action_of}
use Rattle.mips_isa.proofs.StateWords.{start_words}
use Rattle.mblock.specs.declared.limits.TheConstants.{BLOCK_INSTS, UNIT_BYTES}
use Rattle.mblock.specs.Parts.{BlockParts}
use Rattle.mblock.specs.UnitRuns.{unit_run, TellsApart}
use Rattle.mblock.proofs.StateWords.{run_words}
use Rattle.rtl.specs.declared.block.RFunc.{RFunc}
use Rattle.rtl.specs.declared.block.RGlobal.{RGlobal}
use Rattle.rtl.specs.Meaning.{first_values, rtl_run}
use Rattle.mips_homes.specs.HomedRun.{Run, Running, Ended, Failed, registers_at_entry, homed_steps, homed_start, homed_run, outcome}
use Rattle.mips_homes.proofs.Located.{places_keep_runs}
use Rattle.mips_homes.specs.declared.homed.Homed.{Homed}
use Rattle.mips_emit.specs.Elements.{width_of, element_place, address_of_place, data_middle}
use Rattle.mips_emit.specs.Code.{constant}
use Rattle.mips_emit.proofs.Runs.{Point, At, from}
use Rattle.mips_emit.proofs.View.{shown_at, set, set_words, put_here, put_other, constant_set}
use Rattle.mips_emit.proofs.Stands.{Stands, element_aligned, open_data}
use Rattle.mips_emit.proofs.Homes.{call_kept}
use Rattle.mips_emit.proofs.Insts.{value_or_failed}
use Rattle.mips_select.specs.Data.{element_bytes, padded_bytes, start_of}
use Rattle.mips_select.specs.Code.{start_block}
use Rattle.mips_select.specs.Selected.{IsSelected, KeepHomedRuns}
use Rattle.mips_select.specs.Whole.{program_blocks}
use Rattle.mips_select.specs.Laws.{EachUnitKeepsRuns}
use Rattle.mips_select.proofs.DataPlaces.{HaveValues, have_values, data_fits, element_within, element_byte, start_even, elements_apart, data_below}
use Rattle.mips_select.proofs.DataPlaces.{values_below, data_starts_same}
use Rattle.mips_select.proofs.Simulation.{Lead, Reach, code_leads, departs, reach_after, entered, return_found, runs}
use Rattle.mips_select.proofs.Linked.{program_well}
use Rattle.mips_select.proofs.Placed.{program_selected}
use Rattle.mips_select.proofs.SplitSimulation.{comes_to}

-- what a function saves is unset at the start as it is
entry_unset : (saved : List ℕ) → registers_at_entry saved unset_places ≡ unset_places
entry_unset saved = fun_ext (λ r. grind arith)

-- a byte of data at the start
data_byte : (data_list : List ℕ) (p b : ℕ) → length data_list ≤ UNIT_BYTES → slice_get data_list p ≡ Some b → first_bytes data_list (data_base + p) ≡ b
data_byte l p b few there = grind (arith, nat_tests, slice_get_within l p b there, get_or_from_slice_get l p b 0 there)

module _ (l : List ℕ) (few : length l ≤ UNIT_BYTES) where
  -- what a load sees where the bytes of an element stand
  element_shown : (w : Width) (start i v : ℕ) → v < 2 ^ 32 → start % 4 ≡ 0 → ((k b : ℕ) → slice_get (element_bytes w v) k ≡ Some b
      → slice_get l (element_place w start i + k) ≡ Some b) → shown_at w (start_state l) (address_of_place (element_place w start i)) ≡ v
  unfolding load_word load_byte
  element_shown Byte start i v lt even there =
      let p = element_place Byte start i in
      let here : slice_get l p ≡ Some v = grind (arith, there 0 v refl) in
      let ok = open_data Byte (length l) p (element_aligned Byte start i even) (slice_get_within l p v here) in
      rw ok (data_byte l p v few here)
  element_shown Word start i v lt even there =
      let p = element_place Word start i in
      let s = start_state l in
      let a = data_base + p in
      let here : slice_get l p ≡ Some (byte_of v 0) = grind (arith, there 0 (byte_of v 0) refl) in
      let ok = open_data Word (length l) p (element_aligned Word start i even) (slice_get_within l p (byte_of v 0) here) in
      let b0 : s.memory a ≡ byte_of v 0 = data_byte l p (byte_of v 0) few here in
      let b : (k : ℕ) → slice_get (element_bytes Word v) k ≡ Some (byte_of v k) → s.memory (a + k) ≡ byte_of v k =
      λ k e. grind (arith, data_byte l (p + k) (byte_of v k) few (there k (byte_of v k) e)) in
      rw (ok, b0, b 1 refl, b 2 refl, b 3 refl) (omega arith)

-- the state at the start holds the globals
module _ (globals : List RGlobal) (ok : HaveValues globals) (few : length (padded_bytes globals) ≤ UNIT_BYTES) (most : ℕ) where
  pub start_holds : (f : ℕ → ℕ) → IsWords (record (start_state (padded_bytes globals)) { regs = f }) → f 29 ≡ stack_end → f 28 ≡ data_middle
      → Stands most (length (padded_bytes globals)) globals (start_of globals) unset_places (map first_values globals) []
      (record (start_state (padded_bytes globals)) { regs = f })
  start_holds f words top gp = record {
    words = words;
    mapped = refl;
    held = λ r v low high at. absurd (none-some v at);
    stack = top;
    room = omega (arith, top);
    aligned = ap (λ p. p % 4) top;
    elements = λ a i v at. element_shown (padded_bytes globals) few (width_of globals a) (start_of globals a) i v (values_below globals a i v at)
        (start_even 0 globals (omega arith) a)
        (λ k b byte. element_byte 0 globals ok a i v k b (element_place (width_of globals a) (start_of globals a) i + k) at byte (omega arith));
    places = record {
      inside = λ a i v at. omega (arith, element_within 0 globals ok a i v at);
      apart = λ a i b j v w e f ne. elements_apart 0 globals ok a i b j v w e f ne;
      even = start_even 0 globals (omega arith);
      few = few;
    };
    linked = tt;
    gp = gp;
  }

module _ {h : Homed} {depth : ℕ} {blocks : List BlockParts} (ok : IsSelected h depth blocks) {links : ℕ → ℕ} (tells : TellsApart links blocks) where
  abbrev globals : List RGlobal
  globals = (h.rtl.now).globals

  abbrev main : ℕ
  main = (h.rtl.now).main

  abbrev s : State
  s = start_state (padded_bytes globals)

  abbrev start : Point
  start = At 0 (constant 28 data_middle) s []

  abbrev Comes : ℕ → Point → Run → Type 0
  Comes n p run = Reach ok tells n p run

  starts_reach : Comes 0 start (homed_start h)
  starts_reach =
      value_or_failed (λ run. Comes 0 start run) (slice_get (h.rtl.now).functions main) [] _ tt (λ func func_there.
      value_or_failed (λ run. Comes 0 start run) (slice_get h.frames.items main) [] _ tt (λ frame frame_there.
      let is = ok.functions main func frame func_there frame_there in
      let callee = (ok.program).main in
      let none : func.parameters ≡ 0 = ap (λ (f : RFunc). f.parameters) (same_Some func callee.callee (sym func_there ∙ callee.there)) ∙ callee.takes in
      let c = constant_set s 28 data_middle (omega arith) in
      let s0 : State = record s { regs = c.regs } in
      let values = have_values globals (ok.program).globals in
      let few = data_fits globals values (ok.program).words_fit in
      let st0 = start_holds globals values few ok.most c.regs (run_words (map action_of (constant 28 data_middle)) s s0
      (start_words (padded_bytes globals) (data_below globals)) (c.runs).ends) (c.others 29 (omega arith)) c.here in
      let s1 = set s0 31 (links 0) in
      let st1 = call_kept st0 (set_words s0 31 (links 0) st0.words (tells.words 0)) tt (λ q low high. put_other s0.regs 31 (links 0) q (omega (arith, high))) in
      reach_after ok tells 0 1 _ (omega arith) (code_leads ok tells 0 [] c.runs)
      (rw (entry_unset frame.saved.items) at (entered ok tells (At 0 [] s0 []) main func frame is unset_places
      (map first_values globals) [] (links 0) None [] [] s1 [] (λ form there. departs ok tells ok.start refl (λ n. rw there)) st1 (λ q passes. refl)
      (put_here s0.regs 31 (links 0) (omega arith)) (λ j v at. absurd (none-some v at)) (sym none)
      (omega (arith, ok.small)) (return_found links blocks 0 (ok.entry main) 1 (start_block (ok.entry main)) tells ok.start refl)))))

  led : {count : ℕ} {to : Point} (u : Outcome) → Lead ok tells count start to → from blocks links 0 to ≡ u → unit_run blocks links s count ≡ u
  led {count} u lead e = rw ok.start (grind (arith, lead.by 0, e))

  same_end : (n : ℕ) (run : Run) → Comes n start run → (outcome run).end ≢ Wrong → (i : ℕ) × (n ≤ i) × (unit_run blocks links s i ≡ outcome run)
  same_end n (Running r [] g out) x ne = absurd x.match
  same_end n (Running r (a ∷ ws) g out) x ne =
      (x.count, x.enough, led (outcome (Running r (a ∷ ws) g out)) x.leads (ap (from blocks links 0) (x.match).point))
  same_end n (Ended v out) x ne = (x.count, x.enough, led (outcome (Ended v out)) x.leads (ap (from blocks links 0) x.match))
  same_end n (Failed out) x ne = absurd (ne refl)

pub keep_homed_runs : (h : Homed) (depth : ℕ) (blocks : List BlockParts) → IsSelected h depth blocks → KeepHomedRuns h depth blocks
keep_homed_runs h depth blocks ok n ne links tells =
    same_end ok tells n (homed_steps h depth n (homed_start h)) (runs ok tells n 0 n (start ok tells) (homed_start h) (omega arith) (starts_reach ok tells)) ne

-- so does the unit, in which long blocks are cut
pub each_unit : EachUnitKeepsRuns
each_unit h depth ok choices fit r right =
    let globals = (h.rtl.now).globals in
    let same : homed_run h depth r ≡ rtl_run h.rtl.now depth r = places_keep_runs h choices depth r in
    let selected = program_selected h depth ok choices fit in
    let blocks_come_to = rw same at (keep_homed_runs h depth (program_blocks h) selected r (rw same right)) in
    rw (← data_starts_same globals (have_values globals ok.globals))
    (comes_to BLOCK_INSTS (program_blocks h) (program_well h ok choices.long).0 (start_state (padded_bytes globals)) r (rtl_run h.rtl.now depth r)
    blocks_come_to)
