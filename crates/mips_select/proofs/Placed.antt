-- The blocks for a program stand for it.
use Rattle.std.proofs.Common.{◌≡◌, ℕ, zero, suc, ◌+◌, ◌<◌, ◌≤◌, ◌⊎◌, Bool, false, List, [], ◌∷◌, ◌++◌, length, ⊎_elim, Some, refl}
use Rattle.std.proofs.Common.{ap, ◌∙◌, arith, Option, None, subst}
use Rattle.std.specs.Prelude.{All, slice_get, slice_index, slice_set}
use Rattle.std.proofs.lemmas.Option.{same_Some, none-some, slice_get_within}
use Rattle.std.proofs.lemmas.Bool.Decides.{nat_tests}
use Rattle.mips_isa.specs.declared.inst.Plain.{Plain}
use Rattle.mblock.specs.Parts.{BlockParts}
use Rattle.rtl.specs.declared.instruction.RExit.{RExit}
use Rattle.rtl.specs.declared.instruction.RExit.TheVariants.{Call, Goto, Branch, Return, Out}
use Rattle.rtl.specs.declared.block.RBlock.{RBlock}
use Rattle.rtl.specs.declared.block.RFunc.{RFunc}
use Rattle.rtl.specs.Programs as programs
use Rattle.rtl.specs.Programs.{IsProgram}
use Rattle.mips_homes.specs.Preferences.{exit_reach, blocks_reach}
use Rattle.mips_homes.proofs.Located.{reach_covers, blocks_cover, seated as placed_seated}
use Rattle.mips_homes.specs.Places.{ArePlaced}
use Rattle.mips_homes.specs.declared.homed.Home.TheVariants.{Reg, Copied}
use Rattle.mips_homes.specs.declared.homed.Frame.{Frame}
use Rattle.mips_homes.specs.declared.homed.Homed.{Homed}
use Rattle.mips_emit.specs.Locations.{locations}
use Rattle.mips_select.proofs.Places.{HasAt, has_whole, has_head, has_tail, has_front, has_back}
use Rattle.mips_select.specs.declared.heads.Head.{Head}
use Rattle.mips_select.specs.declared.heads.Head.TheVariants.{Bare, Enters, Takes}
use Rattle.mips_select.specs.Limits.{largest_frame, FramesFit}
use Rattle.mips_select.specs.Heads.{calls_none, is_leaf, unnamed, heads_of, count, lead_in, naming_with_call, note, namings, heads_in}
use Rattle.mips_select.specs.Plans.{Linking, Planning}
use Rattle.mips_select.specs.Code.{prologue, head_code, own_block, prologue_block}
use Rattle.mips_select.specs.Whole.{numbers, next_of, behind, blocks_from, place_in, lead_blocks, planning_in, function_blocks}
use Rattle.mips_select.specs.Whole.{function_size, entries_from, entry_of, functions_blocks, linking_for, program_blocks}
use Rattle.mips_select.specs.Selected.{AreInOrder, AreClear, GoesOn, StandsAt, IsSelected}
use Rattle.mips_select.proofs.Lists.{all_at}
use Rattle.mips_select.proofs.Linked.{behind_length, lead_length, function_length}
use Rattle.mips_select.proofs.FrameSizes.{placed_alone, are_frames}
use Rattle.mips_select.specs.declared.heads.Naming.{Naming}
use Rattle.mips_select.specs.declared.heads.Naming.TheVariants.{Unnamed, Called, Jumped}

-- ---- exits go to blocks without head, but for calls that go on at the store of their result

-- what heads an exit allows
abbrev pub NamedCall : Option ℕ → Head → Type 0
NamedCall d Bare = Unit {0}
NamedCall d Enters = ⊥
NamedCall d (Takes e) = d ≡ Some e

abbrev pub Named : (ℕ → Head) → RExit → Type 0
Named heads (Goto b) = heads b ≡ Bare
Named heads (Branch c t e) = (heads t ≡ Bare) × (heads e ≡ Bare)
Named heads (Call g xs d next) = NamedCall d (heads next)
Named heads (Return o) = Unit {0}
Named heads (Out x next) = heads next ≡ Bare

-- how a table names a block that a jump names, or a call with its result for d
abbrev IsNamed : Option Naming → Option (Option ℕ) → Type 0
IsNamed (Some Unnamed) w = ⊥
IsNamed (Some (Called e)) None = ⊥
IsNamed (Some (Called e)) (Some d) = d ≡ e
IsNamed _ w = Unit {0}

-- one more names it
abbrev naming_by : Option (Option ℕ) → Option Naming → Naming
naming_by None o = Jumped
naming_by (Some d) o = naming_with_call d o

set_keeps : (w w' : Option (Option ℕ)) (l : List Naming) (t b : ℕ) → IsNamed (slice_get l b) w
    → IsNamed (slice_get (slice_set l t (naming_by w' (slice_get l t))) b) w
set_keeps w w' (x ∷ l) zero zero q = grind arith
set_keeps w w' (x ∷ l) (suc t) (suc b) q = set_keeps w w' l t b q
set_keeps w w' _ _ _ q = q

set_makes : (w : Option (Option ℕ)) (l : List Naming) (t : ℕ) → IsNamed (slice_get (slice_set l t (naming_by w (slice_get l t))) t) w
set_makes w [] t = tt
set_makes w (x ∷ l) zero = grind arith
set_makes w (x ∷ l) (suc t) = set_makes w l t

note_keeps : (w : Option (Option ℕ)) (x : RExit) (l : List Naming) (b : ℕ) → IsNamed (slice_get l b) w → IsNamed (slice_get (note x l) b) w
note_keeps w (Goto t) l b q = set_keeps w None l t b q
note_keeps w (Branch c t e) l b q = set_keeps w None (slice_set l t Jumped) e b (set_keeps w None l t b q)
note_keeps w (Out x t) l b q = set_keeps w None l t b q
note_keeps w (Call g xs d t) l b q = set_keeps w (Some d) l t b q
note_keeps w (Return o) l b q = q

namings_keep : (w : Option (Option ℕ)) (bs : List RBlock) (l : List Naming) (b : ℕ) → IsNamed (slice_get l b) w → IsNamed (slice_get (namings bs l) b) w
namings_keep w [] l b q = q
namings_keep w (x ∷ bs) l b q = namings_keep w bs (note x.exit l) b (note_keeps w x.exit l b q)

jumped_after : (bs : List RBlock) (l : List Naming) (t : ℕ) → IsNamed (slice_get l t) None → heads_in (namings bs l) t ≡ Bare
jumped_after bs l t q = grind (arith, namings_keep None bs l t q)

pub named : (bs : List RBlock) (l : List Naming) (i : ℕ) (block : RBlock) → slice_get bs i ≡ Some block → Named (heads_in (namings bs l)) block.exit
named [] l i block there = absurd (none-some block there)
named (x ∷ bs) l (suc i) block there = named bs (note x.exit l) i block there
named (x ∷ bs) l zero block there = subst (λ (block : RBlock). Named (heads_in (namings (x ∷ bs) l)) block.exit) (same_Some x block there) (here x.exit)
  where
    here : (e : RExit) → Named (heads_in (namings bs (note e l))) e
    here (Goto t) = jumped_after bs (note (Goto t) l) t (set_makes None l t)
    here (Branch c t e) = (
      jumped_after bs (note (Branch c t e) l) t (set_keeps None None (slice_set l t Jumped) e t (set_makes None l t)),
      jumped_after bs (note (Branch c t e) l) e (set_makes None (slice_set l t Jumped) e),
    )
    here (Out y t) = jumped_after bs (note (Out y t) l) t (set_makes None l t)
    here (Return o) = tt
    here (Call g xs d t) = grind (arith, nat_tests, namings_keep (Some d) bs (note (Call g xs d t) l) t (set_makes (Some d) l t))

-- ---- homes

-- a home below 8 is in a register in which no argument is passed behind it, and where a parameter comes
abbrev pub AreSeated : RFunc → Frame → Type 0
AreSeated func f = (x r : ℕ) → slice_get f.homes.items x ≡ Some (Reg r)
    → (8 ≤ r) ⊎ ((blocks_reach func.blocks.items x + 3 ≤ r) × (x < func.parameters → r ≡ 4 + x))

abbrev IsOrdered : Frame → RExit → Type 0
IsOrdered f (Call g xs d next) = AreInOrder (locations f) 4 xs.items
IsOrdered f _ = Unit {0}

-- so no argument and no parameter is lost
module _ (func : RFunc) (f : Frame) (range : (x r k : ℕ) → slice_get f.homes.items x ≡ Some (Copied r k) → (8 ≤ r) × (r < 28)) (seated : AreSeated func f) where
  in_order : (t : ℕ) (xs : List ℕ) → ((j x r : ℕ) → slice_get xs j ≡ Some x → slice_get f.homes.items x ≡ Some (Reg r) → t + j ≤ r)
      → AreInOrder (locations f) t xs
  in_order t [] behind = tt
  in_order t (x ∷ xs) behind =
      (grind (arith, behind 0 x, range x), in_order (suc t) xs (λ j y r e there. omega (arith, behind (suc j) y r e there)))

  are_clear : (t x n : ℕ) → t ≡ 4 + x → x + n ≤ func.parameters → AreClear (locations f) t x n
  are_clear t x zero at few = tt
  are_clear t x (suc n) at few = (grind (arith, seated x, range x), are_clear (suc t) (suc x) n (omega (arith, at)) (omega (arith, few)))

  ordered : (functions : List RFunc) (globals blocks : ℕ) (x : RExit) → ((y : ℕ) → exit_reach x y ≤ blocks_reach func.blocks.items y)
      → All (programs.IsFunction functions globals) functions → programs.IsExit functions blocks x → IsOrdered f x
  ordered functions globals blocks (Call g xs d next) covers all ok =
      let callee = ok.0 in
      let few = (all_at (programs.IsFunction functions globals) functions g callee.callee all callee.there).parameters in
      in_order 4 xs.items (λ j y r at there. let lt = slice_get_within xs.items j y at in
      ⊎_elim (λ high. omega (arith, lt, few, callee.takes, high)) (λ is. omega (arith, reach_covers 0 xs.items j y at, covers y, is.0)) (seated y r there))
  ordered functions globals blocks _ covers all ok = tt

-- a leaf has no call
abbrev IsFine : Bool → RExit → Type 0
IsFine leaf x = calls_none x ≡ false → leaf ≡ false

leaf_fine : (bs : List RBlock) (b : ℕ) (block : RBlock) → slice_get bs b ≡ Some block → IsFine (is_leaf bs) block.exit
leaf_fine [] b block there calls = absurd (none-some block there)
leaf_fine (x ∷ bs) zero block there calls = let here : calls_none x.exit ≡ false = rw (same_Some x block there) calls in rw here
leaf_fine (x ∷ bs) (suc b) block there calls = let rest = leaf_fine bs b block there calls in grind (arith, nat_tests)

-- what stands before the own code of each block
abbrev heads_code : Planning → ℕ → List Plain
heads_code p b = head_code p (p.heads b)

-- what the blocks for a block ask of its exit
abbrev Allows : Planning → RExit → Type 0
Allows p x = Named p.heads x × IsFine p.leaf x × IsOrdered p.frame x

module _ (whole : List BlockParts) (l : Linking) where
  goes_on : (p : Planning) (k : ℕ) (x : RExit) (rest : List BlockParts) → Allows p x → HasAt whole (suc k) (behind p x ++ rest)
      → GoesOn whole l p.placing (heads_code p) (next_of p k x) x
  goes_on p k x rest ok has = grind (arith, has_head)

  -- block i of a function is block b of those from j on
  placed : (p : Planning) (k j : ℕ) (bs : List RBlock) → HasAt whole k (blocks_from l p k j bs)
      → ((b : ℕ) (block : RBlock) → slice_get bs b ≡ Some block → Allows p block.exit)
      → (i b : ℕ) (block : RBlock) → slice_get bs b ≡ Some block → p.place i ≡ slice_index (numbers p.heads k bs) b → i ≡ j + b
      → StandsAt whole l p.placing (heads_code p) i block
  placed p k j [] has ok i b block there at is = absurd (none-some block there)
  placed p k j (x ∷ bs) has ok i zero block there at is =
      let j_is : j ≡ i = omega (arith, is) in
      rw (← same_Some x block there) (record {
        next = next_of p k x.exit;
        there = ap (slice_get whole) at ∙ has_head has
            ∙ ap (λ i. Some (own_block l p.placing (head_code p (p.heads i)) (next_of p k x.exit) x)) j_is;
        leads_on = goes_on p k x.exit _ (ok 0 x refl) (has_tail has);
      })
  placed p k j (x ∷ bs) has ok i (suc b) block there at is =
      placed p (k + count p.heads x.exit) (suc j) bs (has_back (behind p x.exit) _ (has_tail has) (omega (arith, behind_length p x.exit)))
      (λ b. ok (suc b)) i b block there at (omega (arith, is))

  -- the prologue stands in a block of its own, or at the head of block 0
  begins : (p : Planning) (k : ℕ) (rest : List BlockParts) (x : Head) → p.heads 0 ≡ x → HasAt whole k (lead_blocks p x ++ rest)
      → (x ≡ Enters → p.place 0 ≡ k) → ((d : ℕ) → x ≡ Takes d → ⊥)
      → ((slice_get whole k ≡ Some (prologue_block p.leaf p.frame p.parameters (p.place 0))) × (heads_code p 0 ≡ []))
      ⊎ ((k ≡ p.place 0) × (heads_code p 0 ≡ prologue p.leaf p.frame p.parameters))
  begins p k rest x e has same none = grind (arith, has_head)

  found : (k : ℕ) (funcs : List RFunc) (fs : List Frame) → HasAt whole k (functions_blocks l k funcs fs)
      → (g : ℕ) (func : RFunc) (f : Frame) → slice_get funcs g ≡ Some func → slice_get fs g ≡ Some f
      → HasAt whole (slice_index (entries_from k funcs) g) (function_blocks l (slice_index (entries_from k funcs) g) func f)
  found k [] fs has g func f there f_there = absurd (none-some func there)
  found k (x ∷ funcs) [] has g func f there f_there = absurd (none-some f f_there)
  found k (x ∷ funcs) (y ∷ fs) has zero func f there f_there = rw (← same_Some x func there, ← same_Some y f f_there) (has_front _ _ has)
  found k (x ∷ funcs) (y ∷ fs) has (suc g) func f there f_there =
      found (k + function_size x) funcs fs (has_back _ _ has (ap (λ n. k + n) (function_length l k x y))) g func f there f_there

first_place : (k : ℕ) (bs : List RBlock) → heads_of bs 0 ≡ Enters → slice_index (numbers (heads_of bs) (k + lead_in (heads_of bs)) bs) 0 ≡ k
first_place k [] e = let no : Bare ≡ Enters = e in cc
first_place k (b ∷ bs) e = grind arith

pub program_selected : (h : Homed) (depth : ℕ) → IsProgram h.rtl.now → ArePlaced h → FramesFit h.rtl.now depth → IsSelected h depth (program_blocks h)
program_selected h depth ok choices fit = record {
  entry = entry_of (h.rtl.now).functions;
  most = largest_frame (h.rtl.now).functions;
  program = ok;
  start = refl;
  end = refl;
  functions = λ g func f there_f f_there.
      let program = h.rtl.now in
      let whole = program_blocks h in
      let l = linking_for program in
      let k = entry_of program.functions g in
      let bs = func.blocks.items in
      let p = planning_in func.parameters k bs f in
      let has = found whole l 2 program.functions h.frames.items (has_tail (has_tail (has_whole whole))) g func f there_f f_there in
      let heads = heads_of bs in
      let first = k + lead_in heads in
      let is = all_at (programs.IsFunction program.functions (length program.globals)) program.functions g func ok.functions there_f in
      let q = choices.by g func f there_f f_there in
      let frame = are_frames h choices g f f_there in
      let range = ((frame.homes).copied).range in
      let seats = placed_seated func q.choice f q.is q.placed in
      let allows : (b : ℕ) (block : RBlock) → slice_get bs b ≡ Some block → Allows p block.exit = λ b block at. (
        named bs (unnamed bs) b block at,
        leaf_fine bs b block at,
        ordered func f range seats program.functions (length program.globals) (length bs) block.exit (λ y. blocks_cover bs b block y at) ok.functions
            (all_at (programs.IsBlock program.functions (length program.globals) (length bs)) bs b block is.blocks at).exit,
      ) in
      let has' : HasAt whole first (blocks_from l p first 0 bs) = has_back _ _ has (ap (λ n. k + n) (lead_length p (heads 0))) in
      record {
        leaf = is_leaf bs;
        place = place_in k bs;
        head = heads_code p;
        first = begins whole l p k (blocks_from l p first 0 bs) (heads 0) refl has (first_place k bs) (λ d e. grind arith);
        placed = record { by = λ b block there. placed whole l p first 0 bs has' allows b b block there refl (omega arith) };
        frame = frame;
        parameters = is.parameters;
        clear = are_clear func f range seats 4 0 func.parameters refl (omega arith);
        alone = placed_alone q;
      };
  small = fit.frames;
  room = fit.stack;
}
