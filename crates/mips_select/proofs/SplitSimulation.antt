-- The pieces of a unit do what the unit does, whatever the links.
use Rattle.std.proofs.Common.{◌≡◌, ℕ, zero, suc, ◌+◌, ◌<◌, ◌≤◌, ◌==◌, Bool, true, false, List, [], ◌∷◌, ◌++◌, length, Option, Some, None}
use Rattle.std.proofs.Common.{refl, sym, ap, ◌∙◌, arith, drop}
use Rattle.std.specs.Prelude.{if◌then◌else◌, slice_get, slice_index, option_map}
use Rattle.std.proofs.lemmas.List.{append-nil, take-append-drop}
use Rattle.std.proofs.lemmas.Option.{none-some, slice_get_within}
use Rattle.runs.specs.Runs.{Outcome}
use Rattle.mips_isa.specs.declared.inst.Plain.{Plain}
use Rattle.mips_isa.specs.States.{State, read}
use Rattle.mips_isa.specs.Actions.{action_of, is_safe, state_after}
use Rattle.mips_isa.specs.Controls.{pair_passes, zero_passes}
use Rattle.mblock.specs.declared.exit.Exit.{Exit}
use Rattle.mblock.specs.declared.exit.Exit.TheVariants.{Goto, BranchPair, BranchZero, Call, Return, Out, Halt}
use Rattle.mblock.specs.Parts.{BlockParts}
use Rattle.mblock.specs.BlockMeaning.{exit_effect}
use Rattle.mblock.specs.UnitRuns.{wrong, call_return_of, return_block_of, outcome_at_block, outcome_at_return, exit_item, items, unit_run}
use Rattle.mblock.specs.UnitRuns.{Next, is_call, TellsApart, ComesTo}
use Rattle.mblock.specs.Units.{GoesBelow, AreLinked}
use Rattle.mips_select.specs.Split.{renumbered_exit, more_pieces, piece, pieces, count_of, lasts, split_from, first_piece_of, last_of, split_at_most}
use Rattle.mips_select.proofs.Places.{HasAt, has_head, has_tail, has_whole, has_pieces, last_piece, block_there, last_there, last_apart}

-- ---- where a call of the pieces goes on

module _ (most : ℕ) (place links : ℕ → ℕ) (word : ℕ) where
  -- of a block's pieces the last one alone can be a call
  pieces_return : (exit : Exit) (more k : ℕ) (insts : List Plain) (rest : List BlockParts)
      → return_block_of links word k (pieces most exit more k insts ++ rest) ≡ call_return_of exit (links (k + more) == word)
      (return_block_of links word (k + suc more) rest)
  pieces_return exit zero k insts rest = grind arith
  pieces_return exit (suc more) k insts rest = grind (arith, pieces_return exit more (suc k) (drop most insts) rest)

  -- a return finds the first piece of the block that it finds in the long unit
  pub return_renumbered : (long : ℕ → ℕ) (k n : ℕ) (bs : List BlockParts) → ((j : ℕ) → long (n + j) ≡ links (slice_index (lasts most k bs) j))
      → return_block_of links word k (split_from most place k bs) ≡ option_map place (return_block_of long word n bs)
  return_renumbered long k n [] same = refl
  return_renumbered long k n (b ∷ bs) same =
      grind (arith, pieces_return, same 0, return_renumbered long (k + count_of most b) (suc n) bs (λ j. grind (arith, same (suc j))))

-- where a call goes on is below what bounds all targets
pub return_below : (links : ℕ → ℕ) (word bound k : ℕ) (bs : List BlockParts)
    → ((i : ℕ) (b : BlockParts) → slice_get bs i ≡ Some b → GoesBelow bound b.exit) → (t : ℕ) → return_block_of links word k bs ≡ Some t → t < bound
return_below links word bound k [] below t e = absurd (none-some t e)
return_below links word bound k (b ∷ bs) below t e =
    grind (arith, below 0 b refl, return_below links word bound (suc k) bs (λ i b there. below (suc i) b there) t)

-- ---- each item of a long unit is one or more items of its pieces
module _ (whole : List BlockParts) (links : ℕ → ℕ) where
  -- what goes on for i items or more comes to the same
  abbrev Comes : ℕ → (Next → Outcome) → Outcome → Type 0
  Comes i from end = (j : ℕ) × (i ≤ j) × (from (items whole links j) ≡ end)

  -- after i items or more, a run from there ends so
  abbrev Reached : (i k : ℕ) → List Plain → State → List ℕ → Outcome → Type 0
  Reached i k part s out end = Comes i (λ go. go k part s out) end

  -- an exit that enters a block
  entered : (i k : ℕ) {p q : BlockParts} {t : ℕ} (s : State) (out : List ℕ) (end : Outcome) → slice_get whole k ≡ Some p → p.exit ≡ Goto t
      → slice_get whole t ≡ Some q → Reached i t q.insts s out end → Reached i k [] s out end
  entered i k s out end there is at r = (suc r.0, omega (arith, r.1), rw (there, is, at) r.2)

  module _ (most : ℕ) (exit : Exit) (last : ℕ) where
    -- a piece is left for the next one, and the last one as the block is
    abbrev Leaves : (more k : ℕ) → (behind : List Plain) → Exit → Type 0
    Leaves zero k behind e = (behind ≡ []) × (e ≡ exit)
    Leaves (suc more) k behind e = (e ≡ Goto (suc k)) × HasAt whole (suc k) (pieces most exit more (suc k) behind)

    -- a piece behind which so many more come, with what is behind it of the block
    record Inside (more k : ℕ) (behind : List Plain) : Type 0 where
      is_last : k + more ≡ last
      block : BlockParts
      there : slice_get whole k ≡ Some block
      leaves : Leaves more k behind block.exit

    -- the first of several pieces
    enters : (more k : ℕ) (insts : List Plain) → HasAt whole k (pieces most exit more k insts) → k + more ≡ last
        → (b : BlockParts) × (slice_get whole k ≡ Some b) × (behind : List Plain) × (insts ≡ b.insts ++ behind) × Inside more k behind
    enters zero k insts has is =
        let at = has_head has in (_, at, [], sym (append-nil insts), record { is_last = is; block = _; there = at; leaves = (refl, refl) })
    enters (suc more) k insts has is =
        let at = has_head has in
        (_, at, _, sym (take-append-drop most insts), record { is_last = is; block = _; there = at; leaves = (refl, has_tail has) })

    -- at the end of a piece the next one is entered
    next : (more i k : ℕ) {behind : List Plain} (s : State) (out : List ℕ) (end : Outcome) → Inside (suc more) k behind
        → ((part rest : List Plain) → behind ≡ part ++ rest → Inside more (suc k) rest → Reached i (suc k) part s out end) → Reached i k [] s out end
    next more i k {behind} s out end at f =
        let e = enters more (suc k) behind at.leaves.1 (omega (arith, at.is_last)) in
        entered i k s out end at.there at.leaves.0 e.1 (f e.0.insts e.2 e.3 e.4)

    -- an instruction of the block
    steps : (more k : ℕ) (part behind : List Plain) (a : Plain) (rest : List Plain) (i : ℕ) (s : State) (out : List ℕ) (end : Outcome)
        → a ∷ rest ≡ part ++ behind → Inside more k behind
        → ((more k : ℕ) (part behind : List Plain) → rest ≡ part ++ behind → Inside more k behind → Reached i k part (state_after (action_of a) s) out end)
        → Reached (suc i) k part s out (if is_safe (action_of a) s then end else wrong out)
    steps more k (x ∷ part) behind a rest i s out end same at f = let r = f more k part behind (cc) at in (suc r.0, omega (arith, r.1), cc (r.2))
    steps zero k [] behind a rest i s out end same at f = let none : a ∷ rest ≡ [] = same ∙ at.leaves.0 in cc
    steps (suc more) k [] behind a rest i s out end same at f =
        next more (suc i) k s out _ at (λ part left e at. steps more (suc k) part left a rest i s out end (same ∙ e) at f)

    -- the exit of the block
    leaves_last : (more k : ℕ) (part behind : List Plain) (i : ℕ) (s : State) (out : List ℕ) (end : Outcome) → [] ≡ part ++ behind → Inside more k behind
        → Comes i (λ go. exit_item whole links last (Some (piece [] exit)) go s out) end → Reached (suc i) k part s out end
    leaves_last more k (x ∷ part) behind i s out end same at r = cc
    leaves_last zero k [] behind i s out end same at r =
        let here : k ≡ last = omega (arith, at.is_last) in
        (suc r.0, omega (arith, r.1), cc (at.there, at.leaves.1, r.2))
    leaves_last (suc more) k [] behind i s out end same at r =
        next more (suc i) k s out end at (λ part left e at. leaves_last more (suc k) part left i s out end (same ∙ e) at r)

-- ---- whole runs

module _ (most : ℕ) (blocks : List BlockParts) (linked : AreLinked blocks) (links : ℕ → ℕ) where
  abbrev place : ℕ → ℕ
  place n = first_piece_of most blocks n

  abbrev last : ℕ → ℕ
  last n = last_of most blocks n

  abbrev whole : List BlockParts
  whole = split_at_most most blocks

  abbrev long : ℕ → ℕ
  long n = links (last_of most blocks n)

  -- a run of the pieces for a run of the long unit that is in block n
  abbrev Runs : ℕ → Type 0
  Runs i = (n : ℕ) (b : BlockParts) → slice_get blocks n ≡ Some b
      → (rest : List Plain) (s : State) (out : List ℕ) (more k : ℕ) (part behind : List Plain) → rest ≡ part ++ behind
      → Inside whole links most (renumbered_exit place b.exit) (last n) more k behind
      → Reached whole links i k part s out (items blocks long i n rest s out)

  module _ (i : ℕ) (runs : Runs i) where
    abbrev Become : (Next → Outcome) → (Next → Outcome) → Type 0
    Become from to = Comes whole links i from (to (items blocks long i))

    -- a block is entered
    enter : (t : ℕ) → t < length blocks → (s : State) (out : List ℕ)
        → Become (λ go. outcome_at_block (place t) (slice_get whole (place t)) go s out) (λ go. outcome_at_block t (slice_get blocks t) go s out)
    enter t lt s out =
        let found = block_there blocks t lt in
        let b = found.0 in
        let e = enters whole links most (renumbered_exit place b.exit) (last t) (more_pieces most b) (place t) b.insts
        (has_pieces most place whole 0 blocks (has_whole whole) t b found.1) (last_piece most 0 blocks t b found.1) in
        let r = runs t b found.1 b.insts s out (more_pieces most b) (place t) e.0.insts e.2 e.3 e.4 in
        (r.0, r.1, cc (e.1, r.2, found.1))

    -- a return
    enter_back : (word : ℕ) (s : State) (out : List ℕ) → Become (λ go. outcome_at_return whole (return_block_of links word 0 whole) go s out)
        (λ go. outcome_at_return blocks (return_block_of long word 0 blocks) go s out)
    enter_back word s out =
        rw (return_renumbered most place links word long 0 0 blocks (λ j. (let here : 0 + j ≡ j = omega arith in ap long here)))
        (go (return_block_of long word 0 blocks) refl)
      where
        go : (o : Option ℕ) → return_block_of long word 0 blocks ≡ o
            → Become (λ go. outcome_at_return whole (option_map place o) go s out) (λ go. outcome_at_return blocks o go s out)
        go None e = (i, omega arith, refl)
        go (Some t) e = enter t (return_below long word (length blocks) 0 blocks linked.by t e) s out

    -- a branch
    choose : (passes : Bool) (t e : ℕ) → t < length blocks → e < length blocks → (s : State) (out : List ℕ)
        → Become (λ go. outcome_at_block (if passes then place t else place e) (slice_get whole (if passes then place t else place e)) go s out)
        (λ go. outcome_at_block (if passes then t else e) (slice_get blocks (if passes then t else e)) go s out)
    choose true t e t_lt e_lt = enter t t_lt
    choose false t e t_lt e_lt = enter e e_lt

    -- an exit
    departs : (n : ℕ) (exit : Exit) → GoesBelow (length blocks) exit → (s : State) (out : List ℕ)
        → Become (λ go. exit_item whole links (last n) (Some (piece [] (renumbered_exit place exit))) go s out)
        (λ go. exit_item blocks long n (Some (piece [] exit)) go s out)
    departs n (Goto t) low s out = enter t low s out
    departs n (BranchPair test a b t e) low s out = choose (pair_passes test (read 0 s.regs a) (read 0 s.regs b)) t e low.0 low.1 s out
    departs n (BranchZero test a t e) low s out = choose (zero_passes test (read 0 s.regs a)) t e low.0 low.1 s out
    departs n (Call f next) low s out = enter f low.0 (exit_effect (Call f next) s (long n)).state out
    departs n Return low s out = enter_back (read 0 s.regs 31) s out
    departs n (Out next) low s out = enter next low (exit_effect (Out next) s (long n)).state (out ++ read 0 s.regs 4 ∷ [])
    departs n Halt low s out = (i, omega arith, refl)

  runs : (i : ℕ) → Runs i
  runs zero n b there rest s out more k part behind same at = (0, omega arith, refl)
  runs (suc i) n b there (a ∷ rest) s out more k part behind same at =
      steps whole links most (renumbered_exit place b.exit) (last n) more k part behind a rest i s out
      (items blocks long i n rest (state_after (action_of a) s) out) same at (runs i n b there rest (state_after (action_of a) s) out)
  runs (suc i) n b there [] s out more k part behind same at =
      rw there (leaves_last whole links most (renumbered_exit place b.exit) (last n) more k part behind i s out
      (exit_item blocks long n (Some (piece [] b.exit)) (items blocks long i) s out) same at (departs i (runs i) n b.exit (linked.by n b there) s out))

-- from the start of block 0
pub unit_runs : (most : ℕ) (blocks : List BlockParts) → AreLinked blocks → (links : ℕ → ℕ) (s : State) (i : ℕ)
    → (j : ℕ) × (i ≤ j) × (unit_run (split_at_most most blocks) links s j ≡ unit_run blocks (λ n. links (last_of most blocks n)) s i)
unit_runs most [] linked links s i = (i, omega arith, refl)
unit_runs most (b ∷ bs) linked links s i = enter most (b ∷ bs) linked links i (runs most (b ∷ bs) linked links i) 0 (omega arith) s []

-- ---- links that tell the pieces' calls apart tell the calls of the long unit apart

module _ (most : ℕ) (blocks : List BlockParts) where
  -- the last piece of a block is a call where the block is
  last_of_block : (n : ℕ) (b : BlockParts) → slice_get blocks n ≡ Some b
      → (p : BlockParts) × (slice_get (split_at_most most blocks) (last_of most blocks n) ≡ Some p) × (is_call p.exit ≡ is_call b.exit)
  last_of_block n b there =
      let whole = split_at_most most blocks in
      let place = first_piece_of most blocks in
      let p = last_there most (renumbered_exit place b.exit) whole (more_pieces most b) (place n) b.insts
      (has_pieces most place whole 0 blocks (has_whole whole) n b there) in
      (p.0, sym (ap (slice_get whole) (last_piece most 0 blocks n b there)) ∙ p.1, grind (arith, p.2))

  pub told_apart : (links : ℕ → ℕ) → TellsApart links (split_at_most most blocks) → TellsApart (λ n. links (last_of most blocks n)) blocks
  told_apart links tells = record {
    words = λ n. tells.words (last_of most blocks n);
    apart = λ i j a b i_there j_there a_call b_call same.
        let p = last_of_block i a i_there in
        let q = last_of_block j b j_there in
        last_apart most 0 blocks i j (slice_get_within blocks i a i_there) (slice_get_within blocks j b j_there)
        (tells.apart (last_of most blocks i) (last_of most blocks j) p.0 q.0 p.1 q.1 (p.2 ∙ a_call) (q.2 ∙ b_call) same);
  }

-- what the long unit comes to, its pieces come to
pub comes_to : (most : ℕ) (blocks : List BlockParts) → AreLinked blocks → (s : State) (r : ℕ) (end : Outcome) → ComesTo blocks s r end
    → ComesTo (split_at_most most blocks) s r end
comes_to most blocks linked s r end comes links tells =
    let long = comes (λ n. links (last_of most blocks n)) (told_apart most blocks links tells) in
    let short = unit_runs most blocks linked links s long.0 in
    (short.0, omega (arith, long.1, short.1), short.2 ∙ long.2)
