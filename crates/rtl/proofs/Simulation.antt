-- With tails a program comes to the same, step for step.
use Rattle.std.proofs.Common.{◌≡◌, ℕ, zero, suc, ◌⊎◌, inl, inr, Bool, true, false, List, [], ◌∷◌, ◌++◌, Option, Some, None}
use Rattle.std.proofs.Common.{length, nat_eq, nat_lt, refl, ap, ap₂, subst, sym, ◌∙◌}
use Rattle.std.specs.Prelude.{slice_get, map, ◌&&◌, ◌||◌, ◌==◌, if◌then◌else◌}
use Rattle.std.proofs.Common.{eqb-true, eq-eqb, true≢false}
use Rattle.words.specs.Words.{wrap}
use Rattle.runs.specs.Stores.{Places, unset_places, places_with, Arrays, chain, element_at, arrays_with}
use Rattle.runs.specs.Runs.{Running, Ended, Failed, with_value, outcome}
use Rattle.rtl.specs.declared.instruction.RInst.{RInst}
use Rattle.rtl.specs.declared.instruction.RInst.TheVariants.{Const, Move, Bin, Load, Store}
use Rattle.rtl.specs.declared.instruction.RExit.{RExit}
use Rattle.rtl.specs.declared.instruction.RExit.TheVariants.{Goto, Branch, Call, Return, Out}
use Rattle.rtl.specs.declared.block.RBlock.{RBlock}
use Rattle.rtl.specs.declared.block.RFunc.{RFunc}
use Rattle.rtl.specs.declared.block.RGlobal.{RGlobal}
use Rattle.rtl.specs.Operators.{op_result}
use Rattle.rtl.specs.Programs.{Program}
use Rattle.rtl.specs.Meaning.{Code, Frame, Run, Surroundings, activation, at, around_callee, code_of, words_in, argument_registers, kept_in}
use Rattle.rtl.specs.Meaning.{with_inst, state_at_block, state_after_return, state_after_call, state_after_exit, step_at, rtl_step, rtl_steps}
use Rattle.rtl.specs.Meaning.{rtl_start, first_values}
use Rattle.rtl.specs.Names.{is_in, inst_reads, inst_writes}
use Rattle.rtl.specs.Tails.{writes_first, joined, is_reached, AreMade, HasTails, IsTailed, RunsAlike}
use Rattle.rtl.proofs.Copies.{Tail, Copy, Leads, found, not_found, function_at, no_function_at}

-- ---- configurations

abbrev Same : Places → Places → Type 0
Same r r' = (x : ℕ) → r' x ≡ r x

-- registers that are the same but for one
abbrev SameBut : ℕ → Places → Places → Type 0
SameBut d r r' = (x : ℕ) → nat_eq x d ≡ false → r' x ≡ r x

-- an activation that waits, or that runs and is at the start of no copy
record Waits (f f' : Frame) : Type 0 where
  blocks : AreMade f.blocks f'.blocks
  to : f'.result_to ≡ f.result_to
  same : Same f.registers f'.registers
  copy : Copy f.blocks f.code f'.code
  leads : Leads blocks.with_tails f'.code.exit

-- one that is in a copy that is still to write d
record Begins (f f' : Frame) : Type 0 where
  blocks : AreMade f.blocks f'.blocks
  to : f'.result_to ≡ f.result_to
  d : ℕ
  first : writes_first f.code.insts d ≡ true
  same : SameBut d f.registers f'.registers
  code : f'.code ≡ f.code
  leads : Leads blocks.with_tails f'.code.exit

abbrev Wait : List Frame → List Frame → Type 0
Wait [] [] = Unit {0}
Wait (f ∷ fs) (f' ∷ fs') = Waits f f' × Wait fs fs'
Wait _ _ = ⊥

abbrev Stack : List Frame → List Frame → Type 0
Stack [] [] = Unit {0}
Stack (f ∷ fs) (f' ∷ fs') = (Waits f f' ⊎ Begins f f') × Wait fs fs'
Stack _ _ = ⊥

record Both (fs : List Frame) (g : Arrays) (out : List ℕ) (s' : Run) : Type 0 where
  frames : List Frame
  is : s' ≡ Running frames g out
  stack : Stack fs frames

abbrev Alike : Run → Run → Type 0
Alike (Running fs g out) s' = Both fs g out s'
Alike (Ended w out) s' = s' ≡ Ended w out
Alike (Failed out) s' = s' ≡ Failed out

-- ---- values

alike_value : {A : Type 0} (o o' : Option A) (out : List ℕ) (go go' : A → Run) → o' ≡ o → ((a : A) → Alike (go a) (go' a))
    → Alike (with_value o out go) (with_value o' out go')
alike_value None o' out go go' e k = subst (λ o'. Alike (Failed out) (with_value o' out go')) (sym e) refl
alike_value (Some a) o' out go go' e k = subst (λ o'. Alike (go a) (with_value o' out go')) (sym e) (k a)

same_with : (r r' : Places) (d : ℕ) (v : Option ℕ) → Same r r' → Same (places_with r d v) (places_with r' d v)
same_with r r' d v same x = ap (λ w. if nat_eq x d then v else w) (same x)

but_set : (r r' : Places) (d : ℕ) (v : Option ℕ) → Same r r' → SameBut d r (places_with r' d v)
but_set r r' d v same x other = ap (λ (b : Bool). if b then v else r' x) other ∙ same x

same_words : (r r' : Places) (xs : List ℕ) → Same r r' → words_in r' xs ≡ words_in r xs
same_words r r' [] same = refl
same_words r r' (x ∷ xs) same =
    ap₂ (λ (o : Option ℕ) (vs : Option (List ℕ)). chain o (λ v. chain vs (λ vs. Some (v ∷ vs)))) (same x) (same_words r r' xs same)

-- ---- instructions

-- a number is in a list that begins with it, or with one other
here : (b : ℕ) (rest : List ℕ) → is_in (b ∷ rest) b ≡ true
here b rest = ap (λ c. c || is_in rest b) (eq-eqb b b refl)

behind : (a b : ℕ) → is_in (a ∷ b ∷ []) b ≡ true
behind a b = by (nat_eq b a) (here b [])
  where
    by : (c : Bool) → is_in (b ∷ []) b ≡ true → (c || is_in (b ∷ []) b) ≡ true
    by true e = refl
    by false e = e

-- the registers behind an instruction that writes a value
abbrev behind_inst : RInst → Places → Option ℕ → Places
behind_inst (Const d w) r v = places_with r d v
behind_inst (Move d a) r v = places_with r d v
behind_inst (Bin op d a b) r v = places_with r d v
behind_inst (Load d a i) r v = places_with r d v
behind_inst (Store a i b) r v = r

-- where an instruction reads the same, whatever holds behind it
alike_inst : (gs gs' : List RGlobal) → gs' ≡ gs → (g : Arrays) (out : List ℕ) (i : RInst) (r r' : Places) (go go' : Places → Arrays → Run)
    (After : Places → Places → Type 0) → ((x : ℕ) → is_in (inst_reads i) x ≡ true → r' x ≡ r x)
    → ((v : Option ℕ) → After (behind_inst i r v) (behind_inst i r' v))
    → ((q q' : Places) (h : Arrays) → After q q' → Alike (go q h) (go' q' h))
    → Alike (with_inst gs i r g out go) (with_inst gs' i r' g out go')
alike_inst gs gs' is g out (Const d w) r r' go go' After reads put k = k _ _ g (put (Some (wrap w)))
alike_inst gs gs' is g out (Move d a) r r' go go' After reads put k =
    alike_value (r a) _ out _ _ (reads a (here a [])) (λ v. k _ _ g (put (Some v)))
alike_inst gs gs' is g out (Bin op d a b) r r' go go' After reads put k =
    alike_value (r a) _ out _ _ (reads a (here a (b ∷ []))) (λ x.
    alike_value (r b) _ out _ _ (reads b (behind a b)) (λ y.
    alike_value (op_result op x y) _ out _ _ refl (λ v. k _ _ g (put (Some v)))))
alike_inst gs gs' is g out (Load d a i) r r' go go' After reads put k =
    alike_value (r i) _ out _ _ (reads i (here i [])) (λ x.
    alike_value (element_at g a x) _ out _ _ refl (λ v. k _ _ g (put (Some v))))
alike_inst gs gs' is g out (Store a i b) r r' go go' After reads put k =
    alike_value (r i) _ out _ _ (reads i (here i (b ∷ []))) (λ x.
    alike_value (r b) _ out _ _ (reads b (behind i b)) (λ v.
    alike_value (kept_in gs a v) _ out _ _ (ap (λ gs. kept_in gs a v) is) (λ w.
    alike_value (arrays_with g a x w) _ out _ _ refl (λ h. k _ _ h (put None)))))

put_same : (i : RInst) (r r' : Places) → Same r r' → (v : Option ℕ) → Same (behind_inst i r v) (behind_inst i r' v)
put_same (Store a i b) r r' same v = same
put_same (Const d w) r r' same v = same_with r r' d v same
put_same (Move d a) r r' same v = same_with r r' d v same
put_same (Bin op d a b) r r' same v = same_with r r' d v same
put_same (Load d a i) r r' same v = same_with r r' d v same

-- an instruction that doesn't read d reads the same
unread : (xs : List ℕ) (d x : ℕ) → is_in xs d ≡ false → is_in xs x ≡ true → nat_eq x d ≡ false
unread xs d x un read = by (nat_eq x d) refl
  where
    by : (b : Bool) → nat_eq x d ≡ b → b ≡ false
    by false e = refl
    by true e = sym read ∙ ap (is_in xs) (eqb-true x d e) ∙ un

-- behind one that writes x: the same again, if that is d
abbrev Now : (d : ℕ) → (written : Bool) → Places → Places → Type 0
Now d true q q' = Same q q'
Now d false q q' = SameBut d q q'

now_with : (d x : ℕ) (r r' : Places) (v : Option ℕ) → SameBut d r r' → Now d (is_in (x ∷ []) d) (places_with r x v) (places_with r' x v)
now_with d x r r' v same = by (nat_eq d x) refl
  where
    at : (y : ℕ) (c : Bool) → nat_eq y x ≡ c → (c ≡ false → r' y ≡ r y) → (if c then v else r' y) ≡ (if c then v else r y)
    at y true e k = refl
    at y false e k = k refl

    by : (b : Bool) → nat_eq d x ≡ b → Now d (b || false) (places_with r x v) (places_with r' x v)
    by true e = λ y. at y (nat_eq y x) refl (λ ne. same y (subst (λ x. nat_eq y x ≡ false) (sym (eqb-true d x e)) ne))
    by false e = λ y other. at y (nat_eq y x) refl (λ ne. same y other)

put_now : (i : RInst) (d : ℕ) (r r' : Places) → SameBut d r r' → (v : Option ℕ)
    → Now d (is_in (inst_writes i) d) (behind_inst i r v) (behind_inst i r' v)
put_now (Store a i b) d r r' same v = same
put_now (Const x w) d r r' same v = now_with d x r r' v same
put_now (Move x a) d r r' same v = now_with d x r r' v same
put_now (Bin op x a b) d r r' same v = now_with d x r r' v same
put_now (Load x a i) d r r' same v = now_with d x r r' v same

-- ---- blocks

-- where activations wait, there are as many
same_depth : (fs fs' : List Frame) → Wait fs fs' → length fs' ≡ length fs
same_depth [] [] w = refl
same_depth (f ∷ fs) (f' ∷ fs') w = ap suc (same_depth fs fs' w.1)
same_depth _ _ w = absurd w

alike_running : (f f' : Frame) (fs fs' : List Frame) (g : Arrays) (out : List ℕ) → Waits f f' ⊎ Begins f f' → Wait fs fs'
    → Alike (Running (f ∷ fs) g out) (Running (f' ∷ fs') g out)
alike_running f f' fs fs' g out top w = record { frames = f' ∷ fs'; is = refl; stack = (top, w) }

alike_return : (v to : Option ℕ) (fs fs' : List Frame) (g : Arrays) (out : List ℕ) → Wait fs fs'
    → Alike (state_after_return v to fs g out) (state_after_return v to fs' g out)
alike_return v to [] [] g out w = alike_value v v out (λ w. Ended w out) (λ w. Ended w out) refl (λ a. refl)
alike_return v None (f ∷ fs) (f' ∷ fs') g out w = alike_running f f' fs fs' g out (inl w.0) w.1
alike_return v (Some d) (f ∷ fs) (f' ∷ fs') g out w =
    alike_value v v out _ _ refl (λ a. alike_running _ (record f' { registers = places_with f'.registers d (Some a) }) fs fs' g out
    (inl (record {
      blocks = w.0.blocks;
      to = w.0.to;
      same = same_with f.registers f'.registers d (Some a) w.0.same;
      copy = w.0.copy;
      leads = w.0.leads;
    })) w.1)
alike_return v to _ _ g out w = absurd w

-- in blocks, and in those with their tails
alike_found : (bs bs' : List RBlock) (t : AreMade bs bs') (out : List ℕ) (b : ℕ) (go go' : RBlock → Run) → is_reached t.with_tails b ≡ true
    → ((x x' : RBlock) → Copy bs (code_of x) (code_of x') → Leads t.with_tails x'.exit → Alike (go x) (go' x'))
    → Alike (with_value (slice_get bs b) out go) (with_value (slice_get bs' b) out go')
alike_found bs bs' t out b go go' reached k = by (slice_get bs b) refl
  where
    by : (o : Option RBlock) → slice_get bs b ≡ o → Alike (with_value o out go) (with_value (slice_get bs' b) out go')
    by None e = rw (not_found bs bs' t b e) refl
    by (Some x) e = let s = found bs bs' t b x e reached in rw s.there (k x s.block s.copy s.leads)

alike_function : (p q : Program) → IsTailed p q → (i : ℕ) (out : List ℕ) (go go' : RFunc → Run)
    → ((n m : RFunc) → HasTails n m → Alike (go n) (go' m))
    → Alike (with_value (slice_get p.functions i) out go) (with_value (slice_get q.functions i) out go')
alike_function p q are i out go go' k = by (slice_get p.functions i) refl
  where
    by : (o : Option RFunc) → slice_get p.functions i ≡ o → Alike (with_value o out go) (with_value (slice_get q.functions i) out go')
    by None e = rw (no_function_at p.functions q.functions are.functions i e) refl
    by (Some n) e = let m = function_at p.functions q.functions are.functions i n e in rw m.1 (k n m.0 m.2)

-- ---- steps

-- the same around the copy of an activation, but for the program and the activations that wait
abbrev beside : Program → Surroundings → List Frame → Surroundings
beside q w fs = record w { program = q; waiting = fs }

alike_block : (q : Program) (w : Surroundings) (fs : List Frame) → Wait w.waiting fs → (bs bs' : List RBlock) (t : AreMade bs bs') (r r' : Places)
    → Same r r' → (b : ℕ) → is_reached t.with_tails b ≡ true → Alike (state_at_block w bs r b) (state_at_block (beside q w fs) bs' r' b)
alike_block q w fs waits bs bs' t r r' same b reached = alike_found bs bs' t w.output b _ _ reached (λ x x' copy leads.
    alike_running (activation w bs r (code_of x)) (activation w bs' r' (code_of x')) w.waiting fs w.globals w.output
    (inl (record { blocks = t; to = refl; same = same; copy = copy; leads = leads })) waits)

alike_call : (q : Program) (w : Surroundings) → IsTailed w.program q → (fs : List Frame) → Wait w.waiting fs → (f : ℕ) (vs : List ℕ)
    → Alike (state_after_call w f vs) (state_after_call (beside q w fs) f vs)
alike_call q w are fs waits f vs = alike_function w.program q are f w.output _ _ (λ n m h.
    rw (same_depth w.waiting fs waits, h.parameters) (room n m h (nat_lt (length w.waiting) w.depth && (length vs == n.parameters))))
  where
    room : (n m : RFunc) → HasTails n m → (b : Bool)
        → Alike (if b then state_at_block w n.blocks.items (argument_registers vs) 0 else Failed w.output)
        (if b then state_at_block (beside q w fs) m.blocks.items (argument_registers vs) 0 else Failed w.output)
    room n m h true = alike_block q w fs waits n.blocks.items m.blocks.items h.blocks _ (argument_registers vs) (λ x. refl) 0 refl
    room n m h false = refl

module _ (q : Program) (w : Surroundings) (are : IsTailed w.program q) (fs : List Frame) (waits : Wait w.waiting fs) (bs bs' : List RBlock)
    (t : AreMade bs bs') where
  alike_exit : (x : RExit) (r r' : Places) → Leads t.with_tails x → Same r r'
      → Alike (state_after_exit w bs r x) (state_after_exit (beside q w fs) bs' r' x)
  alike_exit (Goto b) r r' leads same = alike_block q w fs waits bs bs' t r r' same b (leads b (here b []))
  alike_exit (Branch c y n) r r' leads same =
      alike_value (r c) _ w.output _ _ (same c) (λ v. alike_block q w fs waits bs bs' t r r' same (if v == 0 then n else y) (either (v == 0)))
    where
      either : (b : Bool) → is_reached t.with_tails (if b then n else y) ≡ true
      either true = leads n (behind y n)
      either false = leads y (here y (n ∷ []))
  alike_exit (Call f args to next) r r' leads same =
      alike_value (words_in r args.items) _ w.output _ _ (same_words r r' args.items same) (λ vs.
      alike_found bs bs' t w.output next _ _ (leads next (here next [])) (λ x x' copy leads.
      alike_call q (around_callee w (activation w bs r (code_of x)) to) are (activation w bs' r' (code_of x') ∷ fs)
      (record { blocks = t; to = refl; same = same; copy = copy; leads = leads }, waits) f vs))
  alike_exit (Return None) r r' leads same = alike_return None w.result_to w.waiting fs w.globals w.output waits
  alike_exit (Return (Some x)) r r' leads same =
      alike_value (r x) _ w.output _ _ (same x) (λ v. alike_return (Some v) w.result_to w.waiting fs w.globals w.output waits)
  alike_exit (Out x next) r r' leads same = alike_value (r x) _ w.output _ _ (same x) (λ v.
      alike_block q (record w { output = w.output ++ v ∷ [] }) fs waits bs bs' t r r' same next (leads next (here next [])))

  -- behind an instruction, where code goes on
  alike_on : (c c' : Code) → Leads t.with_tails c'.exit → Copy bs c c' → (r r' : Places) (g : Arrays) → Same r r'
      → Alike (at (record w { globals = g }) bs r c) (at (record (beside q w fs) { globals = g }) bs' r' c')
  alike_on c c' leads copy r r' g same =
      alike_running (activation w bs r c) (activation w bs' r' c') w.waiting fs g w.output
      (inl (record { blocks = t; to = refl; same = same; copy = copy; leads = leads })) waits

  -- in code that is the same
  alike_at : (is : List RInst) (x : RExit) (r r' : Places) → Leads t.with_tails x → Same r r'
      → Alike (step_at w bs r is x) (step_at (beside q w fs) bs' r' is x)
  alike_at [] x r r' leads same = alike_exit x r r' leads same
  alike_at (i ∷ is) x r r' leads same =
      alike_inst w.program.globals q.globals are.globals w.globals w.output i r r' _ _ Same (λ x _. same x) (put_same i r r' same)
      (alike_on (record { insts = is; exit = x }) (record { insts = is; exit = x }) leads (inl refl))

  -- in a copy that is still to write d
  alike_begin : (is : List RInst) (x : RExit) (d : ℕ) (r r' : Places) → Leads t.with_tails x → writes_first is d ≡ true → SameBut d r r'
      → Alike (step_at w bs r is x) (step_at (beside q w fs) bs' r' is x)
  alike_begin [] x d r r' leads first same = absurd (true≢false (sym first))
  alike_begin (i ∷ is) x d r r' leads first same = reads (is_in (inst_reads i) d) refl first
    where
      rest : Code
      rest = record { insts = is; exit = x }

      after : (b : Bool) → (if b then true else writes_first is d) ≡ true → (a a' : Places) (g : Arrays) → Now d b a a'
          → Alike (at (record w { globals = g }) bs a rest) (at (record (beside q w fs) { globals = g }) bs' a' rest)
      after true e a a' g now = alike_on rest rest leads (inl refl) a a' g now
      after false e a a' g now = alike_running _ (activation w bs' a' rest) w.waiting fs g w.output
          (inr (record { blocks = t; to = refl; d = d; first = e; same = now; code = refl; leads = leads })) waits

      reads : (b : Bool) → is_in (inst_reads i) d ≡ b → (if b then false else if is_in (inst_writes i) d then true else writes_first is d) ≡ true
          → Alike (step_at w bs r (i ∷ is) x) (step_at (beside q w fs) bs' r' (i ∷ is) x)
      reads true un e = absurd (true≢false (sym e))
      reads false un e =
          alike_inst w.program.globals q.globals are.globals w.globals w.output i r r' _ _ (Now d (is_in (inst_writes i) d))
          (λ x read. same x (unread (inst_reads i) d x un read)) (put_now i d r r' same) (after (is_in (inst_writes i) d) e)

  -- in code that goes to a copy, up to the goto
  alike_tail : (is : List RInst) (x : RExit) (k : Code) (r r' : Places) → Leads t.with_tails k.exit
      → Tail bs (record { insts = is; exit = x }) k → Same r r' → Alike (step_at w bs r is x) (step_at (beside q w fs) bs' r' k.insts k.exit)
  alike_tail [] x k r r' leads tail same = rw (tail.is, tail.goes, tail.there)
      (alike_running _ (activation w bs' (places_with r' tail.d (Some (wrap 0))) (code_of tail.block)) w.waiting fs w.globals w.output (inr (record {
        blocks = t;
        to = refl;
        d = tail.d;
        first = tail.first;
        same = but_set r r' tail.d (Some (wrap 0)) same;
        code = refl;
        leads = subst (λ (k : Code). Leads t.with_tails k.exit) tail.is leads;
      })) waits)
  alike_tail (i ∷ is) x k r r' leads tail same =
      let rest : Code = record { insts = is; exit = x } in
      let rest' : Code = joined rest tail.d tail.block.insts.items tail.block.exit in
      rw tail.is (alike_inst w.program.globals q.globals are.globals w.globals w.output i r r' _ _ Same (λ x _. same x) (put_same i r r' same)
      (alike_on rest rest' (subst (λ (k : Code). Leads t.with_tails k.exit) tail.is leads) (inr (record {
        number = tail.number;
        block = tail.block;
        d = tail.d;
        there = tail.there;
        goes = tail.goes;
        spare = tail.spare;
        is = refl;
      }))))

module _ (p q : Program) (are : IsTailed p q) (depth : ℕ) where
  alike_frame : (f f' : Frame) (fs fs' : List Frame) (g : Arrays) (out : List ℕ) → Waits f f' ⊎ Begins f f' → Wait fs fs'
      → Alike (rtl_step p depth (Running (f ∷ fs) g out)) (rtl_step q depth (Running (f' ∷ fs') g out))
  alike_frame f f' fs fs' g out top waits = by top
    where
      w : Surroundings
      w = record { program = p; depth = depth; result_to = f.result_to; waiting = fs; globals = g; output = out }

      copied : (h : Waits f f') → Copy f.blocks f.code f'.code
          → Alike (rtl_step p depth (Running (f ∷ fs) g out)) (step_at (beside q w fs') f'.blocks f'.registers f'.code.insts f'.code.exit)
      copied h (inl is) = rw is (alike_at q w are fs' waits f.blocks f'.blocks h.blocks f.code.insts f.code.exit f.registers f'.registers
          (subst (λ (k : Code). Leads h.blocks.with_tails k.exit) is h.leads) h.same)
      copied h (inr tail) =
          alike_tail q w are fs' waits f.blocks f'.blocks h.blocks f.code.insts f.code.exit f'.code f.registers f'.registers h.leads tail h.same

      by : Waits f f' ⊎ Begins f f' → Alike (rtl_step p depth (Running (f ∷ fs) g out)) (rtl_step q depth (Running (f' ∷ fs') g out))
      by (inl h) = rw h.to (copied h h.copy)
      by (inr b) = rw (b.to, b.code)
          (alike_begin q w are fs' waits f.blocks f'.blocks b.blocks f.code.insts f.code.exit b.d f.registers f'.registers
          (subst (λ (k : Code). Leads b.blocks.with_tails k.exit) b.code b.leads) b.first b.same)

  alike_step : (s s' : Run) → Alike s s' → Alike (rtl_step p depth s) (rtl_step q depth s')
  alike_step (Running fs g out) s' h = rw h.is (by fs h.frames h.stack)
    where
      by : (fs fs' : List Frame) → Stack fs fs' → Alike (rtl_step p depth (Running fs g out)) (rtl_step q depth (Running fs' g out))
      by [] [] w = refl
      by (f ∷ fs) (f' ∷ fs') w = alike_frame f f' fs fs' g out w.0 w.1
      by _ _ w = absurd w
  alike_step (Ended v out) s' h = ap (rtl_step q depth) h
  alike_step (Failed out) s' h = ap (rtl_step q depth) h

  alike_steps : (n : ℕ) (s s' : Run) → Alike s s' → Alike (rtl_steps p depth n s) (rtl_steps q depth n s')
  alike_steps zero s s' h = h
  alike_steps (suc n) s s' h = alike_steps n (rtl_step p depth s) (rtl_step q depth s') (alike_step s s' h)

  alike_start : Alike (rtl_start p) (rtl_start q)
  alike_start = rw (are.main, are.globals) (alike_function p q are p.main [] _ _ (λ n m h.
      alike_block q start [] tt n.blocks.items m.blocks.items h.blocks unset_places unset_places (λ x. refl) 0 refl))
    where
      start : Surroundings
      start = record { program = p; depth = depth; result_to = None; waiting = []; globals = map first_values p.globals; output = [] }

same_outcome : (s s' : Run) → Alike s s' → outcome s' ≡ outcome s
same_outcome (Running fs g out) s' h = ap outcome h.is
same_outcome _ s' h = ap outcome h

pub runs_alike : (p q : Program) → IsTailed p q → RunsAlike p q
runs_alike p q are depth n =
    same_outcome (rtl_steps p depth n (rtl_start p)) (rtl_steps q depth n (rtl_start q))
    (alike_steps p q are depth n (rtl_start p) (rtl_start q) (alike_start p q are depth))
