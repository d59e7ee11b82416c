-- A clean order does, word by word, what its actions do one after another.
use Rattle.std.proofs.Common.{◌≡◌, ℕ, zero, suc, pred, ◌<◌, ◌⊎◌, inl, inr, Bool, true, false, cond, ◌&&◌, ◌||◌, nat_lt, List, [], ◌∷◌, map}
use Rattle.std.proofs.Common.{length, slice_get, Option, Some, None, is_some, refl, sym, ap, ap₂, ◌∙◌, subst, true≢false, eq-eqb, arith}
use Rattle.words.specs.declared.operator.Operator.TheVariants.{Addu}
use Rattle.words.specs.Operators.{op_value}
use Rattle.mips_isa.specs.declared.inst.Plain.{Plain}
use Rattle.mips_isa.specs.declared.action.Action.{Action}
use Rattle.mips_isa.specs.declared.action.Action.TheVariants.{Loads}
use Rattle.mips_isa.specs.States.{State, is_register, read, put}
use Rattle.mips_isa.specs.Actions.{action_of, is_safe, state_after, touches, loads, is_load, is_move, is_product}
use Rattle.mips_isa.specs.Flows.{Pending, Nothing, Loaded, Flow, state_with_pending, pending_of, on_pending, flow_after, quiet}
use Rattle.mips_isa.specs.Steps.{word, words_from}
use Rattle.mips_isa.proofs.Registers.{read-put, put-put, put_lost}
use Rattle.mips_isa.proofs.Late.{settled_state, word_runs, settled_after, or_left, or_right, settle_lost}
use Rattle.mblock.specs.declared.exit.Exit.{Exit}
use Rattle.mblock.specs.declared.exit.Exit.TheVariants.{Goto, BranchPair, BranchZero, Call, Return, Out, Halt}
use Rattle.mblock.specs.Parts.{OrderParts}
use Rattle.mblock.specs.Slots.{is_slotted}
use Rattle.mblock.specs.BlockMeaning.{exit_shape, exit_reads, exit_puts, Departure, departure_of, Effect}
use Rattle.mblock.specs.OrderMeaning.{exit_touches, number_action, exit_word, slot_word, effect_at_end, operand_words, system_word}
use Rattle.mblock.specs.OrderMeaning.{system_call, jump, order_end_effect, order_effect_from, order_effect}
use Rattle.mblock.specs.Clean.{slot_actions, FitsSlot, kinds_of, IsClean}

-- the actions one after another, safe or not
abbrev pub total : List Action → State → State
total [] s = s
total (a ∷ rest) s = total rest (state_after a s)

abbrev pub AllSafe : List Action → State → Type 0
AllSafe [] s = Unit {0}
AllSafe (a ∷ rest) s = (is_safe a s ≡ true) × AllSafe rest (state_after a s)

-- what the rest of an order, and the machine before it, keep
pub record Ready (insts : List Plain) (exit : Exit) (tail : List (Option Action)) (f : Flow) : Type 0 where
  pub first : (a : Plain) → slice_get insts 0 ≡ Some a → on_pending f.pending (touches (action_of a)) ≡ false
  pub wait : (j : ℕ) (b : Action) → j < f.hold → slice_get (kinds_of insts tail) j ≡ Some (Some b) → is_product b ≡ false
  pub end : length insts ≡ 0 → on_pending f.pending (exit_touches exit) ≡ false
  pub apart : (i r : ℕ) (a b : Plain) → slice_get insts i ≡ Some a → slice_get insts (suc i) ≡ Some b → loads (action_of a) r ≡ true
      → touches (action_of b) r ≡ false
  pub behind : (i : ℕ) (a b : Action) → slice_get (kinds_of insts tail) i ≡ Some (Some a) → is_move a ≡ true
      → (slice_get (kinds_of insts tail) (suc i) ≡ Some (Some b)) ⊎ (slice_get (kinds_of insts tail) (suc (suc i)) ≡ Some (Some b)) → is_product b ≡ false
  pub last : (i r : ℕ) (a : Plain) → slice_get insts i ≡ Some a → suc i ≡ length insts → loads (action_of a) r ≡ true → exit_touches exit r ≡ false

-- nothing that is loaded is named by the test
pending_apart : (a : Action) (s : State) (test : ℕ → Bool) → ((r : ℕ) → loads a r ≡ true → test r ≡ false) → on_pending (pending_of a s) test ≡ false
pending_apart (Loads w d base offset) s test h = go (is_register d) refl
  where
    go : (b : Bool) → is_register d ≡ b → (b && test d) ≡ false
    go false e = refl
    go true e = h d (ap₂ (λ x y. x && y) e (eq-eqb d d refl))
pending_apart _ s test h = refl

product_ready : (p : Bool) (hold : ℕ) → (0 < hold → p ≡ false) → (p && nat_lt 0 hold) ≡ false
product_ready false hold h = refl
product_ready true zero h = refl
product_ready true (suc hold) h = absurd (true≢false (h (omega arith)))

-- one word more
next_ready : (i : Plain) (rest : List Plain) (exit : Exit) (tail : List (Option Action)) (f : Flow) → Ready (i ∷ rest) exit tail f
    → Ready rest exit tail (flow_after (action_of i) f)
next_ready i rest exit tail f h = record {
  first = λ b e. pending_apart (action_of i) f.state (touches (action_of b)) (λ r l. h.apart 0 r i b refl e l);
  wait = λ j b lt e. waits (is_move (action_of i)) refl j b lt e;
  end = λ e. pending_apart (action_of i) f.state (exit_touches exit) (λ r l. h.last 0 r i refl (ap suc (sym e)) l);
  apart = λ k. h.apart (suc k);
  behind = λ k. h.behind (suc k);
  last = λ k r a e l. h.last (suc k) r a e (ap suc l);
}
  where
    waits : (m : Bool) → is_move (action_of i) ≡ m → (j : ℕ) (b : Action) → j < cond m 2 (pred f.hold)
        → slice_get (kinds_of rest tail) j ≡ Some (Some b) → is_product b ≡ false
    waits true em zero b lt e = h.behind 0 (action_of i) b refl em (inl e)
    waits true em (suc zero) b lt e = h.behind 0 (action_of i) b refl em (inr e)
    waits true em (suc (suc j)) b lt e = absurd (omega arith)
    waits false em j b lt e = let below : j < pred f.hold = lt in h.wait (suc j) b (omega arith) e

-- what a stretch of words leaves
pub record Reaches (insts : List Plain) (exit : Exit) (tail : List (Option Action)) (f : Flow) : Type 0 where
  pub flow : Flow
  pub runs : words_from (map action_of insts) (Some f) ≡ Some flow
  pub state : settled_state flow ≡ total (map action_of insts) (settled_state f)
  pub ready : Ready [] exit tail flow

pub words_run : (insts : List Plain) (exit : Exit) (tail : List (Option Action)) (f : Flow) → Ready insts exit tail f
    → AllSafe (map action_of insts) (settled_state f) → Reaches insts exit tail f
words_run [] exit tail f h safe = record { flow = f; runs = refl; state = refl; ready = h }
words_run (i ∷ rest) exit tail f h safe =
    let a = action_of i in
    let free : on_pending f.pending (touches a) ≡ false = h.first i refl in
    let step = word_runs a f free (product_ready (is_product a) f.hold (λ lt. h.wait 0 a lt refl)) safe.0 in
    let moved = settled_after a f free in
    let below = words_run rest exit tail (flow_after a f) (next_ready i rest exit tail f h) (subst (AllSafe (map action_of rest)) (sym moved) safe.1) in
    record {
      flow = below.flow;
      runs = ap (words_from (map action_of rest)) step ∙ below.runs;
      state = below.state ∙ ap (total (map action_of rest)) moved;
      ready = below.ready;
    }

-- ---- the exit

abbrev pub exited : Exit → ℕ → State → State
exited exit link s = record s { regs = exit_puts link 1 10 (exit_shape exit) s.regs }

exit_late : (exit : Exit) (link : ℕ) (s : State) (q w : ℕ) → exit_touches exit q ≡ false
    → state_with_pending (Loaded q w) (exited exit link s) ≡ exited exit link (state_with_pending (Loaded q w) s)
exit_late (Call g n) link s q w e = ap (λ f. record s { regs = f }) (sym (put-put s.regs q w 31 link e))
exit_late (Out n) link s q w e = ap (λ f. record s { regs = f }) (sym (put-put s.regs q w 2 1 (or_left _ _ e)))
exit_late Halt link s q w e = ap (λ f. record s { regs = f }) (sym (put-put s.regs q w 2 10 (or_left _ _ e)))
exit_late _ link s q w e = refl

reads_late : (exit : Exit) (s : State) (q w : ℕ) → is_slotted exit ≡ true → exit_touches exit q ≡ false
    → map (read 0 s.regs) (exit_reads exit) ≡ map (read 0 (put s.regs q w)) (exit_reads exit)
reads_late (BranchPair test a b t n) s q w slot e =
    ap₂ (λ x y. x ∷ y ∷ []) (sym (read-put 0 s.regs q w a (or_left _ _ e))) (sym (read-put 0 s.regs q w b (or_right _ _ e)))
reads_late (BranchZero test a t n) s q w slot e = ap (λ x. x ∷ []) (sym (read-put 0 s.regs q w a e))
reads_late Return s q w slot e = ap (λ x. x ∷ []) (sym (read-put 0 s.regs q w 31 e))
reads_late (Out n) s q w slot e = absurd (true≢false (sym slot))
reads_late Halt s q w slot e = absurd (true≢false (sym slot))
reads_late _ s q w slot e = refl

exit_settled : (p : Pending) (exit : Exit) (link : ℕ) (s : State) → on_pending p (exit_touches exit) ≡ false
    → state_with_pending p (exited exit link s) ≡ exited exit link (state_with_pending p s)
exit_settled Nothing exit link s e = refl
exit_settled (Loaded q w) exit link s e = go (is_register q) refl e
  where
    go : (b : Bool) → is_register q ≡ b → (b && exit_touches exit q) ≡ false
        → state_with_pending (Loaded q w) (exited exit link s) ≡ exited exit link (state_with_pending (Loaded q w) s)
    go true eb h = exit_late exit link s q w h
    go false eb h = settle_lost (exited exit link s) q w eb ∙ ap (exited exit link) (sym (settle_lost s q w eb))

reads_settled : (p : Pending) (exit : Exit) (s : State) → is_slotted exit ≡ true → on_pending p (exit_touches exit) ≡ false
    → map (read 0 s.regs) (exit_reads exit) ≡ map (read 0 (state_with_pending p s).regs) (exit_reads exit)
reads_settled Nothing exit s slot e = refl
reads_settled (Loaded q w) exit s slot e = go (is_register q) refl e
  where
    go : (b : Bool) → is_register q ≡ b → (b && exit_touches exit q) ≡ false
        → map (read 0 s.regs) (exit_reads exit) ≡ map (read 0 (put s.regs q w)) (exit_reads exit)
    go true eb h = reads_late exit s q w slot h
    go false eb h = ap (λ f. map (read 0 f) (exit_reads exit)) (sym (put_lost s.regs q w eb))

-- where an exit leaves to, from the state before it
abbrev pub leaves_total : Exit → List Action → ℕ → State → Effect
leaves_total exit slots link s = record {
  state = total slots (exited exit link s);
  goes = departure_of (exit_shape exit) (map (read 0 s.regs) (exit_reads exit));
}

jump_runs : (exit : Exit) (i : Plain) (f : Flow) (link : ℕ) → is_slotted exit ≡ true → Ready [] exit (None ∷ Some (action_of i) ∷ []) f
    → (is_load (action_of i) || is_move (action_of i)) ≡ false → is_safe (action_of i) (exited exit link (settled_state f)) ≡ true
    → jump exit (Some i) f link ≡ Some (leaves_total exit (action_of i ∷ []) link (settled_state f))
jump_runs exit i f link slot h kind safe =
    ap (effect_at_end goes) (ap (slot_word a) first ∙ second)
    ∙ ap₂ (λ s w. Some (record { state = s; goes = departure_of (exit_shape exit) w })) (settled_after a mid refl ∙ ap (state_after a) moved) words
  where
    a : Action
    a = action_of i

    goes : Departure
    goes = departure_of (exit_shape exit) (operand_words exit f)

    mid : Flow
    mid = record { state = state_with_pending f.pending (exited exit link f.state); pending = Nothing; hold = pred f.hold }

    free : on_pending f.pending (exit_touches exit) ≡ false
    free = h.end refl

    moved : state_with_pending f.pending (exited exit link f.state) ≡ exited exit link (settled_state f)
    moved = exit_settled f.pending exit link f.state free

    first : exit_word exit f link ≡ Some mid
    first = ap (λ b. cond b None (Some mid)) free

    words : operand_words exit f ≡ map (read 0 (settled_state f).regs) (exit_reads exit)
    words = reads_settled f.pending exit f.state slot free

    second : slot_word a (Some mid) ≡ Some (flow_after a mid)
    second = ap (λ b. cond b None (word a mid)) kind
        ∙ word_runs a mid refl (product_ready (is_product a) (pred f.hold) (λ lt. h.wait 1 a (omega arith) refl)) (ap (is_safe a) moved ∙ safe)

pub one_value : op_value Addu 0 1 ≡ 1
unfolding op_value
one_value = refl

pub ten_value : op_value Addu 0 10 ≡ 10
unfolding op_value
ten_value = refl

call_runs : (exit : Exit) (number : ℕ) (f : Flow) (s : State) → on_pending f.pending (touches (number_action number)) ≡ false
    → state_after (number_action number) (settled_state f) ≡ s
    → system_call exit number None f ≡ Some (record { state = s; goes = departure_of (exit_shape exit) (map (read 0 s.regs) (exit_reads exit)) })
call_runs exit number f s free e =
    ap (system_word exit) (word_runs (number_action number) f free refl refl)
    ∙ ap (λ x. Some (record { state = x; goes = departure_of (exit_shape exit) (map (read 0 x.regs) (exit_reads exit)) }))
    (settled_after (number_action number) f free ∙ e)

exit_runs : (exit : Exit) (slot : Option Plain) (f : Flow) (link : ℕ) → is_some slot ≡ is_slotted exit
    → ((i : Plain) → slot ≡ Some i → (is_load (action_of i) || is_move (action_of i)) ≡ false)
    → Ready [] exit (None ∷ map Some (slot_actions slot)) f → AllSafe (slot_actions slot) (exited exit link (settled_state f))
    → order_end_effect exit slot f link ≡ Some (leaves_total exit (slot_actions slot) link (settled_state f))
exit_runs (Goto t) (Some i) f link fits kind h safe = jump_runs (Goto t) i f link refl h (kind i refl) safe.0
exit_runs (BranchPair test a b t n) (Some i) f link fits kind h safe = jump_runs (BranchPair test a b t n) i f link refl h (kind i refl) safe.0
exit_runs (BranchZero test a t n) (Some i) f link fits kind h safe = jump_runs (BranchZero test a t n) i f link refl h (kind i refl) safe.0
exit_runs (Call g n) (Some i) f link fits kind h safe = jump_runs (Call g n) i f link refl h (kind i refl) safe.0
exit_runs Return (Some i) f link fits kind h safe = jump_runs Return i f link refl h (kind i refl) safe.0
exit_runs (Out n) None f link fits kind h safe =
    call_runs (Out n) 1 f (exited (Out n) link (settled_state f)) (h.end refl)
    (ap (λ v. record (settled_state f) { regs = put (settled_state f).regs 2 v }) one_value)
exit_runs (Out n) (Some i) f link fits kind h safe = absurd (true≢false fits)
exit_runs Halt None f link fits kind h safe =
    call_runs Halt 10 f (exited Halt link (settled_state f)) (h.end refl)
    (ap (λ v. record (settled_state f) { regs = put (settled_state f).regs 2 v }) ten_value)
exit_runs Halt (Some i) f link fits kind h safe = absurd (true≢false fits)
exit_runs _ None f link fits kind h safe = absurd (true≢false (sym fits))

-- nothing holds an order up at its start
start_ready : (o : OrderParts) (s : State) → IsClean o → (length o.insts ≡ 0 → Unit {0})
    → Ready o.insts o.exit (None ∷ map Some (slot_actions o.slot)) (quiet s)
start_ready o s clean _ = record {
  first = λ a e. refl;
  wait = λ j b lt e. absurd (omega arith);
  end = λ e. refl;
  apart = clean.apart;
  behind = clean.behind;
  last = clean.last;
}

pub order_runs : (o : OrderParts) (s : State) (link : ℕ) → FitsSlot o → IsClean o → AllSafe (map action_of o.insts) s
    → AllSafe (slot_actions o.slot) (exited o.exit link (total (map action_of o.insts) s))
    → order_effect o s link ≡ Some (leaves_total o.exit (slot_actions o.slot) link (total (map action_of o.insts) s))
order_runs o s link fits clean safe slot_safe =
    let r = words_run o.insts o.exit (None ∷ map Some (slot_actions o.slot)) (quiet s) (start_ready o s clean (λ _. tt)) safe in
    ap (λ x. order_effect_from o.exit o.slot x link) r.runs
    ∙ exit_runs o.exit o.slot r.flow link fits clean.slot r.ready
    (subst (λ x. AllSafe (slot_actions o.slot) (exited o.exit link x)) (sym r.state) slot_safe)
    ∙ ap (λ x. Some (leaves_total o.exit (slot_actions o.slot) link x)) r.state
