-- A load that shows one word later, where that word doesn't name its register.
use Rattle.std.proofs.Common.{◌≡◌, ℕ, Bool, true, false, cond, ◌&&◌, ◌||◌, nat_lt, ◌==◌, Some, None, refl, sym, ap, ap₂, ◌∙◌}
use Rattle.words.specs.declared.operator.Operator.TheVariants as operators
use Rattle.words.specs.Words.{wrap}
use Rattle.words.specs.Operators.{op_value, has_quotient}
use Rattle.mips_isa.specs.States.{State, is_register, read, put, is_open, load_at, store_at}
use Rattle.mips_isa.specs.declared.action.Operand.{Operand}
use Rattle.mips_isa.specs.declared.action.Operand.TheVariants.{Held, Fixed}
use Rattle.mips_isa.specs.declared.action.Action.{Action}
use Rattle.mips_isa.specs.declared.action.Action.TheVariants.{Computes, Sets, Loads, Stores, Multiplies, Divides, MovesHigh, MovesLow}
use Rattle.mips_isa.specs.Actions.{operand, address, is_safe, state_after, operand_touches, touches, is_product, product_high, product_low}
use Rattle.mips_isa.specs.Actions.{quotient_operator, remainder_operator}
use Rattle.mips_isa.specs.Flows.{Pending, Nothing, Loaded, Flow, state_with_pending, pending_of, shown_state, on_pending, flow_after}
use Rattle.mips_isa.specs.Steps.{word}
use Rattle.mips_isa.proofs.Rules.{not_stuck}
use Rattle.mips_isa.proofs.Registers.{put_lost, read-put, put-put}

pub or_left : (a b : Bool) → (a || b) ≡ false → a ≡ false
or_left true b e = e
or_left false b e = refl

pub or_right : (a b : Bool) → (a || b) ≡ false → b ≡ false
or_right true b e = elim b as (λ x. x ≡ false) [ true ↦ e | false ↦ refl ]
or_right false b e = e

-- what a word sees beside a pending register
module _ (s : State) (q w : ℕ) where
  abbrev late : State
  late = record s { regs = put s.regs q w }

  operand_late : (x : Operand) → operand_touches x q ≡ false → operand late x ≡ operand s x
  operand_late (Held r) e = read-put 0 s.regs q w r e
  operand_late (Fixed v) e = refl

  address_late : (base : ℕ) (offset : ℕ) → (base == q) ≡ false → address late base offset ≡ address s base offset
  address_late base offset e = ap (λ x. op_value operators.Addu x (wrap offset)) (read-put 0 s.regs q w base e)

  two_late : {A : Type 0} (f : ℕ → ℕ → A) (a b : ℕ) → ((a == q) || (b == q)) ≡ false
      → f (read 0 late.regs a) (read 0 late.regs b) ≡ f (read 0 s.regs a) (read 0 s.regs b)
  two_late f a b e = ap₂ f (read-put 0 s.regs q w a (or_left _ _ e)) (read-put 0 s.regs q w b (or_right _ _ e))

  safe_late : (a : Action) → touches a q ≡ false → is_safe a late ≡ is_safe a s
  safe_late (Loads v d base offset) e = ap (is_open v s.mapped) (address_late base offset (or_right _ _ e))
  safe_late (Stores v r base offset) e = ap (is_open v s.mapped) (address_late base offset (or_right _ _ e))
  safe_late (Divides sign x y) e = two_late (has_quotient sign) x y e
  safe_late _ e = refl

  -- the action first and the register then, or the other way round
  after_late : (a : Action) → touches a q ≡ false
      → state_with_pending (pending_of a s) (record (shown_state a s) { regs = put (shown_state a s).regs q w }) ≡ state_after a late
  after_late (Computes d op x y) e =
      let v = op_value op (read 0 s.regs x) (operand s y) in
      let same : op_value op (read 0 late.regs x) (operand late y) ≡ v =
      ap₂ (op_value op) (read-put 0 s.regs q w x (or_left _ _ (or_right _ _ e))) (operand_late y (or_right _ _ (or_right _ _ e))) in
      ap (λ f. record s { regs = f }) (sym (put-put s.regs q w d v (or_left _ _ e)) ∙ ap (put (put s.regs q w) d) (sym same))
  after_late (Sets d v) e = ap (λ f. record s { regs = f }) (sym (put-put s.regs q w d (wrap v) e))
  after_late (Loads v d base offset) e =
      ap (λ x. record s { regs = put (put s.regs q w) d (load_at v s.mapped s.memory x) }) (sym (address_late base offset (or_right _ _ e)))
  after_late (Stores v r base offset) e =
      ap₂ (λ x y. record late { memory = store_at v s.mapped s.memory x y }) (sym (address_late base offset (or_right _ _ e)))
      (sym (read-put 0 s.regs q w r (or_left _ _ e)))
  after_late (Multiplies sign x y) e = sym (two_late (λ m n. record late { hi = op_value (product_high sign) m n; lo = op_value (product_low sign) m n }) x y e)
  after_late (Divides sign x y) e =
      sym (two_late (λ m n. record late { hi = op_value (remainder_operator sign) m n; lo = op_value (quotient_operator sign) m n }) x y e)
  after_late (MovesHigh d) e = ap (λ f. record s { regs = f }) (sym (put-put s.regs q w d s.hi e))
  after_late (MovesLow d) e = ap (λ f. record s { regs = f }) (sym (put-put s.regs q w d s.lo e))

-- with nothing pending
after_now : (a : Action) (s : State) → state_with_pending (pending_of a s) (shown_state a s) ≡ state_after a s
after_now (Computes d op x y) s = refl
after_now _ s = refl

-- the state once what is pending shows
abbrev pub settled_state : Flow → State
settled_state f = state_with_pending f.pending f.state

pub settle_lost : (s : State) (q w : ℕ) → is_register q ≡ false → state_with_pending (Loaded q w) s ≡ s
settle_lost s q w e = ap (λ f. record s { regs = f }) (put_lost s.regs q w e)

pub safe_settled : (p : Pending) (a : Action) (s : State) → on_pending p (touches a) ≡ false → is_safe a (state_with_pending p s) ≡ is_safe a s
safe_settled Nothing a s e = refl
safe_settled (Loaded q w) a s e = go (is_register q) refl e
  where
    go : (b : Bool) → is_register q ≡ b → (b && touches a q) ≡ false → is_safe a (state_with_pending (Loaded q w) s) ≡ is_safe a s
    go true eb h = safe_late s q w a h
    go false eb h = ap (is_safe a) (settle_lost s q w eb)

pub after_settled : (p : Pending) (a : Action) (s : State) → on_pending p (touches a) ≡ false
    → state_with_pending (pending_of a s) (state_with_pending p (shown_state a s)) ≡ state_after a (state_with_pending p s)
after_settled Nothing a s e = after_now a s
after_settled (Loaded q w) a s e = go (is_register q) refl e
  where
    go : (b : Bool) → is_register q ≡ b → (b && touches a q) ≡ false
        → state_with_pending (pending_of a s) (state_with_pending (Loaded q w) (shown_state a s)) ≡ state_after a (state_with_pending (Loaded q w) s)
    go true eb h = after_late s q w a h
    go false eb h = ap (state_with_pending (pending_of a s)) (settle_lost (shown_state a s) q w eb) ∙ after_now a s
        ∙ ap (state_after a) (sym (settle_lost s q w eb))

-- one word does what the action does, where no rule is broken
pub word_runs : (a : Action) (f : Flow) → on_pending f.pending (touches a) ≡ false → (is_product a && nat_lt 0 f.hold) ≡ false
    → is_safe a (settled_state f) ≡ true → word a f ≡ Some (flow_after a f)
word_runs a f free ready safe =
    ap (λ b. cond b None (Some (flow_after a f))) (not_stuck a f free ready (sym (safe_settled f.pending a f.state free) ∙ safe))

pub settled_after : (a : Action) (f : Flow) → on_pending f.pending (touches a) ≡ false → settled_state (flow_after a f) ≡ state_after a (settled_state f)
settled_after a f free = after_settled f.pending a f.state free
