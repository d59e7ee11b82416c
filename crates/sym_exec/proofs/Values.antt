-- The trees that instructions leave stand for the state that the instructions leave.
use Rattle.std.proofs.Common.{◌≡◌, ◌^◌, ℕ, zero, suc, ◌<◌, Bool, true, false, List, [], ◌∷◌, Contains, refl, sym, ap, ap₂, ◌∙◌, arith}
use mathlib.Core.Logic.{◌↔◌}
use Rattle.words.specs.declared.operator.Operator.{Operator}
use Rattle.words.specs.declared.operator.Operator.TheVariants.{Addu}
use Rattle.words.specs.Operators.{op_value, has_quotient}
use Rattle.mips_isa.specs.declared.action.Operand.{Operand}
use Rattle.mips_isa.specs.declared.action.Operand.TheVariants.{Held, Fixed}
use Rattle.mips_isa.specs.declared.action.Action.{Action}
use Rattle.mips_isa.specs.declared.action.Action.TheVariants.{Computes, Sets, Loads, Stores, Multiplies, Divides, MovesHigh, MovesLow}
use Rattle.mips_isa.specs.States.{State, IsWords, is_register, read, put, is_open, load_at, store_at}
use Rattle.mips_isa.specs.Actions.{operand, is_safe, state_after, product_high, product_low, quotient_operator, remainder_operator}
use Rattle.mips_isa.proofs.Registers.{put-value, put_outside}
use Rattle.mblock.specs.BlockMeaning.{Shape, Calls, Prints, Halts, exit_puts}
use Rattle.mblock.proofs.Runs.{total, AllSafe}
use Rattle.sym_terms.specs.declared.label.Origin.TheVariants.{Link}
use Rattle.sym_terms.specs.declared.label.Label.TheVariants.{Init}
use Rattle.sym_terms.specs.Trees.{Tree, leaf}
use Rattle.sym_terms.specs.Values.{tree_word, tree_memory}
use Rattle.sym_terms.specs.NormalForms.{const_tree, op_tree}
use Rattle.sym_terms.proofs.ValueLaws.{op_tree-value, load_tree-value, store_tree-value}
use Rattle.sym_exec.proofs.Tickets.{contains_split}
use Rattle.sym_exec.specs.Symbolic.{GuardTree, is_good, TreeState, register_tree, operand_tree, address_tree, trees_after, all_trees}

-- the state that trees stand for
abbrev pub values : State → ℕ → TreeState → State
values s link t = record {
  regs = λ r. tree_word (t.regs r) s link;
  hi = tree_word t.hi s link;
  lo = tree_word t.lo s link;
  memory = tree_memory t.memory s link;
  mapped = s.mapped;
}

module _ (s : State) (link : ℕ) (words : IsWords s) (low : link < 2 ^ 32) where
  pub register_tree-value : (t : TreeState) (r : ℕ) → tree_word (register_tree t r) s link ≡ read 0 (values s link t).regs r
  register_tree-value t zero = refl
  register_tree-value t (suc r) = refl

  operand-value : (t : TreeState) (x : Operand) → tree_word (operand_tree t x) s link ≡ operand (values s link t) x
  operand-value t (Held r) = register_tree-value t r
  operand-value t (Fixed w) = refl

  value-at : (op : Operator) (t : TreeState) (a : ℕ) (x : Operand)
      → tree_word (op_tree op (register_tree t a) (operand_tree t x)) s link ≡ op_value op (read 0 (values s link t).regs a) (operand (values s link t) x)
  value-at op t a x = op_tree-value op (register_tree t a) (operand_tree t x) s link words low ∙ ap₂ (op_value op) (register_tree-value t a) (operand-value t x)

  regs_step : (t : TreeState) (d : ℕ) (v : Tree) (w : ℕ) → tree_word v s link ≡ w
      → values s link (record t { regs = put t.regs d v }) ≡ record (values s link t) { regs = put (values s link t).regs d w }
  regs_step t d v w e = ap (λ f. record (values s link t) { regs = f }) (put-value (λ x. tree_word x s link) t.regs d v w e)

  -- one action
  pub step-value : (a : Action) (t : TreeState) → values s link (trees_after a t) ≡ state_after a (values s link t)
  step-value (Computes d op a b) t = regs_step t d _ _ (value-at op t a b)
  step-value (Sets d w) t = regs_step t d _ _ refl
  step-value (Loads w d base offset) t =
      regs_step t d _ _
      (load_tree-value w t.memory (address_tree t base offset) s link words low
      ∙ ap (load_at w s.mapped (tree_memory t.memory s link)) (value-at Addu t base (Fixed offset)))
  step-value (Stores w r base offset) t =
      ap (λ m. record (values s link t) { memory = m })
      (store_tree-value w t.memory (address_tree t base offset) (register_tree t r) s link words low
      ∙ ap₂ (store_at w s.mapped (tree_memory t.memory s link)) (value-at Addu t base (Fixed offset)) (register_tree-value t r))
  step-value (Multiplies sign a b) t =
      ap₂ (λ h l. record (values s link t) { hi = h; lo = l }) (value-at (product_high sign) t a (Held b)) (value-at (product_low sign) t a (Held b))
  step-value (Divides sign a b) t =
      ap₂ (λ h l. record (values s link t) { hi = h; lo = l }) (value-at (remainder_operator sign) t a (Held b))
      (value-at (quotient_operator sign) t a (Held b))
  step-value (MovesHigh d) t = regs_step t d _ _ refl
  step-value (MovesLow d) t = regs_step t d _ _ refl

  pub all-value : (acts : List Action) (t : TreeState) → values s link (all_trees acts t) ≡ total acts (values s link t)
  all-value [] t = refl
  all-value (a ∷ rest) t = all-value rest (trees_after a t) ∙ ap (total rest) (step-value a t)

  -- the exit's own writes
  pub puts-value : (shape : Shape) (f : ℕ → Tree)
      → (λ r. tree_word (exit_puts (leaf (Init Link)) (const_tree 1) (const_tree 10) shape f r) s link) ≡ exit_puts link 1 10 shape
      (λ r. tree_word (f r) s link)
  puts-value (Calls g n) f = put-value (λ x. tree_word x s link) f 31 _ _ refl
  puts-value (Prints n) f = put-value (λ x. tree_word x s link) f 2 _ _ refl
  puts-value Halts f = put-value (λ x. tree_word x s link) f 2 _ _ refl
  puts-value _ f = refl

  -- each guard holds
  abbrev pub AllGood : List GuardTree → Type 0
  AllGood gs = (g : GuardTree) → Contains gs g → is_good s link g ≡ true

  good_cons : (g : GuardTree) (gs : List GuardTree) {b : Bool} → is_good s link g ≡ b → AllGood (g ∷ gs) ↔ ((b ≡ true) × AllGood gs)
  good_cons g gs e = (
    (λ h. (sym e ∙ h g (0, omega arith, refl), λ x (k, lt, p). h x (suc k, omega arith, p))),
    λ h x c. contains_split g x gs (λ is. rw (← is) (e ∙ h.0)) (h.1 x) c,
  )

  -- the guards of one action say that it is safe
  guards_of : (a : Action) (t : TreeState) → AllGood (trees_after a t).guards ↔ ((is_safe a (values s link t) ≡ true) × AllGood t.guards)
  guards_of (Loads w d base offset) t = good_cons _ t.guards (ap (is_open w s.mapped) (value-at Addu t base (Fixed offset)))
  guards_of (Stores w r base offset) t = good_cons _ t.guards (ap (is_open w s.mapped) (value-at Addu t base (Fixed offset)))
  guards_of (Divides sign a b) t = good_cons _ t.guards (ap₂ (has_quotient sign) (register_tree-value t a) (register_tree-value t b))
  guards_of _ t = ((λ h. (refl, h)), λ h. h.1)

  pub all_down : (acts : List Action) (t : TreeState) → AllGood (all_trees acts t).guards → AllSafe acts (values s link t) × AllGood t.guards
  all_down [] t h = (tt, h)
  all_down (a ∷ rest) t h =
      let below = all_down rest (trees_after a t) h in
      let here = (guards_of a t).0 below.1 in
      ((here.0, rw (← step-value a t) below.0), here.1)

  pub all_up : (acts : List Action) (t : TreeState) → AllSafe acts (values s link t) → AllGood t.guards → AllGood (all_trees acts t).guards
  all_up [] t safe h = h
  all_up (a ∷ rest) t safe h =
      all_up rest (trees_after a t) (rw (step-value a t) safe.1) ((guards_of a t).1 (safe.0, h))

-- what stands outside the registers stays
pub after_outside : (a : Action) (t : TreeState) (r : ℕ) → is_register r ≡ false → (trees_after a t).regs r ≡ t.regs r
after_outside (Computes d op a b) t r e = put_outside t.regs d _ r e
after_outside (Sets d w) t r e = put_outside t.regs d _ r e
after_outside (Loads w d base offset) t r e = put_outside t.regs d _ r e
after_outside (MovesHigh d) t r e = put_outside t.regs d _ r e
after_outside (MovesLow d) t r e = put_outside t.regs d _ r e
after_outside _ t r e = refl

pub all_outside : (acts : List Action) (t : TreeState) (r : ℕ) → is_register r ≡ false → (all_trees acts t).regs r ≡ t.regs r
all_outside [] t r e = refl
all_outside (a ∷ rest) t r e = all_outside rest (trees_after a t) r e ∙ after_outside a t r e

pub puts_outside : (shape : Shape) (f : ℕ → Tree) (r : ℕ) → is_register r ≡ false → exit_puts (leaf (Init Link)) (const_tree 1) (const_tree 10) shape f r ≡ f r
puts_outside (Calls g n) f r e = put_outside f 31 _ r e
puts_outside (Prints n) f r e = put_outside f 2 _ r e
puts_outside Halts f r e = put_outside f 2 _ r e
puts_outside _ f r e = refl
