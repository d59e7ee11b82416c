-- Plain orders break no delay rule.
use Rattle.std.proofs.Common.{◌≡◌, ℕ, zero, suc, ◌<◌, ◌≤◌, ◌⊎◌, ⊎_elim, Bool, true, false, cond, ◌||◌, ◌==◌, ne_eqb, List, [], ◌∷◌, ◌++◌}
use Rattle.std.proofs.Common.{map, flat_map, length, slice_get, Option, Some, None, refl, sym, ap, ◌∙◌, subst, true≢false, append_assoc}
use Rattle.std.proofs.Common.{length-append, arith, ◌*◌, ◌+◌, take, get_or}
use Rattle.std.specs.Prelude.{is_some}
use Rattle.std.proofs.lemmas.List.{append-nil, take_all, take_more}
use Rattle.std.proofs.lemmas.Option.{same_Some, none-some}
use Rattle.mips_isa.specs.declared.inst.Plain.{Plain}
use Rattle.mips_isa.specs.declared.action.Action.{Action}
use Rattle.mips_isa.specs.declared.action.Action.TheVariants.{Loads, MovesHigh, MovesLow}
use Rattle.mips_isa.specs.States.{State, is_register}
use Rattle.mips_isa.specs.Actions.{nop, action_of, state_after, touches, loads, is_load, is_move, is_product}
use Rattle.mblock.specs.declared.exit.Exit.{Exit}
use Rattle.mblock.specs.Parts.{BlockParts, OrderParts}
use Rattle.mblock.specs.Slots.{is_slotted}
use Rattle.mblock.specs.Clean.{kinds_of}
use Rattle.mblock.specs.PlainOrders.{padded_inst, plain_order_of}
use Rattle.mblock.proofs.Runs.{AllSafe}

abbrev pub pads : Bool → Bool → List Plain
pads l m = cond l (nop ∷ []) (cond m (nop ∷ nop ∷ []) [])

-- ---- the rules

pub loads_load : (a : Action) (r : ℕ) → loads a r ≡ true → is_load a ≡ true
loads_load (Loads w d base offset) r e = refl
loads_load _ r e = e

loads_register : (a : Action) (r : ℕ) → loads a r ≡ true → is_register r ≡ true
loads_register (Loads w d base offset) r e = (Rattle.std.proofs.lemmas.Bool.and_parts (is_register r) _ e).0
loads_register _ r e = absurd (true≢false (sym e))

nop_touches : (r : ℕ) → is_register r ≡ true → touches (action_of nop) r ≡ false
nop_touches zero e = absurd (true≢false (sym e))
nop_touches (suc r) e =
    let apart : (0 == suc r) ≡ false = ne_eqb 0 (suc r) (λ p. omega arith) in
    subst (λ x. (x || (x || false)) ≡ false) (sym apart) refl

abbrev pub Apart : List Plain → Type 0
Apart l = (i r : ℕ) (a b : Plain) → slice_get l i ≡ Some a → slice_get l (suc i) ≡ Some b → loads (action_of a) r ≡ true → touches (action_of b) r ≡ false

apart_more : (x : Plain) (l : List Plain)
    → ((r : ℕ) (b : Plain) → slice_get l 0 ≡ Some b → loads (action_of x) r ≡ true → touches (action_of b) r ≡ false) → Apart l → Apart (x ∷ l)
apart_more x l h k zero r a b ea eb e = h r b eb (subst (λ y. loads (action_of y) r ≡ true) (sym (same_Some x a ea)) e)
apart_more x l h k (suc i) r a b ea eb e = k i r a b ea eb e

abbrev pub Behind : List (Option Action) → Type 0
Behind l = (i : ℕ) (a b : Action) → slice_get l i ≡ Some (Some a) → is_move a ≡ true
    → (slice_get l (suc i) ≡ Some (Some b)) ⊎ (slice_get l (suc (suc i)) ≡ Some (Some b)) → is_product b ≡ false

behind_more : (x : Option Action) (l : List (Option Action))
    → ((a b : Action) → x ≡ Some a → is_move a ≡ true → (slice_get l 0 ≡ Some (Some b)) ⊎ (slice_get l 1 ≡ Some (Some b))
    → is_product b ≡ false) → Behind l → Behind (x ∷ l)
behind_more x l h k zero a b ea m eb = h a b (same_Some x (Some a) ea) m eb
behind_more x l h k (suc i) a b ea m eb = k i a b ea m eb

-- what is no move asks nothing
pub behind_still : (a : Action) (l : List (Option Action)) → is_move a ≡ false → Behind l → Behind (Some a ∷ l)
behind_still a l e = behind_more (Some a) l (λ x b ex m _. absurd (true≢false (sym m ∙ ap is_move (sym (same_Some a x ex)) ∙ e)))

pub behind_nothing : (l : List (Option Action)) → Behind l → Behind (None ∷ l)
behind_nothing l = behind_more None l (λ x b ex m _. absurd (none-some x ex))

-- no load stands at the end
abbrev pub Followed : List Plain → Type 0
Followed l = (i : ℕ) (a : Plain) → slice_get l i ≡ Some a → is_load (action_of a) ≡ true → suc i ≡ length l → ⊥

followed_more : (x : Plain) (l : List Plain) → (is_load (action_of x) ≡ true → 0 < length l) → Followed l → Followed (x ∷ l)
followed_more x l h k zero a ea e n =
    let some : 0 < length l = h (subst (λ y. is_load (action_of y) ≡ true) (sym (same_Some x a ea)) e) in omega arith
followed_more x l h k (suc i) a ea e n = k i a ea e (omega arith)

pub record Keeps (l : List Plain) (tail : List (Option Action)) : Type 0 where
  pub apart : Apart l
  pub behind : Behind (map (λ i. Some (action_of i)) l ++ tail)
  pub followed : Followed l

nop_keeps : (l : List Plain) (tail : List (Option Action)) → Keeps l tail → Keeps (nop ∷ l) tail
nop_keeps l tail k = record {
  apart = apart_more nop l (λ r b eb e. absurd (true≢false (sym e))) k.apart;
  behind = behind_still (action_of nop) (kinds_of l tail) refl k.behind;
  followed = followed_more nop l (λ e. absurd (true≢false (sym e))) k.followed;
}

pads_keep : (x : Plain) (l m : Bool) (rest : List Plain) (tail : List (Option Action)) → is_load (action_of x) ≡ l
    → is_move (action_of x) ≡ m → Keeps rest tail → Keeps (x ∷ (pads l m ++ rest)) tail
pads_keep x true m rest tail el em k = record {
  apart = apart_more x (nop ∷ rest)
      (λ r b eb e. subst (λ y. touches (action_of y) r ≡ false) (same_Some nop b eb) (nop_touches r (loads_register (action_of x) r e))) below.apart;
  behind = behind_still (action_of x) (kinds_of (nop ∷ rest) tail) (still (action_of x) el) below.behind;
  followed = followed_more x (nop ∷ rest) (λ _. omega arith) below.followed;
}
  where
    below : Keeps (nop ∷ rest) tail
    below = nop_keeps rest tail k

    still : (a : Action) → is_load a ≡ true → is_move a ≡ false
    still (MovesHigh d) e = absurd (true≢false (sym e))
    still (MovesLow d) e = absurd (true≢false (sym e))
    still _ e = refl
pads_keep x false true rest tail el em k = record {
  apart = apart_more x (nop ∷ nop ∷ rest) (λ r b eb e. absurd (true≢false (sym (loads_load (action_of x) r e) ∙ el))) below.apart;
  behind = behind_more (Some (action_of x)) (kinds_of (nop ∷ nop ∷ rest) tail) (λ a b ea m eb. ⊎_elim (nop_at b) (nop_at b) eb) below.behind;
  followed = followed_more x (nop ∷ nop ∷ rest) (λ _. omega arith) below.followed;
}
  where
    below : Keeps (nop ∷ nop ∷ rest) tail
    below = nop_keeps (nop ∷ rest) tail (nop_keeps rest tail k)

    nop_at : (b : Action) → Some (Some (action_of nop)) ≡ Some (Some b) → is_product b ≡ false
    nop_at b e = subst (λ y. is_product y ≡ false) (same_Some (action_of nop) b (same_Some (Some (action_of nop)) (Some b) e)) refl
pads_keep x false false rest tail el em k = record {
  apart = apart_more x rest (λ r b eb e. absurd (true≢false (sym (loads_load (action_of x) r e) ∙ el))) k.apart;
  behind = behind_still (action_of x) (kinds_of rest tail) em k.behind;
  followed = followed_more x rest (λ e. absurd (true≢false (sym e ∙ el))) k.followed;
}

pub padded_keep : (insts : List Plain) (tail : List (Option Action)) → Behind tail → Keeps (flat_map padded_inst insts) tail
padded_keep [] tail h = record { apart = λ i r a b ea. absurd (none-some a ea); behind = h; followed = λ i a ea. absurd (none-some a ea) }
padded_keep (x ∷ rest) tail h = pads_keep x (is_load (action_of x)) (is_move (action_of x)) (flat_map padded_inst rest) tail refl refl (padded_keep rest tail h)

-- ---- lengths, safety and places

pub padded_append : (a b : List Plain) → flat_map padded_inst (a ++ b) ≡ flat_map padded_inst a ++ flat_map padded_inst b
padded_append [] b = refl
padded_append (x ∷ a) b = ap (λ l. padded_inst x ++ l) (padded_append a b)
    ∙ sym (append_assoc (padded_inst x) (flat_map padded_inst a) (flat_map padded_inst b))

pub padded_length : (l : List Plain) → length l ≤ length (flat_map padded_inst l)
padded_length [] = omega arith
padded_length (x ∷ l) = omega (arith, padded_length l, length-append (padded_inst x) (flat_map padded_inst l))

safe_pads : (l m : Bool) (rest : List Plain) (s : State) → AllSafe (map action_of rest) s → AllSafe (map action_of (pads l m ++ rest)) s
safe_pads true m rest s h = (refl, h)
safe_pads false true rest s h = (refl, (refl, h))
safe_pads false false rest s h = h

pub safe_padded : (l : List Plain) (s : State) → AllSafe (map action_of l) s → AllSafe (map action_of (flat_map padded_inst l)) s
safe_padded [] s h = tt
safe_padded (x ∷ l) s h = (
  h.0,
  safe_pads (is_load (action_of x)) (is_move (action_of x)) (flat_map padded_inst l) (state_after (action_of x) s)
      (safe_padded l (state_after (action_of x) s) h.1),
)

pub plain_at : (blocks : List BlockParts) (t : ℕ) (b : BlockParts) → slice_get blocks t ≡ Some b
    → slice_get (map plain_order_of blocks) t ≡ Some (plain_order_of b)
plain_at [] t b e = absurd (none-some b e)
plain_at (x ∷ rest) zero b e = ap (λ y. Some (plain_order_of y)) (same_Some x b e)
plain_at (x ∷ rest) (suc t) b e = plain_at rest t b e

-- at most three words for an instruction
pads_short : (l m : Bool) → length (pads l m) ≤ 2
pads_short true m = omega arith
pads_short false true = omega arith
pads_short false false = omega arith

pub padded_short : (l : List Plain) → length (flat_map padded_inst l) ≤ 3 * length l
padded_short [] = omega arith
padded_short (x ∷ l) =
    omega (arith, padded_short l, pads_short (is_load (action_of x)) (is_move (action_of x)), length-append (padded_inst x) (flat_map padded_inst l))

-- ---- the order of a block, and of one instruction more

pub slot_fits : (h : Bool) → is_some (cond h (Some nop) None) ≡ h
slot_fits true = refl
slot_fits false = refl

pub insts_more : (l before after : List Plain) (i : ℕ) (x : Plain) → i < length l → x ≡ get_or l i x
    → before ≡ flat_map padded_inst (take i l) → after ≡ before ++ padded_inst x → after ≡ flat_map padded_inst (take (i + 1) l)
insts_more l before after i x lt is made pushed =
    pushed ∙ ap (λ y. y ++ padded_inst x) made ∙ ap (λ y. flat_map padded_inst (take i l) ++ y) (sym (append-nil (padded_inst x)))
    ∙ sym (padded_append (take i l) (x ∷ [])) ∙ ap (λ y. flat_map padded_inst (take i l ++ y ∷ [])) is
    ∙ ap (flat_map padded_inst) (sym (take_more l i x lt))

pub order_made : (b : BlockParts) (l insts : List Plain) (i : ℕ) (e : Exit) (slot : Option Plain) (o : OrderParts) → length l ≤ i → l ≡ b.insts
    → insts ≡ flat_map padded_inst (take i l) → e ≡ b.exit → slot ≡ cond (is_slotted e) (Some nop) None
    → o ≡ record { insts = insts; exit = e; slot = slot } → o ≡ plain_order_of b
order_made b l insts i e slot o past same made exit fits is =
    is ∙ ap (λ x. record { insts = x; exit = e; slot = slot }) (made ∙ ap (flat_map padded_inst) (take_all i l past ∙ same))
    ∙ ap (λ x. record { insts = flat_map padded_inst b.insts; exit = e; slot = x }) fits
    ∙ ap (λ x. record { insts = flat_map padded_inst b.insts; exit = x; slot = cond (is_slotted x) (Some nop) None }) exit

-- ---- the orders of some blocks, and of one more

order_behind : (bs : List BlockParts) (b : BlockParts) → map plain_order_of (bs ++ b ∷ []) ≡ map plain_order_of bs ++ plain_order_of b ∷ []
order_behind [] b = refl
order_behind (x ∷ rest) b = ap (λ l. plain_order_of x ∷ l) (order_behind rest b)

pub orders_more : (bs : List BlockParts) (os new : List OrderParts) (i : ℕ) (b : BlockParts) (o : OrderParts) → i < length bs → b ≡ get_or bs i b
    → os ≡ map plain_order_of (take i bs) → o ≡ plain_order_of b → new ≡ os ++ o ∷ [] → new ≡ map plain_order_of (take (i + 1) bs)
orders_more bs os new i b o lt is made order pushed =
    pushed ∙ ap (λ l. l ++ o ∷ []) made ∙ ap (λ x. map plain_order_of (take i bs) ++ x ∷ []) (order ∙ ap plain_order_of is)
    ∙ sym (order_behind (take i bs) (get_or bs i b)) ∙ ap (map plain_order_of) (sym (take_more bs i b lt))
