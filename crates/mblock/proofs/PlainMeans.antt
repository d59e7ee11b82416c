-- Plain orders mean their blocks.
use Rattle.std.proofs.Common.{◌≡◌, ℕ, zero, suc, Bool, true, false, cond, ◌||◌, List, [], ◌∷◌, ◌++◌, map, flat_map, length, slice_get, Some}
use Rattle.std.proofs.Common.{None, refl, sym, ap, ◌∙◌, subst}
use Rattle.std.proofs.lemmas.Option.{same_Some, none-some}
use Rattle.mips_isa.specs.declared.inst.Plain.{Plain}
use Rattle.mips_isa.specs.States.{State}
use Rattle.mips_isa.specs.Actions.{nop, action_of, state_after, is_load, is_move}
use Rattle.mblock.specs.Parts.{BlockParts, OrderParts}
use Rattle.mblock.specs.Slots.{is_slotted}
use Rattle.mblock.specs.BlockMeaning.{exit_shape}
use Rattle.mblock.specs.Clean.{slot_actions, IsClean, FitsSlot}
use Rattle.mblock.specs.PlainOrders.{padded_inst, plain_order_of}
use Rattle.mblock.specs.Orders.{Means, EachPlainUnitHasItsOrders}
use Rattle.mblock.proofs.PlainOrders.{pads, Behind, behind_nothing, behind_still, padded_keep, loads_load, safe_padded, slot_fits, plain_at}
use Rattle.mblock.proofs.Totals.{block_total}
use Rattle.mblock.proofs.Runs.{total, AllSafe, exited, leaves_total, order_runs}

tail_keeps : (h : Bool) → Behind (None ∷ map Some (slot_actions (cond h (Some nop) None)))
tail_keeps true = behind_nothing (Some (action_of nop) ∷ []) (behind_still (action_of nop) [] refl (λ i a b ea. absurd (none-some (Some a) ea)))
tail_keeps false = behind_nothing [] (λ i a b ea. absurd (none-some (Some a) ea))

slot_kind : (h : Bool) (i : Plain) → cond h (Some nop) None ≡ Some i → (is_load (action_of i) || is_move (action_of i)) ≡ false
slot_kind true i e = subst (λ y. (is_load (action_of y) || is_move (action_of y)) ≡ false) (same_Some nop i e) refl
slot_kind false i e = absurd (none-some i e)

pub clean_plain : (b : BlockParts) → IsClean (plain_order_of b)
clean_plain b =
    let k = padded_keep b.insts (None ∷ map Some (slot_actions (cond (is_slotted b.exit) (Some nop) None))) (tail_keeps (is_slotted b.exit)) in
    record {
      apart = k.apart;
      behind = k.behind;
      slot = slot_kind (is_slotted b.exit);
      last = λ i r a ea n e. absurd (k.followed i a ea (loads_load (action_of a) r e) n);
    }

skip_total : (l m : Bool) (rest : List Plain) (s : State) → total (map action_of (pads l m ++ rest)) s ≡ total (map action_of rest) s
skip_total true m rest s = refl
skip_total false true rest s = refl
skip_total false false rest s = refl

padded_total : (insts : List Plain) (s : State) → total (map action_of (flat_map padded_inst insts)) s ≡ total (map action_of insts) s
padded_total [] s = refl
padded_total (i ∷ rest) s =
    skip_total (is_load (action_of i)) (is_move (action_of i)) (flat_map padded_inst rest) (state_after (action_of i) s)
    ∙ padded_total rest (state_after (action_of i) s)

slot_total : (h : Bool) (s : State) → total (slot_actions (cond h (Some nop) None)) s ≡ s
slot_total true s = refl
slot_total false s = refl

slot_safe : (h : Bool) (s : State) → AllSafe (slot_actions (cond h (Some nop) None)) s
slot_safe true s = (refl, tt)
slot_safe false s = tt

pub plain_means : (b : BlockParts) → Means b (plain_order_of b)
plain_means b s link r words low e =
    let block = block_total b s link r e in
    let same = padded_total b.insts s in
    order_runs (plain_order_of b) s link (slot_fits (is_slotted b.exit)) (clean_plain b) (safe_padded b.insts s block.0)
    (slot_safe (is_slotted b.exit) _)
    ∙ ap (λ x. Some (leaves_total b.exit (slot_actions (cond (is_slotted b.exit) (Some nop) None)) link x)) same
    ∙ ap (λ x. Some (record { state = x; goes = (leaves_total b.exit [] link (total (map action_of b.insts) s)).goes }))
    (slot_total (is_slotted b.exit) (exited b.exit link (total (map action_of b.insts) s))) ∙ ap Some (sym block.1)

-- ---- whole units

plain_each : (blocks : List BlockParts) (k : ℕ) (o : OrderParts) → slice_get (map plain_order_of blocks) k ≡ Some o → (b : BlockParts)
    × (slice_get blocks k ≡ Some b) × (o ≡ plain_order_of b)
plain_each [] k o e = absurd (none-some o e)
plain_each (b ∷ rest) zero o e = (b, refl, sym (same_Some (plain_order_of b) o e))
plain_each (b ∷ rest) (suc k) o e = plain_each rest k o e

map_long : (blocks : List BlockParts) → length (map plain_order_of blocks) ≡ length blocks
map_long [] = refl
map_long (b ∷ rest) = ap suc (map_long rest)

pub each_plain_unit_has_its_orders : EachPlainUnitHasItsOrders
each_plain_unit_has_its_orders blocks short = record {
  long = map_long blocks;
  short = short;
  fits = λ k o e. let p = plain_each blocks k o e in subst FitsSlot (sym p.2) (slot_fits (is_slotted p.0.exit));
  exits = λ k b o eb eo. ap (λ x. exit_shape x.exit) (same_Some (plain_order_of b) o (sym (plain_at blocks k b eb) ∙ eo));
  means = λ k b o eb eo. subst (Means b) (same_Some (plain_order_of b) o (sym (plain_at blocks k b eb) ∙ eo)) (plain_means b);
}
