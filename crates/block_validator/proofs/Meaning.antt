-- An order with its block's trees means the block.
use Rattle.std.proofs.Common.{◌≡◌, ◌<◌, ◌^◌, ℕ, Bool, true, false, List, [], ◌∷◌, map, Some, refl, sym, ap, ap₂, ◌∙◌, subst, arith}
use Rattle.mips_isa.specs.States.{State, is_register, read, IsWords}
use Rattle.mips_isa.specs.declared.action.Action.{Action}
use Rattle.mips_isa.specs.Actions.{action_of}
use Rattle.mblock.specs.declared.exit.Exit.{Exit}
use Rattle.mblock.specs.Parts.{BlockParts, OrderParts}
use Rattle.mblock.specs.BlockMeaning.{exit_shape, exit_reads, departure_of, Effect}
use Rattle.mblock.specs.Clean.{slot_actions}
use Rattle.mblock.specs.Orders.{Means}
use Rattle.mblock.proofs.Totals.{block_total}
use Rattle.mblock.proofs.Runs.{total, AllSafe, exited, leaves_total, order_runs}
use Rattle.sym_terms.specs.Values.{tree_word, tree_memory}
use Rattle.sym_exec.specs.Symbolic.{TreeState, start_trees, register_tree, all_trees, exit_trees, CodeTrees, code_trees, block_trees, order_trees}
use Rattle.sym_exec.proofs.Values.{values, register_tree-value, all-value, puts-value, AllGood, all_down, all_up, all_outside, puts_outside}
use Rattle.block_validator.specs.declared.place.Place.TheVariants as places
use Rattle.block_validator.specs.Same.{SameTrees, IsPlace, EachCheckedOrderMeansItsBlock, CheckedParts, IsChecked}

register_place : (r : ℕ) → is_register r ≡ true → IsPlace (places.Register r)
register_place r e = let p =
    Rattle.std.proofs.lemmas.Bool.and_parts (Rattle.std.specs.Prelude.nat_lt 0 r) (Rattle.std.specs.Prelude.nat_lt r 32) e in (grind arith, grind arith)

-- the outcome that trees stand for
abbrev outcome_at : CodeTrees → State → ℕ → Effect
outcome_at c s link = record { state = values s link c.trees; goes = departure_of c.shape (map (λ t. tree_word t s link) c.operands) }

operand_values : (s : State) (link : ℕ) (words : IsWords s) (low : link < 2 ^ 32) (t : TreeState) (rs : List ℕ)
    → map (λ x. tree_word x s link) (map (register_tree t) rs) ≡ map (read 0 (values s link t).regs) rs
operand_values s link words low t [] = refl
operand_values s link words low t (r ∷ rs) = ap₂ (λ x xs. x ∷ xs) (register_tree-value s link words low t r) (operand_values s link words low t rs)

exit_values : (s : State) (link : ℕ) (words : IsWords s) (low : link < 2 ^ 32) (exit : Exit) (t : TreeState)
    → values s link (exit_trees exit t) ≡ exited exit link (values s link t)
exit_values s link words low exit t = ap (λ f. record (values s link t) { regs = f }) (puts-value s link words low (exit_shape exit) t.regs)

code_values : (acts : List Action) (exit : Exit) (slots : List Action) (s : State) (link : ℕ) (words : IsWords s) (low : link < 2 ^ 32)
    → outcome_at (code_trees acts exit slots) s link ≡ leaves_total exit slots link (total acts s)
code_values acts exit slots s link words low =
    let t = all_trees acts start_trees in
    let here : values s link t ≡ total acts s = all-value s link words low acts start_trees in
    ap₂ (λ x w. record { state = x; goes = departure_of (exit_shape exit) w })
    (all-value s link words low slots (exit_trees exit t) ∙ ap (total slots) (exit_values s link words low exit t))
    (operand_values s link words low t (exit_reads exit)) ∙ ap (leaves_total exit slots link) here

-- the guards of the code hold exactly where its actions are safe
code_safe : (acts : List Action) (exit : Exit) (slots : List Action) (s : State) (link : ℕ) (words : IsWords s) (low : link < 2 ^ 32)
    → AllGood s link words low (code_trees acts exit slots).trees.guards → AllSafe acts s × AllSafe slots (exited exit link (total acts s))
code_safe acts exit slots s link words low h =
    let t = all_trees acts start_trees in
    let below = all_down s link words low slots (exit_trees exit t) h in
    let here = all_down s link words low acts start_trees below.1 in
    (here.0, subst (AllSafe slots) (exit_values s link words low exit t ∙ ap (exited exit link) (all-value s link words low acts start_trees)) below.0)

block_good : (b : BlockParts) (s : State) (link : ℕ) (words : IsWords s) (low : link < 2 ^ 32) → AllSafe (map action_of b.insts) s
    → AllGood s link words low (block_trees b).trees.guards
block_good b s link words low safe = all_up s link words low (map action_of b.insts) start_trees safe (λ g (k, lt, e). absurd (omega arith))

-- equal trees in the places that are compared are equal in all
same_regs : (b : BlockParts) (o : OrderParts) → SameTrees (block_trees b) (order_trees o) → (r : ℕ)
    → (block_trees b).trees.regs r ≡ (order_trees o).trees.regs r
same_regs b o h r = go (is_register r) refl
  where
    outside : (acts : List Action) (exit : Exit) (slots : List Action) → is_register r ≡ false → (code_trees acts exit slots).trees.regs r ≡ start_trees.regs r
    outside acts exit slots e =
        all_outside slots (exit_trees exit (all_trees acts start_trees)) r e
        ∙ puts_outside (exit_shape exit) (all_trees acts start_trees).regs r e ∙ all_outside acts start_trees r e

    go : (x : Bool) → is_register r ≡ x → (block_trees b).trees.regs r ≡ (order_trees o).trees.regs r
    go true e = h (places.Register r) (register_place r e)
    go false e = outside (map action_of b.insts) b.exit [] e ∙ sym (outside (map action_of o.insts) o.exit (slot_actions o.slot) e)

same_outcome : (b : BlockParts) (o : OrderParts) (s : State) (link : ℕ) → SameTrees (block_trees b) (order_trees o)
    → outcome_at (block_trees b) s link ≡ outcome_at (order_trees o) s link
same_outcome b o s link h =
    λ i. record {
      state = record {
        regs = λ r. tree_word (same_regs b o h r i) s link;
        hi = tree_word (h places.Hi tt i) s link;
        lo = tree_word (h places.Lo tt i) s link;
        memory = tree_memory (h places.Memory tt i) s link;
        mapped = s.mapped;
      };
      goes = departure_of ((h places.Exit tt).0 i) (map (λ t. tree_word t s link) ((h places.Exit tt).1 i));
    }

pub each_checked_order_means_its_block : EachCheckedOrderMeansItsBlock
each_checked_order_means_its_block b o fits clean same s link r words low e =
    let block = block_total b s link r e in
    let good : AllGood s link words low (order_trees o).trees.guards = λ g c. block_good b s link words low block.0 g (same places.Guards tt g c) in
    let safe = code_safe (map action_of o.insts) o.exit (slot_actions o.slot) s link words low good in
    order_runs o s link fits clean safe.0 safe.1
    ∙ ap Some (sym (code_values (map action_of o.insts) o.exit (slot_actions o.slot) s link words low)
    ∙ sym (same_outcome b o s link same) ∙ code_values (map action_of b.insts) b.exit [] s link words low ∙ sym block.1)

pub checked_means : (c : CheckedParts) → IsChecked c → Means c.block c.order
checked_means c h = each_checked_order_means_its_block c.block c.order h.fits h.clean h.same
