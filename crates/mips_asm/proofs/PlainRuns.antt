-- Plain orders keep every instruction in place, so a word is one item at most.
use Rattle.std.proofs.Common.{◌≡◌, ℕ, zero, suc, ◌+◌, ◌*◌, ◌<◌, ◌≤◌, false, List, [], ◌∷◌, ◌++◌, map, flat_map, length}
use Rattle.std.proofs.Common.{slice_get, Some, refl, sym, ap, ◌∙◌, subst, take, drop, take-append-drop, length-take-le, arith}
use Rattle.std.proofs.lemmas.List.{map-append}
use Rattle.std.proofs.lemmas.Option.{same_Some, none-some}
use Rattle.mips_isa.specs.declared.inst.Plain.{Plain}
use Rattle.mips_isa.specs.declared.inst.Inst.TheVariants as I
use Rattle.mips_isa.specs.States.{State}
use Rattle.mips_isa.specs.Actions.{action_of, is_safe, state_after}
use Rattle.mips_isa.specs.Flows.{Flow, quiet}
use Rattle.mips_isa.specs.Steps.{words_from}
use Rattle.mblock.specs.declared.exit.Exit.TheVariants.{Return}
use Rattle.mblock.specs.Parts.{BlockParts}
use Rattle.mblock.proofs.Runs.{AllSafe, Ready, words_run}
use Rattle.mips_code.specs.Machines.{machine_run}
use Rattle.mips_asm.specs.Fetching.{insts_code}
use Rattle.mips_asm.specs.Layout.{place, layout, links_of}
use Rattle.mblock.specs.UnitRuns.{items}
use Rattle.mblock.specs.PlainOrders.{padded_inst, plain_order_of}
use Rattle.mblock.proofs.PlainOrders.{padded_keep, loads_load, padded_append, padded_length, safe_padded, plain_at}
use Rattle.mblock.specs.Orders.{AreOrders}
use Rattle.mips_asm.specs.LayoutRuns.{EachPlainLayoutRuns}
use Rattle.mips_asm.proofs.LayoutPlaces.{HasAt, has_front, layout_has}
use Rattle.mips_asm.proofs.Steps.{machine_at, words_lead}
use Rattle.mips_asm.proofs.Composed.{is_wrong, is_right, said, from_start}

items_safe : (blocks : List BlockParts) (links : ℕ → ℕ) (t : ℕ) (out : List ℕ) (rest : List Plain) (n : ℕ) (s : State) → n ≤ length rest
    → is_wrong (items blocks links n t rest s out) ≡ false → AllSafe (map action_of (take n rest)) s
items_safe blocks links t out rest zero s le w = tt
items_safe blocks links t out [] (suc n) s le w = absurd (omega arith)
items_safe blocks links t out (i ∷ rest) (suc n) s le w =
    let next = state_after (action_of i) s in
    let right = is_right (is_safe (action_of i) s) (items blocks links n t rest next out) out w in
    (right.0, items_safe blocks links t out rest n next (omega arith) right.1)

-- the padded words of some instructions run, whatever exit comes behind them
padded_run : (l : List Plain) (s : State) → AllSafe (map action_of l) s → (f : Flow)
    × (words_from (map action_of (flat_map padded_inst l)) (Some (quiet s)) ≡ Some f)
padded_run l s safe =
    let k = padded_keep l [] (λ i a b ea. absurd (none-some (Some a) ea)) in
    let ready : Ready (flat_map padded_inst l) Return [] (quiet s) = record {
      first = λ a x. refl;
      wait = λ j b lt x. absurd (omega arith);
      end = λ x. refl;
      apart = k.apart;
      behind = k.behind;
      last = λ i r a ea n x. absurd (k.followed i a ea (loads_load (action_of a) r x) n);
    } in
    let r = words_run (flat_map padded_inst l) Return [] (quiet s) ready (safe_padded l s safe) in
    (r.flow, r.runs)

plain_part : (blocks : List BlockParts) → AreOrders blocks (map plain_order_of blocks)
    → (t : ℕ) (b : BlockParts) (s : State) (out : List ℕ) (n : ℕ) → slice_get blocks t ≡ Some b → n ≤ length b.insts
    → is_wrong (items blocks (links_of (map plain_order_of blocks)) n t b.insts s out) ≡ false → (k : ℕ) × (n < 1 * (k + 1))
    × (machine_run (insts_code (layout (map plain_order_of blocks))) k (machine_at (place (map plain_order_of blocks) t) s out) ≡ said out)
plain_part blocks h t b s out n eb le w =
    let orders = map plain_order_of blocks in
    let some = take n b.insts in
    let rest = drop n b.insts in
    let run = padded_run some s (items_safe blocks (links_of orders) t out b.insts n s le w) in
    let split : map I.Plain (flat_map padded_inst b.insts) ≡ map I.Plain (flat_map padded_inst some) ++ map I.Plain
    (flat_map padded_inst rest) = ap (λ l. map I.Plain (flat_map padded_inst l)) (sym (take-append-drop n b.insts))
    ∙ ap (map I.Plain) (padded_append some rest) ∙ map-append I.Plain (flat_map padded_inst some) (flat_map padded_inst rest) in
    let all = has_front (layout orders) (place orders t) (map I.Plain (flat_map padded_inst b.insts)) _
    (layout_has orders h.fits t (plain_order_of b) (plain_at blocks t b eb)) in
    let front = has_front (layout orders) (place orders t) (map I.Plain (flat_map padded_inst some))
    (map I.Plain (flat_map padded_inst rest)) (subst (HasAt (layout orders) (place orders t)) split all) in
    let a = (words_lead (layout orders) (flat_map padded_inst some) (place orders t) (quiet s) run.0 out run.1 front).by 0 in
    (a.0, omega (arith, a.1, padded_length some, length-take-le n b.insts le), a.2)

pub each_plain_layout_runs : EachPlainLayoutRuns
each_plain_layout_runs blocks h room fit =
    from_start blocks (map plain_order_of blocks) h room (λ n k. n < 1 * (k + 1)) 1 (record {
      leaves = λ n k j lt le. omega arith;
      halts = λ n j le. omega arith;
      block = λ t b o eb eo n left_over k j en lt le. let same =
          ap (λ x. length x.insts) (same_Some (plain_order_of b) o (sym (plain_at blocks t b eb) ∙ eo)) in omega (arith, same, padded_length b.insts);
      part = plain_part blocks h;
    }) fit
