-- A run has come as far as its trees: calls of the table leave it there, and what an action does takes it on.
-- A Nop changes nothing, so code leaves what it leaves without its Nops. And code in two parts: the second goes on from what the first leaves.
use Rattle.std.proofs.Common.{◌≡◌, ℕ, ◌<◌, ◌≤◌, ◌+◌, List, [], ◌∷◌, ◌++◌, length, map, drop, get_or, refl, sym, arith, ◌∙◌, ◌==◌, ◌&&◌, Bool, true, false}
use Rattle.std.proofs.Common.{cond, not, take, true≢false, eqb-true}
use Rattle.std.specs.Prelude.{vec_len, vec_capacity}
use Rattle.std.proofs.lemmas.List.{drop_more, append-nil, append_assoc, length-append, map-append}
use Rattle.std.proofs.lemmas.Bool.{and_parts, cond_both, not-false}
use Rattle.std.proofs.lemmas.List.Sums.{length-filter, count_by-le-length}
use Rattle.std.proofs.lemmas.List.Elements.{filter_more}
use Rattle.mips_isa.specs.declared.inst.Plain.{Plain}
use Rattle.mips_isa.specs.declared.action.Action.{Action}
use Rattle.mips_isa.specs.Actions.{action_of, nop}
use Rattle.mips_isa.specs.declared.inst.Plain.TheVariants.{Shift}
use Rattle.mips_isa.specs.declared.inst.ShiftOp.TheVariants.{Sll}
use Rattle.mips_isa.specs.Texts.{is_nop}
use Rattle.mblock.specs.declared.exit.Exit.{Exit}
use Rattle.sym_terms.specs.declared.label.Label.TheVariants.{Mem0}
use Rattle.sym_terms.specs.Trees.{leaf}
use Rattle.term_table.specs.Passes.{PassState}
use Rattle.sym_exec.specs.MipsTerms.{HasTree}
use Rattle.sym_exec.specs.declared.registers.TermRegisters.{TermRegisters}
use Rattle.sym_exec.specs.declared.room.RunLists.{RunLists}
use Rattle.sym_exec.specs.declared.state.Guard.{Guard}
use Rattle.sym_exec.specs.declared.stores.StoreChain.{StoreChain}
use Rattle.sym_exec.specs.Symbolic.{TreeState, GuardTree, trees_after, all_trees, start_trees, trees_from, code_trees}
use Rattle.sym_exec.specs.Standing.{Later, Hold, IsGuard, StandsFor}
use Rattle.sym_exec.specs.Stores.{MakeMemory, HasRoom, HasStoreRoom, IsChain, IsEmpty, Tracks}
use Rattle.sym_exec.proofs.Tickets.{hold_on, guards_on, guards_more, lacks_left, lacks_right}
use Rattle.sym_exec.proofs.Chains.{chain-on, memory-on}
use Rattle.sym_exec.specs.declared.state.TermExit.{TermExit}
use Rattle.sym_exec.specs.declared.state.TermPlaces.{TermPlaces}
use Rattle.sym_exec.specs.Asked.{asked_by, asked_by_all, asked_first, asked_from, code_asked, LacksOne}
use Rattle.sym_exec.specs.Growth.{growth_by_all, stores_after, all_stores, growth_from}
use Rattle.sym_exec.specs.Runs.{needed}

module _ {p q : PassState} (e : Later p q) where
  -- registers, HI or LO changed
  pub tracks_on : {r s : TermRegisters} {l : RunLists} {t u : TreeState} → Tracks p r l t → Hold q s u → t.memory ≡ u.memory
      → t.guards ≡ u.guards → Tracks q s l u
  tracks_on {l = l} {t = t} h hold memory guards = record {
    hold = hold;
    memory = rw (← memory) (memory-on e l.chain.stores.items t.memory h.memory);
    guards = rw (← guards) (guards_on e h.guards);
  }

  -- copies of the lists track the same
  pub tracks_copied : {r : TermRegisters} {l m : RunLists} {t : TreeState} → Tracks p r l t → m.guards.items ≡ l.guards.items
      → m.chain.stores.items ≡ l.chain.stores.items → Tracks q r m t
  tracks_copied {l = l} {t = t} h guards stores = record {
    hold = hold_on e h.hold;
    memory = rw stores (memory-on e l.chain.stores.items t.memory h.memory);
    guards = rw guards (guards_on e h.guards);
  }

  pub chain_copied : {c d : StoreChain} → IsChain p c → d.stores.items ≡ c.stores.items → d.memories.items ≡ c.memories.items → IsChain q d
  chain_copied h stores memories = let was = chain-on e h in record {
    memory = was.memory;
    made = rw stores was.made;
    memories = rw (memories, stores) was.memories;
    some = rw memories was.some;
    fit = rw (memories, stores) was.fit;
  }

  -- and there is a guard more
  pub tracks_guard : {r s : TermRegisters} {l m : RunLists} {t u : TreeState} {x : GuardTree} (g : Guard) → Tracks p r l t → Hold q s u
      → MakeMemory q m.chain.stores.items u.memory → m.guards.items ≡ l.guards.items ++ g ∷ [] → u.guards ≡ x ∷ t.guards → IsGuard q g x → Tracks q s m u
  tracks_guard {x = x} g h hold memory pushed guards is =
      record { hold = hold; memory = memory; guards = rw guards (guards_more g x (guards_on e h.guards) is pushed) }

-- which leaves room, where the stores have room and are at most one more
pub room_guard : (l m : RunLists) (d : StoreChain) → vec_capacity l.guards ≤ vec_capacity d.stores → HasStoreRoom d → vec_len d.stores ≤ vec_len l.guards + 1
    → vec_len m.guards ≡ vec_len l.guards + 1 → vec_capacity m.guards ≡ vec_capacity l.guards → m.chain ≡ d → HasRoom m
room_guard l m d enough inner few one capacity chain =
    record { guards = rw (chain, capacity) enough; chain = rw chain inner; few = rw (chain, one) few }

-- at the start no store is made
pub chain_start : {p : PassState} {l : RunLists} {d : StoreChain} {k : ℕ} → IsEmpty l → HasTree p k (leaf Mem0) → d.stores ≡ l.chain.stores
    → d.memories.items ≡ l.chain.memories.items ++ k ∷ [] → IsChain p d
chain_start none has stores memories = record {
  memory = leaf Mem0;
  made = rw (stores, none.stores) refl;
  memories = rw (memories, none.memories, stores, none.stores) (λ i lt t made. let first : i ≡ 0 = omega (arith, lt) in
      rw (first, ← (rw first at made)) has);
  some = rw (memories, none.memories) (omega arith);
  fit = rw (memories, none.memories) (omega arith);
}

-- the actions from a place on: the one there, and the others
pub actions_here : (l : List Plain) (k : ℕ) {x : Plain} {a : Action} → k < length l → x ≡ get_or l k x → a ≡ action_of x
    → map action_of (drop k l) ≡ a ∷ map action_of (drop (k + 1) l)
actions_here l k {x} lt there acts = rw (acts, drop_more l k x lt, ← there) refl

pub nop_is : (x : Plain) → is_nop x ≡ true → x ≡ nop
nop_is (Shift Sll rd rt amount) is =
    let first = and_parts (rd == 0) ((rt == 0) && (amount == 0)) is in
    let rest = and_parts (rt == 0) (amount == 0) first.1 in
    rw (eqb-true rd 0 first.0, eqb-true rt 0 rest.0, eqb-true amount 0 rest.1) refl
nop_is _ is = absurd (true≢false (sym is))

-- what runs actions and passes over a Nop's leaves what it leaves without the Nops
module _ {S : Type 0} (run : List Action → S → S) (next : Action → S → S)
    (more : (a : Action) (rest : List Action) (s : S) → run (a ∷ rest) s ≡ run rest (next a s)) (keeps : (s : S) → next (action_of nop) s ≡ s) where
  run_needed : (xs : List Plain) (s : S) → run (map action_of xs) s ≡ run (map action_of (needed xs)) s
  run_needed [] s = refl
  run_needed (x ∷ xs) s = cond_both (not (is_nop x)) (x ∷ needed xs) (needed xs) (λ ys. run (action_of x ∷ map action_of xs) s ≡ run (map action_of ys) s)
      (λ _. more (action_of x) (map action_of xs) s ∙ (run_needed xs (next (action_of x) s) ∙ sym (more (action_of x) (map action_of (needed xs)) s)))
      (λ is. rw (nop_is x (not-false (is_nop x) is), more (action_of nop) (map action_of xs) s, keeps s) (run_needed xs s))

  -- so code with one beginning but for Nops has come equally far
  same_runs : (xs ys : List Plain) → needed xs ≡ needed ys → (s : S) → run (map action_of xs) s ≡ run (map action_of ys) s
  same_runs xs ys is s = rw (run_needed xs s, is) (sym (run_needed ys s))

pub same_trees : (xs ys : List Plain) → needed xs ≡ needed ys → (t : TreeState) → all_trees (map action_of xs) t ≡ all_trees (map action_of ys) t
same_trees = same_runs all_trees trees_after (λ a rest t. refl) (λ t. refl)

pub same_stores : (xs ys : List Plain) → needed xs ≡ needed ys → (n : ℕ) → all_stores (map action_of xs) n ≡ all_stores (map action_of ys) n
same_stores = same_runs all_stores stores_after (λ a rest n. refl) (λ n. refl)

-- one instruction more
pub needed_more : (xs : List Plain) (k : ℕ) {x : Plain} (b : Bool) → k < length xs → x ≡ get_or xs k x → is_nop x ≡ b
    → length (needed (take (k + 1) xs)) ≡ length (needed (take k xs)) + cond b 0 1
needed_more xs k {x} true low is e = rw (filter_more (λ y. not (is_nop y)) xs k x low, ← is, e, append-nil) (omega arith)
needed_more xs k {x} false low is e = rw (filter_more (λ y. not (is_nop y)) xs k x low, ← is, e, length-append) refl

pub needed_few : (xs : List Plain) → length (needed xs) ≤ length xs
needed_few xs = rw (length-filter (λ y. not (is_nop y)) xs) (count_by-le-length (λ y. not (is_nop y)) xs)

-- actions behind others
trees_append : (xs ys : List Action) (t : TreeState) → all_trees (xs ++ ys) t ≡ all_trees ys (all_trees xs t)
trees_append [] ys t = refl
trees_append (a ∷ xs) ys t = trees_append xs ys (trees_after a t)

asked_append : (xs ys : List Action) (t : TreeState) → asked_by_all (xs ++ ys) t ≡ asked_by_all xs t ++ asked_by_all ys (all_trees xs t)
asked_append [] ys t = refl
asked_append (a ∷ xs) ys t = rw (asked_append xs ys (trees_after a t)) (sym (append_assoc (asked_by a t) _ _))

stores_append : (xs ys : List Action) (n : ℕ) → all_stores (xs ++ ys) n ≡ all_stores ys (all_stores xs n)
stores_append [] ys n = refl
stores_append (a ∷ xs) ys n = stores_append xs ys (stores_after a n)

growth_append : (xs ys : List Action) (n : ℕ) → growth_by_all (xs ++ ys) n ≡ growth_by_all xs n + growth_by_all ys (all_stores xs n)
growth_append [] ys n = omega arith
growth_append (a ∷ xs) ys n = omega (arith, growth_append xs ys (stores_after a n))

module _ {insts : List Plain} (both rest : List Plain) (is : insts ≡ both ++ rest) (exit : Exit) (slots : List Action) where
  actions : map action_of insts ≡ map action_of both ++ map action_of rest
  actions = rw is (map-append action_of both rest)

  pub stands_in_parts : {p : PassState} {s : TermPlaces} {x : TermExit} {gs : List Guard}
      → StandsFor p s x gs (trees_from (all_trees (map action_of both) start_trees) (map action_of rest) exit slots)
      → StandsFor p s x gs (code_trees (map action_of insts) exit slots)
  stands_in_parts h = rw (actions, trees_append (map action_of both) (map action_of rest) start_trees) h

  asked_in_parts : asked_by_all (map action_of both) start_trees ++ asked_from (all_trees (map action_of both) start_trees) (map action_of rest) exit slots
      ≡ asked_from start_trees (map action_of insts) exit slots
  asked_in_parts =
      let acts = map action_of both in
      let left = map action_of rest in
      rw (actions, asked_append acts left start_trees, trees_append acts left start_trees) (simp append_assoc)

  pub lacks_early : {p : PassState} → LacksOne p (asked_by_all (map action_of both) start_trees) → LacksOne p (code_asked (map action_of insts) exit slots)
  lacks_early h = lacks_right asked_first (rw (← asked_in_parts) (lacks_left _ h))

  pub lacks_late : {p : PassState} → LacksOne p (asked_from (all_trees (map action_of both) start_trees) (map action_of rest) exit slots)
      → LacksOne p (code_asked (map action_of insts) exit slots)
  lacks_late h = lacks_right asked_first (rw (← asked_in_parts) (lacks_right _ h))

  pub growth_in_parts : {n m : ℕ} {e : Exit} {more : List Action} → n ≡ 0 → m ≡ all_stores (map action_of both) 0 → e ≡ exit → more ≡ slots
      → growth_by_all (map action_of both) n + growth_from m (map action_of rest) e more ≡ growth_from 0 (map action_of insts) exit slots
  growth_in_parts none made leaves fills =
      rw (
        none,
        made,
        leaves,
        fills,
        actions,
        growth_append (map action_of both) (map action_of rest) 0,
        stores_append (map action_of both) (map action_of rest) 0,
      ) (omega arith)
