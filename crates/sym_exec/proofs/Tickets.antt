-- Tickets go on standing for their trees, also after a write; what a node that was read says of its tree; and one of the trees asked for isn't there.
use Rattle.std.proofs.Common.{◌≡◌, ◌≢◌, ℕ, zero, suc, ◌<◌, ◌≤◌, ◌==◌, List, [], ◌∷◌, ◌++◌, length, slice_index_or, slice_set, Contains, refl, ap, ◌∙◌}
use Rattle.std.proofs.Common.{eqb-true, ne_eqb, ⊎_elim, arith, ◌+◌, ◌^◌, true, false, Some, None, sym, ap₂, true≢false}
use Rattle.std.specs.Prelude.{slice_index, OnOk, OnErr, Result, Ok, Err}
use Rattle.std.proofs.lemmas.List.Elements.{Contains-append_left, Contains-append_right, Contains-push, Contains-push_cases}
use Rattle.std.proofs.lemmas.Bool.{eqb-false, cond_both, cases_eq}
use Rattle.std.proofs.lemmas.Bool.Decides.{nat_tests}
pub use Rattle.std.proofs.lemmas.Result.{on_ok_weaker, on_err_weaker}
use Rattle.std.proofs.lemmas.List.{get_or-set_same, get_or-set_other}
use Rattle.words.specs.declared.operator.Operator.TheVariants.{Addu}
use Rattle.words.specs.Words.{wrap}
use Rattle.mips_isa.specs.States.{is_register, read, put}
use Rattle.mips_isa.proofs.Registers.{put_lost, read-put}
use Rattle.mblock.specs.BlockMeaning.{Shape}
use Rattle.term_labels.specs.Trees.{tree_count}
use Rattle.sym_terms.specs.NormalForms.{const_tree, label_constant, constant_of, is_sum, at_base, sum_address, address_of, tree_plus, op_tree}
use Rattle.sym_terms.specs.declared.label.Origin.TheVariants.{Register}
use Rattle.sym_terms.specs.declared.label.Label.TheVariants.{Init, Op}
use Rattle.sym_terms.specs.Trees.{Tree, leaf, Trees, node, none, more, binary}
use Rattle.sym_terms.specs.declared.label.Label.{Label}
use Rattle.sym_terms.specs.Labels.{label_coding}
use Rattle.sym_terms.proofs.Sameness.{operator-is}
use Rattle.term_table.specs.Passes.{PassState, linked}
use Rattle.term_table.proofs.Callers.{extends_more, extends_self}
use Rattle.term_table.proofs.TermCallers.{count_of}
use Rattle.sym_exec.specs.MipsTerms.{HasSeen, HasTree, Lacks, HaveTrees, IsNode}
pub use Rattle.sym_exec.proofs.MipsTerms.{still_seen, still_tree, tree_seen, one_tree}
use Rattle.sym_exec.specs.declared.registers.TermRegisters.{TermRegisters}
use Rattle.sym_exec.specs.declared.state.TermPlaces.{TermPlaces}
use Rattle.sym_exec.specs.declared.state.TermExit.{TermExit}
use Rattle.sym_exec.specs.declared.state.Guard.{Guard}
use Rattle.sym_exec.specs.declared.state.Guard.TheVariants.{Address, Division}
use Rattle.sym_exec.specs.Symbolic.{TreeState, register_tree, start_trees, CodeTrees, GuardTree, AtAddress, AtDivision}
use Rattle.sym_exec.specs.declared.interner.Interner.{Interner}
use Rattle.sym_exec.specs.Interners.{GoesOn, Interns}
use Rattle.sym_exec.specs.Asked.{LacksOne, first_registers, asked_first}
use Rattle.sym_exec.specs.Standing.{Later, Known, Hold, with_reg, IsGuard, GuardsStand, AllHave, LeavesBy, StandsFor, tickets_of, IsAddress, AreSummands}
use Rattle.sym_exec.specs.declared.address.TermAddress.{TermAddress}

pub later_more : {p q r : PassState} → Later p q → Later q r → Later p r
later_more e f = record { extends = extends_more e.extends f.extends; legal = λ h. f.legal (e.legal h) }

-- calls behind calls
pub goes_on : {A E : Type 0} {i j : Interner} {x : Result A E} → Interns i x j → GoesOn i j
goes_on h = record { same_reference = h.same_reference; later = h.later }

pub goes_none : (i : Interner) → GoesOn i i
goes_none i = record { same_reference = refl; later = record { extends = extends_self i.pass.now; legal = λ h. h } }

pub goes_more : {i j k : Interner} → GoesOn i j → GoesOn j k → GoesOn i k
goes_more e f = record { same_reference = f.same_reference ∙ e.same_reference; later = later_more e.later f.later }

pub interns_by : {A E : Type 0} {i j : Interner} {x : Result A E} → GoesOn i j → OnErr x (linked j.pass.now ≡ j.pass.now.nodes) → Interns i x j
interns_by h full = record { same_reference = h.same_reference; later = h.later; full = full }

pub get_seen : {p : PassState} {s : TermRegisters} {v r : ℕ} → Known p s → v ≡ slice_index s.regs r → r < 32 → HasSeen p v
get_seen {r = r} h e lt = rw e (h.regs r lt)

pub get_tree : {p : PassState} {s : TermRegisters} {t : TreeState} {v r : ℕ} → Hold p s t → v ≡ slice_index s.regs r → r < 32 → HasTree p v (register_tree t r)
get_tree {r = r} h e lt = rw e (h.regs r lt)

-- a place after a write: the new ticket, or the one that was there
pub set_at : (P : ℕ → Type 0) (xs : List ℕ) (k v q : ℕ) → k < length xs → (q ≡ k → P v) → (q ≢ k → P (slice_index xs q)) → P (slice_index (slice_set xs k v) q)
set_at P xs k v q lt same other = ⊎_elim
    (λ (e : q ≡ k). rw (e, get_or-set_same xs k v 0 lt) (same e)) (λ (ne : q ≢ k). rw (get_or-set_other xs k q v 0 ne) (other ne)) (cases_eq q k)

pub known_put : {p : PassState} {s s' : TermRegisters} {d v : ℕ} → Known p s → HasSeen p v → s' ≡ with_reg s d v → d < 32 → length s.regs ≡ 32 → Known p s'
known_put {p} {s} {d = d} {v = v} h seen e lt n = rw e (record {
  regs = λ r low. cond_both (d == 0) s.regs (slice_set s.regs d v) (λ l. HasSeen p (slice_index l r))
      (λ _. h.regs r low) (λ _. set_at (HasSeen p) s.regs d v r (omega (arith, lt, n)) (λ _. seen) (λ _. h.regs r low));
  hi = h.hi;
  lo = h.lo;
})

pub hold_put : {p : PassState} {s s' : TermRegisters} {t : TreeState} {d v : ℕ} {x : Tree} → Hold p s t → HasTree p v x
    → s' ≡ with_reg s d v → d < 32 → length s.regs ≡ 32 → Hold p s' (record t { regs = put t.regs d x })
hold_put {p} {s} {t = t} {d = d} {v = v} {x = x} h tree e lt n = rw e (record {
  regs = λ r low. cond_both (d == 0) s.regs (slice_set s.regs d v) (λ l. HasTree p (slice_index l r) (read (const_tree 0) (put t.regs d x) r))
      (λ none. rw (put_lost t.regs d x (ap is_register (eqb-true d 0 none))) (h.regs r low))
      (λ some. set_at (λ y. HasTree p y (read (const_tree 0) (put t.regs d x) r)) s.regs d v r (omega (arith, lt, n))
      (λ same. rw (read_put r (omega (arith, eqb-false d 0 some, same)) low same) tree)
      (λ other. rw (read-put (const_tree 0) t.regs d x r (ne_eqb r d other)) (h.regs r low)));
  hi = h.hi;
  lo = h.lo;
})
  where
    read_put : (r : ℕ) → 0 < r → r < 32 → r ≡ d → read (const_tree 0) (put t.regs d x) r ≡ x
    read_put zero some low is = absurd (omega arith)
    read_put (suc r) some low is = grind (arith, nat_tests)

-- memory and the guards play no part
pub hold_same : {p : PassState} {s : TermRegisters} {t u : TreeState} → Hold p s t → t.regs ≡ u.regs → t.hi ≡ u.hi → t.lo ≡ u.lo → Hold p s u
hold_same h a b c = record { regs = λ r lt. rw (← a) (h.regs r lt); hi = rw (← b) h.hi; lo = rw (← c) h.lo }

-- what a pass has, it has later
module _ {p q : PassState} (e : Later p q) where
  pub hold_on : {s : TermRegisters} {t : TreeState} → Hold p s t → Hold q s t
  hold_on h = record {
    regs = λ r lt. still_tree e.extends (h.regs r lt);
    hi = still_tree e.extends h.hi;
    lo = still_tree e.extends h.lo;
  }

  pub known_on : {s : TermRegisters} → Known p s → Known q s
  known_on {s} h = record {
    regs = λ r lt. still_seen e.extends (slice_index_or s.regs r 0) (h.regs r lt);
    hi = still_seen e.extends s.hi h.hi;
    lo = still_seen e.extends s.lo h.lo;
  }

  guard_on : (g : Guard) (x : GuardTree) → IsGuard p g x → IsGuard q g x
  guard_on (Address w t) (AtAddress v x) h = (h.0, still_tree e.extends h.1)
  guard_on (Division sign a b) (AtDivision other x y) h = (h.0, still_tree e.extends h.1, still_tree e.extends h.2)
  guard_on _ _ h = h

  pub guards_on : {gs : List Guard} {xs : List GuardTree} → GuardsStand p gs xs → GuardsStand q gs xs
  guards_on h = record {
    down = λ g c. let r = h.down g c in (r.0, r.1, guard_on g r.0 r.2);
    up = λ x c. let r = h.up x c in (r.0, r.1, guard_on r.0 x r.2);
  }

  all_on : (ts : List ℕ) (xs : List Tree) → AllHave p ts xs → AllHave q ts xs
  all_on (t ∷ ts) (x ∷ xs) h = (still_tree e.extends h.0, all_on ts xs h.1)
  all_on _ _ h = h

  pub leaves_on : (x : TermExit) (shape : Shape) (xs : List Tree) → LeavesBy p x shape xs → LeavesBy q x shape xs
  leaves_on x shape xs h = (h.0, all_on (tickets_of x) xs h.1)

  pub stands_for_on : {s : TermPlaces} {x : TermExit} {gs : List Guard} {c : CodeTrees} → StandsFor p s x gs c → StandsFor q s x gs c
  stands_for_on {x = x} {c = c} h = record {
    places = record {
      regs = λ r lt. still_tree e.extends (h.places.regs r lt);
      hi = still_tree e.extends h.places.hi;
      lo = still_tree e.extends h.places.lo;
      memory = still_tree e.extends h.places.memory;
    };
    exit = leaves_on x c.shape c.operands h.exit;
    guards = guards_on h.guards;
  }

pub contains_split : {A R : Type 0} (y x : A) (xs : List A) → (y ≡ x → R) → (Contains xs x → R) → Contains (y ∷ xs) x → R
contains_split y x xs new old (zero, lt, e) = new e
contains_split y x xs new old (suc k, lt, e) = old (k, omega (arith, lt), e)

-- one guard more on both sides
pub guards_more : {p : PassState} {gs hs : List Guard} {xs : List GuardTree} (g : Guard) (x : GuardTree) → GuardsStand p gs xs
    → IsGuard p g x → hs ≡ gs ++ g ∷ [] → GuardsStand p hs (x ∷ xs)
guards_more {p} {gs} {xs = xs} g x h is e = rw e (record {
  down = λ f c. ⊎_elim
      (λ (old : Contains gs f). let r = h.down f old in (r.0, Contains-append_right (x ∷ []) xs r.0 r.1, r.2))
      (λ (new : g ≡ f). (x, (0, omega arith, refl), rw (← new) is)) (Contains-push_cases gs g f c);
  up = λ y c. contains_split x y xs
      (λ new. (g, Contains-push gs g, rw (← new) is))
      (λ old. let r = h.up y old in (r.0, Contains-append_left gs (g ∷ []) r.0 r.1, r.2)) c;
})

-- at the start there are no guards
pub guards_none : {p : PassState} → GuardsStand p [] []
guards_none = record { down = λ g c. absurd (omega (arith, c.1)); up = λ g c. absurd (omega (arith, c.1)) }

-- a leaf's constant, and none where there are children
pub constant-node : {p : PassState} {l : Label} (ks : List ℕ) {x : Tree} → IsNode p l ks x
    → (length ks ≤ 0 → constant_of x ≡ label_constant l) × (0 < length ks → constant_of x ≡ None)
constant-node {p} {l} ks n = rw n.tree (go n.trees (count_of label_coding p ks n.trees n.have))
  where
    go : (ts : Trees) → tree_count ts ≡ length ks
        → (length ks ≤ 0 → constant_of (node l ts) ≡ label_constant l) × (0 < length ks → constant_of (node l ts) ≡ None)
    go none e = ((λ _. refl), λ some. absurd (omega (arith, e, some)))
    go (more y ys) e = ((λ few. absurd (omega (arith, e, few))), λ _. refl)

-- what is no sum of two terms is a base itself
pub address-other : {p : PassState} {l : Label} (ks : List ℕ) {x : Tree} → IsNode p l ks x → (length ks ≡ 2 → is_sum l ≡ false) → address_of x ≡ at_base x
address-other {p} {l} ks n plain = rw n.tree (go n.trees (λ two. plain (sym (count_of label_coding p ks n.trees n.have) ∙ two)))
  where
    go : (ts : Trees) → (tree_count ts ≡ 2 → is_sum l ≡ false) → address_of (node l ts) ≡ at_base (node l ts)
    go (more a (more b none)) plain = ap (λ t. sum_address t (binary l a b) a (constant_of b)) (plain refl)
    go _ plain = refl

sum-is : (l : Label) → is_sum l ≡ true → l ≡ Op Addu
sum-is (Op op) h = ap Op (operator-is op Addu h)
sum-is _ h = absurd (true≢false (sym h))

pub summands-of : {p : PassState} {l : Label} {left right : ℕ} {x : Tree} → IsNode p l (left ∷ right ∷ []) x → is_sum l ≡ true → AreSummands p left right x
summands-of {p} {l} {left} {right} {x} n e = go n.trees n.tree n.have
  where
    go : (ts : Trees) → x ≡ node l ts → HaveTrees p (left ∷ right ∷ []) ts → AreSummands p left right x
    go none is h = absurd h
    go (more a none) is h = absurd h.1
    go (more a (more b none)) is h =
        record { a = a; b = b; has_left = h.0; has_right = h.1.0; sum = is ∙ ap (λ k. binary k a b) (sum-is l e) }
    go (more a (more b (more c rest))) is h = absurd h.1.1

-- the address of a sum, by what its right side is
pub address-sum : {p : PassState} {left right : ℕ} {x : Tree} (s : AreSummands p left right x) (c : ℕ) → c < 2 ^ 32 → constant_of s.b ≡ Some c
    → address_of x ≡ record { base = s.a; offset = c }
address-sum s c low e = let same : wrap c ≡ c = omega (arith, low) in ap address_of s.sum ∙ rw (e, same) refl

pub address-none : {p : PassState} {left right : ℕ} {x : Tree} (s : AreSummands p left right x) → constant_of s.b ≡ None → address_of x ≡ at_base x
address-none s e = ap address_of s.sum ∙ rw e (ap at_base (sym s.sum))

pub address-base : {p q : PassState} {t : ℕ} {x : Tree} → Later p q → HasTree p t x → address_of x ≡ at_base x
    → IsAddress q (record { base = t; offset = 0 }) (address_of x)
address-base e h is = rw is (record { base = still_tree e.extends h; offset = refl })

-- a list of two
pub two-of : (xs : List ℕ) (a b : ℕ) → 2 ≤ length xs → length xs < 3 → a ≡ slice_index_or xs 0 a → b ≡ slice_index_or xs 1 b → xs ≡ a ∷ b ∷ []
two-of [] a b least below ea eb = absurd (omega (arith, least))
two-of (x ∷ []) a b least below ea eb = absurd (omega (arith, least))
two-of (x ∷ y ∷ []) a b least below ea eb = ap₂ (λ i j. i ∷ j ∷ []) (sym ea) (sym eb)
two-of (x ∷ y ∷ z ∷ rest) a b least below ea eb = absurd (omega (arith, below))

-- an address in normal form
pub address-is : (x : Tree) (c : ℕ) → op_tree Addu x (const_tree c) ≡ tree_plus (address_of x).base (wrap ((address_of x).offset + c))
unfolding op_tree
address-is x c = refl

-- an address that was read is that of the tree which the ticket has later
pub address-later : {p q : PassState} {t : ℕ} {a : TermAddress} → HasSeen p t → Later p q
    → ((x : Tree) → HasTree p t x → IsAddress q a (address_of x)) → (b : Tree) → HasTree q t b → IsAddress q a (address_of b)
address-later seen on at b h = rw (← one_tree (still_tree on.extends seen.has) h) (at seen.term seen.has)

-- the address of a sum with a constant, by the sum's ticket
pub sum-reached : {p : PassState} {base t c : ℕ} {x : Tree} → HasTree p base x → c < 2 ^ 32 → HasTree p t (binary (Op Addu) x (const_tree c))
    → (b : Tree) → HasTree p t b → IsAddress p (record { base = base; offset = c }) (address_of b)
sum-reached {c = c} has low sum b h = let same : wrap c ≡ c = omega (arith, low) in rw (← one_tree sum h) (record { base = has; offset = sym same })

-- the registers' start terms
pub start_of : (r : ℕ) → 1 ≤ r → register_tree start_trees r ≡ leaf (Init (Register r))
start_of zero h = absurd (omega (arith, h))
start_of (suc r) h = refl

-- what holds is left by a success, or by an error
pub ok_always : {X E : Type 0} {A : Type 0} (r : Result X E) → A → OnOk r A
ok_always (Ok x) h = h
ok_always (Err e) h = tt

pub err_always : {X E : Type 0} {A : Type 0} (r : Result X E) → A → OnErr r A
err_always (Ok x) a = tt
err_always (Err e) a = a

module _ {p : PassState} where
  pub lacks_here : {x : Tree} {xs : List Tree} → Lacks p x → LacksOne p (x ∷ xs)
  lacks_here {x} h = record { tree = x; asked = (0, omega arith, refl); lacks = h }

  pub lacks_left : {xs : List Tree} (ys : List Tree) → LacksOne p xs → LacksOne p (xs ++ ys)
  lacks_left {xs} ys h = record { tree = h.tree; asked = Contains-append_left xs ys h.tree h.asked; lacks = h.lacks }

  pub lacks_right : (xs : List Tree) {ys : List Tree} → LacksOne p ys → LacksOne p (xs ++ ys)
  lacks_right xs {ys} h = record { tree = h.tree; asked = Contains-append_right xs ys h.tree h.asked; lacks = h.lacks }

  pub lacks_next : (x : Tree) {xs : List Tree} → LacksOne p xs → LacksOne p (x ∷ xs)
  lacks_next x h = lacks_right (x ∷ []) h

  lacks_register : (n r : ℕ) → r < n → Lacks p (register_tree start_trees r) → LacksOne p (first_registers n)
  lacks_register zero r low h = absurd (omega (arith, low))
  lacks_register (suc n) r low h = ⊎_elim (λ (last : r ≡ n). lacks_here (rw (← last) h))
      (λ (other : r ≢ n). lacks_next (register_tree start_trees n) (lacks_register n r (omega (arith, low, other)) h)) (cases_eq r n)

  pub lacks_start : (r : ℕ) → r < 32 → Lacks p (register_tree start_trees r) → LacksOne p asked_first
  unfolding asked_first
  lacks_start r low h =
      lacks_next start_trees.memory (lacks_next start_trees.hi (lacks_next start_trees.lo (lacks_register 32 r low h)))
