-- Chains of stores: they go on, and a store comes among them.
use Rattle.std.proofs.Common.{◌≡◌, ◌≢◌, ℕ, suc, ◌+◌, ◌<◌, ◌≤◌, ◌==◌, ◌++◌, Bool, cond, true, false, List, [], ◌∷◌, refl, sym}
use Rattle.std.proofs.Common.{ap, ◌∙◌, subst, eq-eqb, ne_eqb, length, take, drop, slice_index_or, ⊎_elim, arith, below_more}
use Rattle.std.specs.Prelude.{slice_index}
use Rattle.std.specs.List.{insert}
use Rattle.std.proofs.Math.Seq.{take-suc, get_or-append_seam}
use Rattle.std.proofs.lemmas.Bool.{false_from_ne_true, cases_eq}
use Rattle.std.proofs.lemmas.List.Edits.{length-insert}
use Rattle.std.proofs.lemmas.List.{append_assoc, get_or_append_left, take-append-le, take-append-drop, take-take}
use Rattle.std.proofs.lemmas.List.{length_push, length-take, length-take-le, get_or-take, get_or_default}
use Rattle.words.specs.declared.width.Width.{Width}
use Rattle.sym_terms.specs.declared.label.Label.TheVariants.{Mem0, Load, Store}
use Rattle.sym_terms.specs.Trees.{Tree, none, more, leaf, binary, ternary}
use Rattle.sym_terms.specs.Sameness.{are_same}
use Rattle.sym_terms.specs.NormalForms.{address_of, is_passed, is_passed_inward, load_tree, store_tree}
use Rattle.sym_terms.proofs.Sameness.{same-is, same-self}
use Rattle.term_table.specs.Passes.{PassState}
use Rattle.term_table.specs.Trees.{HasLegalHistory}
use Rattle.sym_exec.specs.MipsTerms.{HasTree, Lacks}
use Rattle.sym_exec.proofs.MipsTerms.{still_tree, same_trees, one_tree}
use Rattle.sym_exec.proofs.Parts.{lacks_first}
use Rattle.sym_exec.specs.declared.address.TermAddress.{TermAddress}
use Rattle.sym_exec.specs.declared.stores.Stored.{Stored}
use Rattle.sym_exec.specs.declared.stores.StoreChain.{StoreChain}
use Rattle.sym_exec.specs.Standing.{Later, IsAddress}
use Rattle.sym_exec.specs.Stores.{passes, passes_inward, Makes, LeadsTo, MakeMemory, IsChain}

-- a store makes one memory of one memory, and so do stores
makes-one : {p : PassState} {s : Stored} {t u v : Tree} → Makes p s t u → Makes p s t v → u ≡ v
makes-one h k = cc (h.tree, k.tree, one_tree h.has_address k.has_address, one_tree h.has_value k.has_value)

leads-one : (p : PassState) (t : Tree) (xs : List Stored) (u v : Tree) → LeadsTo p t xs u → LeadsTo p t xs v → u ≡ v
leads-one p t [] u v h k = sym h ∙ k
leads-one p t (s ∷ rest) u v h k = leads-one p k.0 rest u v (subst (λ x. LeadsTo p x rest u) (makes-one h.1 k.1) h.2) k.2

pub memory-one : (p : PassState) (xs : List Stored) {u v : Tree} → MakeMemory p xs u → MakeMemory p xs v → u ≡ v
memory-one p xs {u} {v} h k = leads-one p (leaf Mem0) xs u v h k

-- stores behind stores
pub leads-join : (p : PassState) (t : Tree) (xs ys : List Stored) (u v : Tree) → LeadsTo p t xs u → LeadsTo p u ys v → LeadsTo p t (xs ++ ys) v
leads-join p t [] ys u v h k = subst (λ x. LeadsTo p x ys v) (sym h) k
leads-join p t (s ∷ rest) ys u v h k = (h.0, h.1, leads-join p h.0 rest ys u v h.2 k)

leads-split : (p : PassState) (t : Tree) (xs ys : List Stored) (v : Tree) → LeadsTo p t (xs ++ ys) v → (u : Tree) × LeadsTo p t xs u × LeadsTo p u ys v
leads-split p t [] ys v h = (t, refl, h)
leads-split p t (s ∷ rest) ys v h = let l = leads-split p h.0 rest ys v h.2 in (l.0, (h.0, h.1, l.1), l.2)

-- the first stores make a memory
memory-take : (p : PassState) (u : Tree) (k : ℕ) (xs : List Stored) → MakeMemory p xs u → (v : Tree) × MakeMemory p (take k xs) v × LeadsTo p v (drop k xs) u
memory-take p u k xs h =
    leads-split p (leaf Mem0) (take k xs) (drop k xs) u (subst (λ ys. MakeMemory p ys u) (sym (take-append-drop k xs)) h)

-- the last store, and the memory before it
memory-pop : {p : PassState} {u : Tree} (xs : List Stored) (s : Stored) → MakeMemory p (xs ++ s ∷ []) u → (v : Tree) × MakeMemory p xs v × Makes p s v u
memory-pop {p} {u} xs s h =
    let l = leads-split p (leaf Mem0) xs (s ∷ []) u h in
    (l.0, l.1, subst (Makes p s l.0) l.2.2 l.2.1)

-- what a pass has, it has later
module _ {p q : PassState} (e : Later p q) where
  makes-on : {s : Stored} {t u : Tree} → Makes p s t u → Makes q s t u
  makes-on h = record {
    address = h.address;
    value = h.value;
    has_address = still_tree e.extends h.has_address;
    has_value = still_tree e.extends h.has_value;
    at = record { base = still_tree e.extends h.at.base; offset = h.at.offset };
    tree = h.tree;
  }

  leads-on : (t : Tree) (xs : List Stored) (u : Tree) → LeadsTo p t xs u → LeadsTo q t xs u
  leads-on t [] u h = h
  leads-on t (s ∷ rest) u h = (h.0, makes-on h.1, leads-on h.0 rest u h.2)

  pub memory-on : (xs : List Stored) (u : Tree) → MakeMemory p xs u → MakeMemory q xs u
  memory-on xs u h = leads-on (leaf Mem0) xs u h

  pub chain-on : {c : StoreChain} → IsChain p c → IsChain q c
  chain-on {c} h = let xs = c.stores.items in record {
    memory = h.memory;
    made = memory-on xs h.memory h.made;
    memories = λ k lt t made.
        let v = memory-take p h.memory k xs h.made in
        rw (memory-one q (take k xs) made (memory-on (take k xs) v.0 v.1)) (still_tree e.extends (h.memories k lt v.0 v.1));
    some = h.some;
    fit = h.fit;
  }

-- the ticket at a place, of the memory before the store there, which makes the next one
pub chain-next : {p : PassState} {c : StoreChain} (k : ℕ) {m : ℕ} {s : Stored} → IsChain p c → k < length c.memories.items
    → m ≡ slice_index_or c.memories.items k m → k < length c.stores.items → s ≡ slice_index_or c.stores.items k s
    → (t u : Tree) × MakeMemory p (take (suc k) c.stores.items) u × HasTree p m t × Makes p s t u
chain-next {p} {c} k {m} {s} h old there inside is =
    let xs = c.stores.items in
    let u = memory-take p h.memory (suc k) xs h.made in
    let one = memory-pop (take k xs) s (rw (take-suc xs k s inside, ← is) at u.1) in
    (one.0, u.0, u.1, rw (there, ← get_or_default c.memories.items k 0 m old) (h.memories k old one.0 one.1), one.2)

-- the term of one more memory
pub chain-push : {p q : PassState} {c d : StoreChain} (k : ℕ) {n : ℕ} (u : Tree) → Later p q → IsChain p c → length c.memories.items ≡ suc k
    → k < length c.stores.items → MakeMemory p (take (suc k) c.stores.items) u → HasTree q n u
    → d.stores ≡ c.stores → d.memories.items ≡ c.memories.items ++ n ∷ [] → IsChain q d
chain-push {p} {q} {c} k {n} u e h len inside made has stores memories =
    let xs = c.stores.items in
    let ms = c.memories.items in
    let on : IsChain q c = chain-on e h in
    record {
      memory = on.memory;
      made = rw stores on.made;
      memories = rw (memories, length_push ms n, stores)
          (below_more (λ j. (t : Tree) → MakeMemory q (take j xs) t → HasTree q (slice_index (ms ++ n ∷ []) j) t) (length ms)
          (λ j old t before. rw (get_or_append_left ms (n ∷ []) 0 j old) (on.memories j old t before))
          (λ t before. rw (get_or-append_seam ms n [] 0, memory-one q (take (suc k) xs) (rw len at before) (memory-on e (take (suc k) xs) u made)) has));
      some = rw (memories, length_push ms n) (omega arith);
      fit = rw (memories, length_push ms n, stores, len) (omega (arith, inside));
    }

-- a store comes behind the first i
pub chain-insert : {p : PassState} {c d : StoreChain} (i : ℕ) (s : Stored) (u : Tree) → IsChain p c → i ≤ length c.stores.items
    → d.stores.items ≡ insert c.stores.items i s → d.memories.items ≡ take (i + 1) c.memories.items → MakeMemory p d.stores.items u → IsChain p d
chain-insert {p} {c} i s u h inside stores memories made =
    let xs = c.stores.items in
    let ms = c.memories.items in
    record {
      memory = u;
      made = made;
      memories = rw (memories, stores) (λ k lt t here.
          let low : (k ≤ i) × (k < length ms) = omega (arith, lt, length-take (i + 1) ms) in
          let same : take k (insert xs i s) ≡ take k xs =
          rw (take-append-le k (take i xs) (s ∷ drop i xs) (omega (arith, low.0, length-take-le i xs inside)), take-take k i xs low.0) refl in
          rw (get_or-take (i + 1) ms k 0 (omega (arith, low.0))) (h.memories k low.1 t (rw same at here)));
      some = rw memories (omega (arith, length-take (i + 1) ms, h.some));
      fit = rw (memories, stores, length-insert xs i s inside) (omega (arith, length-take (i + 1) ms, h.fit));
    }

-- a memory that is made of one that isn't there
lacks_made : (p q : PassState) (t : Tree) (xs : List Stored) (u : Tree) → LeadsTo p t xs u → Lacks q t → Lacks q u
lacks_made p q t [] u h lacks = rw (← h) lacks
lacks_made p q t (s ∷ rest) u h lacks =
    lacks_made p q h.0 rest u h.2 (rw h.1.tree (lacks_first q (Store s.width) t (more h.1.address (more h.1.value none)) lacks))

-- and so the memory behind n stores, where that behind the first of them isn't there
pub lacks_behind : (p q : PassState) (u : Tree) (k n : ℕ) (xs : List Stored) (m : Tree) → k ≤ n → MakeMemory p (take k xs) u → Lacks q u
    → MakeMemory p (take n xs) m → Lacks q m
lacks_behind p q u k n xs m low made lacks behind =
    let first = memory-take p m k (take n xs) behind in
    let same : first.0 ≡ u = memory-one p (take k xs) (rw (take-take k n xs low) at first.1) made in
    lacks_made p q first.0 (drop k (take n xs)) m first.2 (rw same lacks)

-- bases are the same by tickets exactly when they are by trees
same-bases : {p : PassState} {t u : ℕ} {x y : Tree} → HasLegalHistory p → HasTree p t x → HasTree p u y → are_same x y ≡ (t == u)
same-bases {p} {t} {u} {x} {y} legal h k = ⊎_elim (λ (e : t ≡ u). rw (eq-eqb t u e, (same_trees legal h k).0 e) (same-self y))
    (λ (ne : t ≢ u). rw (ne_eqb t u ne) (false_from_ne_true (are_same x y) (λ s. ne ((same_trees legal h k).1 (same-is x y s))))) (cases_eq t u)

-- the tests by tickets are those by trees
pub passes-is : {p : PassState} {s : Stored} {at : TermAddress} {t u : Tree} (w : Width) (b : Tree) → HasLegalHistory p → (m : Makes p s t u)
    → IsAddress p at (address_of b) → is_passed (Store s.width) (address_of m.address) w (address_of b) ≡ passes s w at
passes-is w b legal m h = rw (same-bases legal m.at.base h.base, m.at.offset, h.offset) refl

pub passes_inward-is : {p : PassState} {s : Stored} {at : TermAddress} {t u : Tree} (w : Width) (b : Tree) → HasLegalHistory p → (m : Makes p s t u)
    → IsAddress p at (address_of b) → is_passed_inward (Store s.width) (address_of m.address) w (address_of b) ≡ passes_inward s w at
passes_inward-is w b legal m h = rw (passes-is w b legal m h, m.at.offset, h.offset) refl

-- a load doesn't pass the last store, or it does and sees the memory before it
pub load-at : {p : PassState} {at : TermAddress} (n : Tree) (c : Bool) (xs : List Stored) (s : Stored) (w : Width) (b : Tree) → HasLegalHistory p
    → MakeMemory p (xs ++ s ∷ []) n → IsAddress p at (address_of b) → passes s w at ≡ c
    → (o : Tree) × MakeMemory p xs o × (load_tree w n b ≡ cond c (load_tree w o b) (binary (Load w) n b))
unfolding load_tree
load-at {p} n c xs s w b legal made h e = let l = memory-pop xs s made in (l.0, l.1, at l.2)
  where
    at : {t : Tree} → Makes p s t n → load_tree w n b ≡ cond c (load_tree w t b) (binary (Load w) n b)
    at m = rw (m.tree, passes-is w b legal m h, e) refl

-- a store stays outside the last one, or goes inside it
pub store-stays : {p : PassState} {n : Tree} {at : TermAddress} (xs : List Stored) (s : Stored) (w : Width) (b y : Tree) → HasLegalHistory p
    → MakeMemory p (xs ++ s ∷ []) n → IsAddress p at (address_of b) → passes_inward s w at ≡ false → store_tree w n b y ≡ ternary (Store w) n b y
unfolding store_tree
store-stays {p} {n} {at} xs s w b y legal made h e =
    let l = memory-pop xs s made in
    rw (l.2.tree, passes_inward-is w b legal l.2 h, e) refl

pub store-goes : {p : PassState} {at : TermAddress} (n : Tree) (xs : List Stored) (s : Stored) (w : Width) (b y : Tree) → HasLegalHistory p
    → MakeMemory p (xs ++ s ∷ []) n → IsAddress p at (address_of b) → passes_inward s w at ≡ true
    → (o : Tree) × MakeMemory p xs o × Makes p s (store_tree w o b y) (store_tree w n b y)
unfolding store_tree
store-goes n xs s w b y legal made h e =
    let l = memory-pop xs s made in
    let m = l.2 in (
      l.0,
      l.1,
      record {
        address = m.address;
        value = m.value;
        has_address = m.has_address;
        has_value = m.has_value;
        at = m.at;
        tree = ap (λ t. store_tree w t b y) m.tree ∙ rw (passes_inward-is w b legal m h, e) refl;
      },
    )

pub store-last : (p : PassState) (n : Tree) (w : Width) (b y : Tree) → MakeMemory p [] n → store_tree w n b y ≡ ternary (Store w) n b y
unfolding store_tree
store-last p n w b y made = rw (← made) refl

-- a walk from the last store inward: what it has passed, and what holds of that and of those before it
pub record Walk (Holds : (inner outer : List Stored) → Type 0) (stores inner : List Stored) : Type 0 where
  pub outer : List Stored
  pub parts : stores ≡ inner ++ outer
  pub trees : Holds inner outer

-- one store more is passed
pub walk-on : {Holds : (inner outer : List Stored) → Type 0} {stores inner : List Stored} (rest : List Stored) (last : Stored) (w : Walk Holds stores inner)
    → inner ≡ rest ++ last ∷ [] → Holds rest (last ∷ w.outer) → Walk Holds stores rest
walk-on rest last w is trees =
    record { outer = last ∷ w.outer; parts = rw (w.parts, is) (append_assoc rest (last ∷ []) w.outer); trees = trees }
