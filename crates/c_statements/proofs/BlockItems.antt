-- Lists of items with one more at the end, and the scopes behind statements.
use Rattle.std.proofs.Common.{◌≡◌, ◌⊎◌, ◌+◌, ◌<◌, ℕ, List, [], ◌∷◌, ◌++◌, Bool, length, get_or, take, Result, Ok, IfOk, IfErr, inl, inr}
use Rattle.std.proofs.Common.{refl, sym, ap, ◌∙◌, arith}
use Rattle.std.proofs.lemmas.List.{take_more}
use Rattle.std.specs.declared.vec.Vec.{Vec}
use Rattle.std.specs.declared.alloc.Global.{Global}
use Rattle.c_tree.specs.declared.tree.Item.{Item}
use Rattle.c_tree.specs.Shape.{item_of, items_of}
use Rattle.c_tree.specs.Tree as Tree
use Rattle.c_tree.specs.Tree.{Items, no_items, more_items, declare, statement}
use Rattle.c_typed.specs.declared.tree.TypedStatement.{TypedStatement}
use Rattle.c_statements.specs.declared.fault.TypeFaultKind.{TypeFaultKind}
use Rattle.c_statements.specs.declared.fault.TypeStop.{TypeStop}
use Rattle.c_statements.specs.Faults.{Answers, both_of}
use Rattle.c_statements.specs.Made.{HasLast, MadeOf, Stops}
use Rattle.c_statements.specs.Names.{Scopes, within, outside, with_local, behind, behind_item, behind_items, declared_in_all}
use Rattle.c_typed.specs.Shape.{statement_of, statements_of}
use Rattle.c_statements.specs.Statements.{FaultyItems}
use Rattle.c_typed.specs.Trees as Trees
use Rattle.c_typed.specs.Trees.{TypedStatements, no_statements, more_statements}
use Rattle.c_statements.specs.Types.{TypesItems, no_items_typed, statement_typed, declare_typed}
use Rattle.c_statements.proofs.Firsts.{Both}
use Rattle.c_statements.proofs.Joins.{Same, answers-both, answers-made, answers-same}

abbrev pub with_item : Items → Tree.Item → Items
with_item no_items i = more_items i no_items
with_item (more_items x rest) i = more_items x (with_item rest i)

abbrev pub with_statement : TypedStatements → Trees.TypedStatement → TypedStatements
with_statement no_statements s = more_statements s no_statements
with_statement (more_statements x rest) s = more_statements x (with_statement rest s)

pub items-append : (xs : List Item) (i : Item) → items_of (xs ++ i ∷ []) ≡ with_item (items_of xs) (item_of i)
items-append [] i = refl
items-append (x ∷ xs) i = ap (more_items (item_of x)) (items-append xs i)

pub statements-append : (xs : List TypedStatement) (s : TypedStatement) → statements_of (xs ++ s ∷ []) ≡ with_statement (statements_of xs) (statement_of s)
statements-append [] s = refl
statements-append (x ∷ xs) s = ap (more_statements (statement_of x)) (statements-append xs s)

behind-append : (text : List ℕ) (sc : Scopes) (xs : Items) (i : Tree.Item)
    → behind_items text sc (with_item xs i) ≡ behind_item text (behind_items text sc xs) i
behind-append text sc no_items i = refl
behind-append text sc (more_items x rest) i = behind-append text (behind_item text sc x) rest i

typed-append : (text : List ℕ) (sc : Scopes) (xs : Items) (ts : TypedStatements) (i : Tree.Item) (t : Trees.TypedStatement)
    → TypesItems text sc xs ts → TypesItems text (behind_items text sc xs) (more_items i no_items) (more_statements t no_statements)
    → TypesItems text sc (with_item xs i) (with_statement ts t)
typed-append text sc no_items no_statements i t h l = l
typed-append text sc no_items (more_statements u ts) i t h l = elim h [ ]
typed-append text sc (more_items (declare k x v) rest) no_statements i t h l = elim h [ ]
typed-append text sc (more_items (statement s) rest) no_statements i t h l = elim h [ ]
typed-append text sc (more_items (declare k x v) rest) (more_statements u ts) i t (declare_typed f h) l =
    declare_typed f (typed-append text (with_local text sc k x) rest ts i t h l)
typed-append text sc (more_items (statement s) rest) (more_statements u ts) i t (statement_typed f h) l =
    statement_typed f (typed-append text (behind sc s) rest ts i t h l)

faulty-to : (text : List ℕ) (g b : Bool) (sc : Scopes) (xs : Items) (i : Tree.Item) (k : TypeFaultKind) (at : ℕ)
    → FaultyItems text g b sc xs k at ⊎ FaultyItems text g b (behind_items text sc xs) (more_items i no_items) k at
    → FaultyItems text g b sc (with_item xs i) k at
faulty-to text g b sc no_items i k at (inl h) = absurd h
faulty-to text g b sc no_items i k at (inr h) = h
faulty-to text g b sc (more_items (declare integer_type x v) rest) i k at (inl (inl h)) = inl h
faulty-to text g b sc (more_items (declare integer_type x v) rest) i k at (inl (inr h)) =
    inr (faulty-to text g b (with_local text sc integer_type x) rest i k at (inl h))
faulty-to text g b sc (more_items (declare integer_type x v) rest) i k at (inr h) =
    inr (faulty-to text g b (with_local text sc integer_type x) rest i k at (inr h))
faulty-to text g b sc (more_items (statement s) rest) i k at (inl (inl h)) = inl h
faulty-to text g b sc (more_items (statement s) rest) i k at (inl (inr h)) = inr (faulty-to text g b (behind sc s) rest i k at (inl h))
faulty-to text g b sc (more_items (statement s) rest) i k at (inr h) = inr (faulty-to text g b (behind sc s) rest i k at (inr h))

faulty-from : (text : List ℕ) (g b : Bool) (sc : Scopes) (xs : Items) (i : Tree.Item) (k : TypeFaultKind) (at : ℕ)
    → FaultyItems text g b sc (with_item xs i) k at
    → FaultyItems text g b sc xs k at ⊎ FaultyItems text g b (behind_items text sc xs) (more_items i no_items) k at
faulty-from text g b sc no_items i k at h = inr h
faulty-from text g b sc (more_items (declare integer_type x v) rest) i k at (inl h) = inl (inl h)
faulty-from text g b sc (more_items (declare integer_type x v) rest) i k at (inr h) =
    elim (faulty-from text g b (with_local text sc integer_type x) rest i k at h) [ inl l ↦ inl (inr l) | inr r ↦ inr r ]
faulty-from text g b sc (more_items (statement s) rest) i k at (inl h) = inl (inl h)
faulty-from text g b sc (more_items (statement s) rest) i k at (inr h) =
    elim (faulty-from text g b (behind sc s) rest i k at h) [ inl l ↦ inl (inr l) | inr r ↦ inr r ]

-- the answer for the items so far
abbrev pub ItemsSoFar : List ℕ → (gives loop : Bool) → Scopes → List Item → Result (Vec TypedStatement Global) TypeStop → Type 0
ItemsSoFar text gives loop sc is r = Answers (λ (v : Vec TypedStatement Global). TypesItems text sc (items_of is) (statements_of v.items))
    (FaultyItems text gives loop sc (items_of is)) r

-- the same of the next item, under the scopes behind those before it
abbrev pub NextItem : List ℕ → (gives loop : Bool) → Scopes → Item → Result TypedStatement TypeStop → Type 0
NextItem text gives loop sc i r =
    Answers (λ t. TypesItems text sc (more_items (item_of i) no_items) (more_statements (statement_of t) no_statements))
    (FaultyItems text gives loop sc (more_items (item_of i) no_items)) r

pub none-so-far : (text : List ℕ) (g b : Bool) (sc : Scopes) (v : Vec TypedStatement Global) → v.items ≡ [] → ItemsSoFar text g b sc [] (Ok v)
none-so-far text g b sc v e = record { ok = rw e no_items_typed; none = λ k at h. h; err = tt }

next-of : (all : List Item) (i : ℕ) (x : Item) → i < length all → x ≡ get_or all i x → take (i + 1) all ≡ take i all ++ x ∷ []
next-of all i x l is = take_more all i x l ∙ ap (λ (y : Item). take i all ++ y ∷ []) (sym is)

pub behind-so-far : (text : List ℕ) (sc now : Scopes) (all : List Item) (i : ℕ) (x : Item) → i < length all → x ≡ get_or all i x
    → now ≡ behind_item text (behind_items text sc (items_of (take i all))) (item_of x)
    → now ≡ behind_items text sc (items_of (take (i + 1) all))
behind-so-far text sc now all i x l is e =
    e ∙ sym (ap (λ (ys : List Item). behind_items text sc (items_of ys)) (next-of all i x l is)
    ∙ ap (behind_items text sc) (items-append (take i all) x) ∙ behind-append text sc (items_of (take i all)) (item_of x))

same-faults : (text : List ℕ) (g b : Bool) (sc : Scopes) (xs : List Item) (i : Item)
    → Same (Both (FaultyItems text g b sc (items_of xs))
    (FaultyItems text g b (behind_items text sc (items_of xs)) (more_items (item_of i) no_items))) (FaultyItems text g b sc (items_of (xs ++ i ∷ [])))
same-faults text g b sc xs i =
    rw items-append record { to = faulty-to text g b sc (items_of xs) (item_of i); from = faulty-from text g b sc (items_of xs) (item_of i) }

typed-more : (text : List ℕ) (sc : Scopes) (xs : List Item) (i : Item) (ts : List TypedStatement) (t : TypedStatement)
    → TypesItems text sc (items_of xs) (statements_of ts)
    → TypesItems text (behind_items text sc (items_of xs)) (more_items (item_of i) no_items)
    (more_statements (statement_of t) no_statements) → TypesItems text sc (items_of (xs ++ i ∷ [])) (statements_of (ts ++ t ∷ []))
typed-more text sc xs i ts t h l =
    rw (items-append xs i, statements-append ts t) (typed-append text sc (items_of xs) (statements_of ts) (item_of i) (statement_of t) h l)

pub one-so-far : {text : List ℕ} (g b : Bool) {sc : Scopes} (all : List Item) (i : ℕ) (x : Item) {typed r : Result (Vec TypedStatement Global) TypeStop}
    {one : Result TypedStatement TypeStop} → i < length all → x ≡ get_or all i x → ItemsSoFar text g b sc (take i all) typed
    → NextItem text g b (behind_items text sc (items_of (take i all))) x one
    → IfOk r (MadeOf (both_of typed one) HasLast) → IfErr r (Stops (both_of typed one)) → ItemsSoFar text g b sc (take (i + 1) all) r
one-so-far {text = text} g b {sc = sc} all i x l is h one made stops =
    rw (next-of all i x l is) (answers-same (same-faults text g b sc (take i all) x) (answers-made HasLast (answers-both h one) made stops
    (λ z v p e. rw e (typed-more text sc (take i all) x z.0.items z.1 p.0 p.1))))

-- the scopes behind a block are those around it, and the locals of its items
pub behind-around : (text : List ℕ) (sc : Scopes) (xs : Items) → (behind_items text sc xs).around ≡ sc.around
behind-around text sc no_items = refl
behind-around text sc (more_items (declare k x v) rest) = behind-around text (with_local text sc k x) rest
behind-around text sc (more_items (statement s) rest) = behind-around text (behind sc s) rest

pub behind-locals : (text : List ℕ) (sc : Scopes) (xs : Items) → (behind_items text sc xs).locals ≡ sc.locals + declared_in_all xs
behind-locals text sc no_items = omega arith
behind-locals text sc (more_items (declare k x v) rest) = let h = behind-locals text (with_local text sc k x) rest in omega (arith, h)
behind-locals text sc (more_items (statement s) rest) = let h = behind-locals text (behind sc s) rest in omega (arith, h)

-- the scopes behind a block
pub behind-block : (text : List ℕ) {sc a b d : Scopes} (all : Items) → a ≡ within sc → b ≡ behind_items text a all → d ≡ outside b
    → d ≡ behind sc (Tree.block all)
behind-block text {sc = sc} all e f g =
    g ∙ ap outside (f ∙ ap (λ (s : Scopes). behind_items text s all) e)
    ∙ around (behind_items text (within sc) all) (behind-around text (within sc) all) (behind-locals text (within sc) all)
  where
    around : (s : Scopes) → s.around ≡ sc.inner ∷ sc.around → s.locals ≡ sc.locals + declared_in_all all → outside s ≡ behind sc (Tree.block all)
    around s e f = rw (e, f) refl
