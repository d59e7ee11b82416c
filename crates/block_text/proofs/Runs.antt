-- Whole runs of a reader, and what its spots say of the lines before them.
use Rattle.std.proofs.Common.{◌≡◌, ℕ, ◌<◌, ◌≤◌, inl, inr, List, [], ◌∷◌, ◌++◌, Option, Some, None, length, refl, sym, ap, subst, arith}
use Rattle.std.proofs.Common.{codes, is_some}
use Rattle.std.proofs.lemmas.List.{append_assoc, append-nil, length-append}
use Rattle.mips_isa.specs.declared.inst.Plain.{Plain}
use Rattle.mblock.specs.declared.exit.Exit.{Exit}
use Rattle.mblock.specs.Parts.{BlockParts, OrderParts}
use Rattle.mblock.specs.Slots.{is_slotted}
use Rattle.block_text.specs.Spelling.{SpellsPlain}
use Rattle.block_text.specs.Whole.{AllSpell, EndsWith, SpellsPair}
use Rattle.block_text.specs.StageParts.{StageParts, AtBlock, InBlock, AtOrder, InOrder, Done, Steps, order_of, after_exit}

abbrev pub Runs : StageParts → List (List ℕ) → StageParts → Type 0
Runs p [] q = p ≡ q
Runs p (l ∷ ls) q = (m : StageParts) × Steps p l m × Runs m ls q

pub runs_split : (xs ys : List (List ℕ)) (p q : StageParts) → Runs p (xs ++ ys) q → (m : StageParts) × Runs p xs m × Runs m ys q
runs_split [] ys p q r = (p, refl, r)
runs_split (x ∷ xs) ys p q r = let s = runs_split xs ys r.0 q r.2 in (s.0, (r.0, r.1, s.1), s.2)

pub runs_append : (xs ys : List (List ℕ)) (p m q : StageParts) → Runs p xs m → Runs m ys q → Runs p (xs ++ ys) q
runs_append [] ys p m q r s = subst (λ (x : StageParts). Runs x ys q) (sym r) s
runs_append (x ∷ xs) ys p m q r s = (r.0, r.1, runs_append xs ys r.0 m q r.2 s)

-- instruction lines, in the block or in the order
section_runs : (mk : List Plain → StageParts) (limit : ℕ)
    → ((is : List Plain) (l : List ℕ) (i : Plain) → SpellsPlain l i → length is < limit → Steps (mk is) l (mk (is ++ i ∷ [])))
    → (ls : List (List ℕ)) (acc is : List Plain) → AllSpell ls is → length (acc ++ is) ≤ limit → Runs (mk acc) ls (mk (acc ++ is))
section_runs mk limit law [] acc [] a n = ap mk (sym (append-nil acc))
section_runs mk limit law [] acc (i ∷ is) a n = absurd a
section_runs mk limit law (l ∷ ls) acc [] a n = absurd a
section_runs mk limit law (l ∷ ls) acc (i ∷ is) a n =
    let room : length acc < limit = omega (arith, length-append acc (i ∷ is)) in
    let same = append_assoc acc (i ∷ []) is in
    (mk (acc ++ i ∷ []), law acc l i a.0 room, rw (← same) (section_runs mk limit law ls (acc ++ i ∷ []) is a.1 (rw same n)))

last_runs : (b : BlockParts) (is : List Plain) (e : Exit) (slot : Option Plain) (ls : List (List ℕ)) → EndsWith ls slot → is_some slot ≡ is_slotted e
    → Runs (after_exit b is e) ls (Done b (order_of is e slot))
last_runs b is e None ls h s = rw (h, ← s)
last_runs b is e (Some i) ls h s = rw (h.1, ← s) (Done b (order_of is e (Some i)), (i, h.2, refl), refl)

pub spelled_runs : (ls : List (List ℕ)) (b : BlockParts) (o : OrderParts) → SpellsPair ls b o → Runs AtBlock ls (Done b o)
spelled_runs ls b o s =
    let order_part : Runs (InOrder b []) (s.order_lines ++ s.order_exit ∷ s.last_lines) (Done b o) =
    runs_append s.order_lines (s.order_exit ∷ s.last_lines) (InOrder b []) (InOrder b o.insts) (Done b o)
    (section_runs (InOrder b) 2048 (λ is l i h n. inl (i, h, n, refl)) s.order_lines [] o.insts s.order s.order_size)
    (after_exit b o.insts o.exit, inr (o.exit, s.leaves_order, refl), last_runs b o.insts o.exit o.slot s.last_lines s.slot s.has_slot) in
    let block_part : Runs (InBlock []) (s.block_lines ++ s.block_exit ∷ (codes "order" ∷ (s.order_lines ++ s.order_exit ∷ s.last_lines))) (Done b o) =
    runs_append s.block_lines (s.block_exit ∷ (codes "order" ∷ (s.order_lines ++ s.order_exit ∷ s.last_lines))) (InBlock []) (InBlock b.insts) (Done b o)
    (section_runs InBlock 512 (λ is l i h n. inl (i, h, n, refl)) s.block_lines [] b.insts s.block s.block_size)
    (AtOrder b, inr (b.exit, s.leaves_block, refl), (InOrder b [], (refl, refl), order_part)) in
    subst (λ (xs : List (List ℕ)). Runs AtBlock xs (Done b o)) (sym s.whole) (InBlock [], (refl, refl), block_part)
