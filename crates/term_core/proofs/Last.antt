-- What the last entry of a legal history says.
use Rattle.std.proofs.Common.{◌≡◌, ℕ, ◌+◌, ◌<◌, ◌≤◌, List, [], ◌∷◌, ◌++◌, Some, sym, ◌∙◌, append-nil, inl, inr, arith}
use Rattle.term_core.specs.declared.Call.{Call}
use Rattle.term_core.specs.declared.Call.TheVariants.{Intern}
use Rattle.term_core.specs.declared.Answer.{Answer}
use Rattle.term_core.specs.declared.Answer.TheVariants.{Ticket}
use Rattle.term_core.specs.declared.Entry.{Entry}
use Rattle.term_labels.specs.WordTrees.{Tree}
use Rattle.term_core.specs.Terms.{Pair, tree_at, tree_over, added_by, adds, pairs_after, pairs_from, pairs_of, MayAnswer, legal_from, IsLegal}
use Rattle.term_core.proofs.Replay.{eqb_has, adds_cases, ticket_there, pairs_append, added_append}

legal_back : (n : ℕ) (ps : List Pair) (h g : List Entry) → legal_from n ps (h ++ g) → legal_from n (pairs_from ps h) g
legal_back n ps [] g l = l
legal_back n ps (x ∷ xs) g l = legal_back n (pairs_after ps x) xs g l.1

-- the last entry has an answer that it may have there
pub legal_last : (n : ℕ) (h : List Entry) (e : Entry) → IsLegal n (h ++ e ∷ []) → MayAnswer n (pairs_of h) e.by e.call e.answer
legal_last n h e l = (legal_back n [] h (e ∷ []) l).0

pub pairs_last : (h : List Entry) (e : Entry) → pairs_of (h ++ e ∷ []) ≡ pairs_after (pairs_of h) e
pairs_last h e = pairs_append [] h (e ∷ [])

-- a ticket that an intern answers has the tree of the call
pub ticket_tree : (n : ℕ) (ps : List Pair) (by : ℕ) (l : ℕ) (ks : List ℕ) (t : ℕ) (x : Tree)
    → MayAnswer n ps by (Intern l ks) (Ticket t) → tree_over ps l ks ≡ Some x
    → tree_at (ps ++ adds ps by (Intern l ks) (Ticket t)) t ≡ Some x
ticket_tree n ps by l ks t x ans over = ticket_there n ps by l ks t ans ∙ sym ans.1 ∙ over

-- an entry leaves no pass with more than `nodes` pairs of its own
adds_low : (n : ℕ) (ps : List Pair) (by q : ℕ) (c : Call) (a : Answer) → MayAnswer n ps q c a → added_by by ps ≤ n
    → added_by by (ps ++ adds ps q c a) ≤ n
adds_low n ps by q c a ans low = elim (adds_cases n ps q c a ans) [
  | inl e ↦ rw (e, append-nil ps) low
  | inr r ↦ rw (r.2, added_append by ps _) (eqb_has (λ k. added_by by ps + k ≤ n) q by 1 0
      (λ e. let few : added_by by ps < n = rw e at r.5 in omega arith) (λ ne. omega arith))
]

low_from : (n : ℕ) (ps : List Pair) (by : ℕ) (h : List Entry) → added_by by ps ≤ n → legal_from n ps h → added_by by (pairs_from ps h) ≤ n
low_from n ps by [] low l = low
low_from n ps by (e ∷ es) low l = low_from n (pairs_after ps e) by es (adds_low n ps by e.by e.call e.answer l.0 low) l.1

-- in a legal history no pass has more than `nodes` pairs of its own
pub added_low : (n : ℕ) (h : List Entry) (by : ℕ) → IsLegal n h → added_by by (pairs_of h) ≤ n
added_low n h by l = low_from n [] by h (omega arith) l
