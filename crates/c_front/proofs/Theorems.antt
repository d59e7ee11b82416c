-- Programs: at most one for the tokens, and the first wrong token.
use Rattle.std.proofs.Math.Seq.{take-append_seam, take-append-add}
use Rattle.std.proofs.lemmas.List.{take-append-drop, take-take}
use Rattle.std.proofs.Common.{drop, append_assoc, ◌≡◌, ◌+◌, ◌<◌, ◌≤◌, ℕ, List, [], ◌∷◌, ◌++◌, take, length, refl, ap, arith, length-append, ◌-◌}
use Rattle.c_tokens.specs.declared.token.Token.{Token}
use Rattle.std.specs.Borrow.{Bor}
use Rattle.c_front.specs.declared.cursor.ParseStop.TheVariants.{Syntax}
use Rattle.c_front.specs.Parsing.{IsStuck, are_stuck}
use Rattle.c_front.specs.Grammar.{a_program, N, first, Spells, PhraseTrees}
use Rattle.c_front.specs.Reading.{Reads}
use Rattle.c_tree.specs.Tree.{Declaration}
use Rattle.c_front.specs.Syntax.{Begins, IsFirstWrong}
use Rattle.c_front.proofs.Reading.{StuckAt, stuck_at, stuck-within, unique, dead}
use Rattle.c_front.proofs.Completing.{complete, completes}
use Rattle.c_front.proofs.Deriving.{determined, by_next}

pub program-reads : {ts : List Token} {p : List Declaration} → Spells ts p → Reads (N a_program ∷ []) ts [] (p, tt)
program-reads d = determined a_program d (by_next (λ x h. h), tt) refl

-- tokens spell one program at most
pub one-program : {ts : List Token} {p q : List Declaration} → Spells ts p → Spells ts q → p ≡ q
one-program d e = ap (λ (x : PhraseTrees (N a_program ∷ [])). x.0) (unique (program-reads d) (program-reads e)).1

stuck-wrong : (p rest : List Token) → StuckAt (N a_program ∷ []) p (first rest) → length p < length (p ++ rest) → Begins (take (length p + 1) (p ++ rest)) → ⊥
stuck-wrong p [] s h b = let e : length (p ++ []) ≡ length p + 0 = length-append p [] in omega (arith, h, e)
stuck-wrong p (t ∷ rest) s h b =
    let c : Begins (p ++ t ∷ []) = rw (take-append-add p (t ∷ rest) 1) at b in
    dead s (t ∷ c.0) refl (program-reads (rw append_assoc at c.2))

first-wrong-at : {ts : List Token} (p rest : List Token) → ts ≡ p ++ rest → StuckAt (N a_program ∷ []) p (first rest)
    → IsFirstWrong ts (length ts - length rest)
first-wrong-at p rest e s =
    let k : length (p ++ rest) - length rest ≡ length p = simp length-append (omega arith) in
    rw (e, k) (record {
      within = simp length-append (omega arith);
      before = rw (take-append_seam p rest) (elim (complete s) [ completes w {m = m} d ↦ (w, m.0, d) ]);
      wrong = stuck-wrong p rest s;
      none = λ m d. dead s rest refl (program-reads d);
    })

-- where the derivation of a program gets stuck is the first wrong token
pub first-wrong : (ts : List Token) (stop : Bor (List Token)) → IsStuck a_program ts (Syntax stop)
    → (length stop.now ≤ length ts) × IsFirstWrong ts (length ts - length stop.now)
first-wrong ts stop (are_stuck h) = let r = stuck_at (h []) in (stuck-within (h []), first-wrong-at r.0 stop.now r.1 r.2)

-- what begins a program has only beginnings of programs before it
begins-before : (ts : List Token) (i j : ℕ) → i ≤ j → Begins (take j ts) → Begins (take i ts)
begins-before ts i j le b =
    let front : take i (take j ts) ≡ take i ts = take-take i j ts le in
    let parts : take i ts ++ drop i (take j ts) ≡ take j ts = rw (← front) (take-append-drop i (take j ts)) in
    (drop i (take j ts) ++ b.0, b.1, rw (← append_assoc, parts) b.2)

no-later : (ts : List Token) (k j : ℕ) → IsFirstWrong ts k → IsFirstWrong ts j → k < j → ⊥
no-later ts k j p q lt = let within = q.within in p.wrong (omega arith) (begins-before ts (k + 1) j (omega arith) q.before)

-- there is one first wrong token
pub one-wrong : (ts : List Token) (k j : ℕ) → IsFirstWrong ts k → IsFirstWrong ts j → k ≡ j
one-wrong ts k j p q = let a = no-later ts k j p q in let b = no-later ts j k q p in omega arith
