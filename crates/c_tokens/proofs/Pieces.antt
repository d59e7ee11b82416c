-- What the code finds at the front of a text is its longest piece.
use Rattle.std.proofs.Common.{◌≡◌, ◌<◌, ◌≤◌, ℕ, suc, zero, List, [], ◌∷◌, length, drop, take, Bool, true, false, Option, Some, None, refl, sym}
use Rattle.std.proofs.Common.{◌∙◌, arith, if◌then◌else◌, ◌⊎◌, inl, inr, codes}
use Rattle.std.proofs.Math.Bool.{and-false}
use Rattle.std.proofs.lemmas.List.{length-take-le}
use Rattle.std.proofs.Math.Seq.{take-length}
use Rattle.c_tokens.specs.declared.token.Mark.{Mark}
use Rattle.c_tokens.specs.declared.lexer.Lexeme.{Lexeme}
use Rattle.c_tokens.specs.declared.lexer.Lexeme.TheVariants.{Separator}
use Rattle.c_tokens.specs.Lexing.{is_space, is_letter, is_digit, is_exponent, is_front, signs, keywords, entry_in, word_lexeme, comment_length}
use Rattle.c_tokens.specs.Digits.{constant_lexeme}
use Rattle.c_tokens.specs.Fronts.{word_length, run_length, line_length, spelled_or, sign_of, sign_lexeme, ended_lexeme, comment_lexeme, lexeme_of}
use Rattle.c_tokens.specs.Pieces.{IsWord, IsRun, run_more, IsLine, IsOpen, open_end, line_end, IsPiece, a_space}
use Rattle.c_tokens.specs.Pieces.{a_word, a_constant, no_constant, an_operator, an_unused_operator, a_line, a_comment, an_open_comment, a_stray_byte}
use Rattle.c_tokens.specs.Pieces.{IsLongest, IsNext, at_end, at_piece}
use Rattle.c_tokens.proofs.Numbers.{is_constant, is_none, known, constant-of}
use Rattle.c_tokens.proofs.Finding.{letter-no-space, digit-no-space, digit-no-letter, digit-goes, Plain, operator-begins, Longest, all-found, none-found, one-found, whole}
use Rattle.c_tokens.proofs.Finding.{word-found, run-found, line-found, front-pair, front-not-taken, Commented, Closes, closes, closed-length, open-length}

-- what the bytes after the first one of a piece are
abbrev Spelled : ℕ → List ℕ → Type 0
Spelled b xs = (xs ≡ []) ⊎ ((m : Option Mark) × (entry_in signs (b ∷ xs) ≡ Some m))

abbrev Either : Bool → Type 0 → Type 0 → Type 0
Either true A B = A
Either false A B = B

abbrev Rest : ℕ → List ℕ → Type 0
Rest b xs = Either (is_space b) (xs ≡ []) (Either (is_letter b) (IsWord xs) (Either (is_digit b) (IsRun (is_exponent b) xs)
    (Either (is_front (codes "/*") (b ∷ xs)) (Commented (drop 1 xs)) (Either (is_front (codes "//") (b ∷ xs)) (IsLine (drop 1 xs)) (Spelled b xs)))))

operator-rest : (b : ℕ) (xs : List ℕ) (m : Option Mark) → entry_in signs (b ∷ xs) ≡ Some m → Rest b xs
operator-rest b xs m o = let q = operator-begins b xs m o in rw (q.space, q.letter, q.digit, q.comment, q.line) (inr (m, o))

rest : (b : ℕ) {xs : List ℕ} {k : Lexeme} → IsPiece (b ∷ xs) k → Rest b xs
rest b (a_space h) = rw h refl
rest b (a_word h w) = rw (letter-no-space b h, h) w
rest b (a_constant h (run_more g r) c) = rw (digit-no-space b h, digit-no-letter b h, h) r
rest b (no_constant h (run_more g r) n) = rw (digit-no-space b h, digit-no-letter b h, h) r
rest b {xs} (an_operator {m = m} o) = operator-rest b xs (Some m) o
rest b {xs} (an_unused_operator o) = operator-rest b xs None o
rest b (a_line l) = l
rest b (a_comment l) = inl l
rest b (an_open_comment l) = inr l
rest b (a_stray_byte s l d n) = rw (s, l, d, and-false) (inl refl)

-- each piece is what the code finds in it
twice : (o : Option (Mark × ℕ)) (n : ℕ) (x : Option (Option Mark)) → spelled_or (spelled_or o n x) n x ≡ spelled_or o n x
twice o n None = refl
twice o n (Some None) = refl
twice o n (Some (Some m)) = refl

spelled-is : (o : List ℕ) (x : Option Mark) → entry_in signs o ≡ Some x → lexeme_of o ≡ sign_lexeme (spelled_or None (length o) (Some x))
spelled-is [] x h = cc
spelled-is (b ∷ bs) x h = let q = operator-begins b bs x h in rw (q.space, q.letter, q.digit, q.comment, q.line, alone bs h)
  where
    alone : (bs : List ℕ) → entry_in signs (b ∷ bs) ≡ Some x → sign_of (b ∷ bs) ≡ spelled_or None (length (b ∷ bs)) (Some x)
    alone [] h = rw h
    alone (c ∷ []) h = rw h
    alone (c ∷ d ∷ []) h = rw h
    alone (c ∷ d ∷ e ∷ es) h = cc

number-is : (b : ℕ) (bs : List ℕ) → is_digit b ≡ true → IsRun false (b ∷ bs) → lexeme_of (b ∷ bs) ≡ constant_lexeme (b ∷ bs)
number-is b bs h (run_more g w) = rw (digit-no-space b h, digit-no-letter b h, h, whole (run-found (is_exponent b) bs) w, take-length bs)

piece-means : {xs : List ℕ} {k : Lexeme} → IsPiece xs k → k ≡ lexeme_of xs
piece-means (a_space h) = rw h
piece-means (a_word {b = b} {bs = bs} h w) = rw (letter-no-space b h, h, whole (word-found bs) w, take-length bs)
piece-means (a_constant {b = b} {bs = bs} h r c) = sym (number-is b bs h r ∙ constant-of c)
piece-means (no_constant {b = b} {bs = bs} h r n) =
    sym (number-is b bs h r ∙ elim (known b bs) [ is_constant c e k ↦ absurd (n c k) | is_none e ↦ e ])
piece-means (an_operator {o = o} {m = m} h) = sym (spelled-is o (Some m) h)
piece-means (an_unused_operator {o = o} h) = sym (spelled-is o None h)
piece-means (a_line {bs = bs} h) = rw (whole (line-found bs) h, take-length bs)
piece-means (a_comment {bs = bs} h) = rw (closed-length h, take-length bs)
piece-means (an_open_comment {bs = bs} h) = rw (open-length h)
piece-means (a_stray_byte s l d n) = rw (s, l, d, and-false, n)

-- and the longest one is found
abbrev Piece : List ℕ → Type 0
Piece xs = (k : Lexeme) × IsPiece xs k

next-of : {bs : List ℕ} {n : ℕ} {k : Lexeme} → Longest (λ xs. IsPiece xs k) Piece bs n → IsNext bs k
next-of l = at_piece (record { within = l.within; piece = l.taken; longest = λ m k i j p. l.longest m i j (k, p) })

space-next : (b : ℕ) (bs : List ℕ) → is_space b ≡ true → IsNext (b ∷ bs) (Separator 1)
space-next b bs h = next-of (one-found {Q = λ xs. xs ≡ []} (none bs) (a_space h) (λ m p. rw h at (rest b p.1)))
  where
    none : (bs : List ℕ) → Longest (λ xs. xs ≡ []) (λ xs. xs ≡ []) bs 0
    none [] = all-found refl
    none (c ∷ cs) = none-found refl (λ xs e. cc)

word-next : (b : ℕ) (bs : List ℕ) → is_letter b ≡ true → IsNext (b ∷ bs) (word_lexeme (entry_in keywords (take (word_length (b ∷ bs)) (b ∷ bs))) (word_length (b ∷ bs)))
word-next b bs h =
    let l = word-found bs in
    rw h (next-of (one-found l (rw (length-take-le (word_length bs) bs l.within) at (a_word {b = b} h l.taken)) (λ m p. rw (letter-no-space b h, h) at (rest b p.1))))

number-piece : (b : ℕ) (bs : List ℕ) → is_digit b ≡ true → IsRun false (b ∷ bs) → IsPiece (b ∷ bs) (constant_lexeme (b ∷ bs))
number-piece b bs h r = elim (known b bs) [
  | is_constant c e k ↦ rw e (a_constant h r k)
  | is_none e ↦ rw e (no_constant h r (λ c k. let f = sym (constant-of k) ∙ e in cc))
]

number-next : (b : ℕ) (bs : List ℕ) → is_digit b ≡ true → IsNext (b ∷ bs) (constant_lexeme (take (run_length false (b ∷ bs)) (b ∷ bs)))
number-next b bs h =
    let l = run-found (is_exponent b) bs in
    let g = digit-goes b h in
    rw g (next-of (one-found l (number-piece b (take (run_length (is_exponent b) bs) bs) h (run_more g l.taken))
    (λ m p. rw (digit-no-space b h, digit-no-letter b h, h) at (rest b p.1))))

-- a comment, which has two bytes before these
next-behind : {T P : List ℕ → Type 0} {b c n : ℕ} {cs : List ℕ} {k : Lexeme} → P [] → Longest T P cs n → IsPiece (b ∷ c ∷ take n cs) k
    → ((xs : List ℕ) (l : Lexeme) → IsPiece (b ∷ c ∷ xs) l → P xs) → IsNext (b ∷ c ∷ cs) k
next-behind {P = P} {b = b} {c = c} {cs = cs} {k = k} z l p f =
    next-of (one-found (one-found {T = λ xs. IsPiece (b ∷ xs) k} {P = λ xs. P (drop 1 xs)} l p (λ m q. q)) p go)
  where
    go : (m : ℕ) → Piece (b ∷ take m (c ∷ cs)) → P (drop 1 (take m (c ∷ cs)))
    go zero q = z
    go (suc m) q = f (take m cs) q.0 q.1

comment-next : (cs : List ℕ) (r : Option ℕ) → Closes cs r → IsNext (47 ∷ 42 ∷ cs) (comment_lexeme r cs)
comment-next cs None o = next-behind (inr open_end) (all-found {T = IsOpen} {P = Commented} o) (rw take-length (an_open_comment o)) (λ xs l p. rest 47 p)
comment-next cs (Some n) c =
    next-behind (inr open_end) c (rw (length-take-le n cs c.within) at (a_comment c.taken)) (λ xs l p. rest 47 p)

line-next : (cs : List ℕ) → IsNext (47 ∷ 47 ∷ cs) (ended_lexeme (line_length cs) cs)
line-next cs =
    let l = line-found cs in
    next-behind line_end l (rw (length-take-le (line_length cs) cs l.within) at (a_line l.taken)) (λ xs l p. rest 47 p)

-- operators, of which none has more than three bytes
sign-piece : (o : List ℕ) (x : Option Mark) → entry_in signs o ≡ Some x → IsPiece o (sign_lexeme (spelled_or None (length o) (Some x)))
sign-piece o None h = an_unused_operator h
sign-piece o (Some m) h = an_operator h

module _ (b : ℕ) where
  byte-piece : {bs : List ℕ} → Plain b bs → (x : Option (Option Mark)) → entry_in signs (b ∷ []) ≡ x → IsPiece (b ∷ []) (sign_lexeme (spelled_or None 1 x))
  byte-piece q None h = a_stray_byte q.space q.letter q.digit h
  byte-piece q (Some x) h = sign-piece (b ∷ []) x h

  -- no spelling of this length stands at the front
  abbrev NoSpelling : List ℕ → ℕ → Type 0
  NoSpelling bs m = entry_in signs (b ∷ take m bs) ≡ None

  sign-after : (bs : List ℕ) (n : ℕ) {k : Lexeme} → Plain b bs → n ≤ length bs → IsPiece (b ∷ take n bs) k → (n < 1 → 1 ≤ length bs → NoSpelling bs 1)
      → (n < 2 → 2 ≤ length bs → NoSpelling bs 2) → IsNext (b ∷ bs) k
  sign-after bs n q h p f g = next-of (one-found {S = λ xs. Unit {0}} {Q = Spelled b} (record { within = h; taken = tt; longest = λ m i j r. go bs m f g i j r }) p (λ m p.
      rw (q.space, q.letter, q.digit, front-not-taken (codes "/*") (b ∷ bs) (suc m) q.comment, front-not-taken (codes "//") (b ∷ bs) (suc m) q.line) at (rest b p.1)))
    where
      go : (bs : List ℕ) (m : ℕ) → (n < 1 → 1 ≤ length bs → NoSpelling bs 1) → (n < 2 → 2 ≤ length bs → NoSpelling bs 2) → n < m → m ≤ length bs → Spelled b (take m bs) → ⊥
      go bs zero f g i j r = omega (arith, i)
      go [] (suc m) f g i j r = omega (arith, j)
      go (c ∷ cs) (suc m) f g i j (inl e) = cc
      go (c ∷ cs) (suc zero) f g i j (inr r) = let e = f i j in let e' = r.1 in cc
      go (c ∷ cs) (suc (suc zero)) f g i j (inr r) = let e = g i j in let e' = r.1 in cc
      go (c ∷ []) (suc (suc (suc m))) f g i j r = omega (arith, j)
      go (c ∷ d ∷ []) (suc (suc (suc m))) f g i j r = omega (arith, j)
      go (c ∷ d ∷ e ∷ es) (suc (suc (suc m))) f g i j (inr r) = let e' = r.1 in cc

  pair-next : (c : ℕ) (cs : List ℕ) → Plain b (c ∷ cs) → (y : Option (Option Mark)) → entry_in signs (b ∷ c ∷ []) ≡ y
      → (2 ≤ length (c ∷ cs) → NoSpelling (c ∷ cs) 2) → IsNext (b ∷ c ∷ cs) (sign_lexeme (spelled_or (spelled_or None 1 (entry_in signs (b ∷ []))) 2 y))
  pair-next c cs q None e f = sign-after (c ∷ cs) 0 q (omega arith) (byte-piece q _ refl) (λ i j. e) (λ i j. f j)
  pair-next c cs q (Some y) e f = sign-after (c ∷ cs) 1 q (omega arith) (sign-piece (b ∷ c ∷ []) y e) (λ i j. absurd (omega (arith, i))) (λ i j. f j)

  sign-next : (bs : List ℕ) → Plain b bs → IsNext (b ∷ bs) (sign_lexeme (sign_of (b ∷ bs)))
  sign-next [] q = rw (twice, twice)
      (sign-after [] 0 q (omega arith) (byte-piece q _ refl) (λ i j. absurd (omega (arith, j))) (λ i j. absurd (omega (arith, j))))
  sign-next (c ∷ []) q = rw twice (pair-next c [] q _ refl (λ j. absurd (omega (arith, j))))
  sign-next (c ∷ d ∷ ds) q = go (entry_in signs (b ∷ c ∷ d ∷ [])) refl
    where
      go : (z : Option (Option Mark)) → entry_in signs (b ∷ c ∷ d ∷ []) ≡ z → IsNext (b ∷ c ∷ d ∷ ds)
          (sign_lexeme (spelled_or (spelled_or (spelled_or None 1 (entry_in signs (b ∷ []))) 2 (entry_in signs (b ∷ c ∷ []))) 3 z))
      go None f = pair-next c (d ∷ ds) q _ refl (λ j. f)
      go (Some z) f = sign-after (c ∷ d ∷ ds) 2 q (omega arith) (sign-piece (b ∷ c ∷ d ∷ []) z f) (λ i j. absurd (omega (arith, i))) (λ i j. absurd (omega (arith, i)))

-- what the code finds is what stands at the front
pub found : (text : List ℕ) → IsNext text (lexeme_of text)
found [] = at_end
found (b ∷ bs) = by (is_space b) (is_letter b) (is_digit b) (is_front (codes "/*") (b ∷ bs)) (is_front (codes "//") (b ∷ bs)) refl refl refl refl refl
  where
    by : (s l d u v : Bool) → is_space b ≡ s → is_letter b ≡ l → is_digit b ≡ d → is_front (codes "/*") (b ∷ bs) ≡ u → is_front (codes "//") (b ∷ bs) ≡ v →
        IsNext (b ∷ bs) (if s then Separator 1 else (if l then word_lexeme (entry_in keywords (take (word_length (b ∷ bs)) (b ∷ bs))) (word_length (b ∷ bs))
        else (if d then constant_lexeme (take (run_length false (b ∷ bs)) (b ∷ bs))
        else (if u then comment_lexeme (comment_length (drop 1 bs)) (drop 1 bs)
        else (if v then ended_lexeme (line_length (drop 1 bs)) (drop 1 bs) else sign_lexeme (sign_of (b ∷ bs)))))))
    by true l d u v e f g h i = space-next b bs e
    by false true d u v e f g h i = word-next b bs f
    by false false true u v e f g h i = number-next b bs g
    by false false false true v e f g h i = front-pair (λ x. IsNext x (comment_lexeme (comment_length (drop 2 x)) (drop 2 x))) 47 42 (b ∷ bs) h
        (λ cs. comment-next cs (comment_length cs) (closes cs))
    by false false false false true e f g h i = front-pair (λ x. IsNext x (ended_lexeme (line_length (drop 2 x)) (drop 2 x))) 47 47 (b ∷ bs) i line-next
    by false false false false false e f g h i = sign-next b bs (record { space = e; letter = f; digit = g; comment = h; line = i })

-- what stands at the front is one thing
longest-once : {bs : List ℕ} {n m : ℕ} {k l : Lexeme} → IsLongest bs n k → IsLongest bs m l → n ≡ m
longest-once {n = n} {m = m} {k = k} {l = l} p q =
    let a : n < m → ⊥ = λ h. p.longest m l h q.within q.piece in
    let b : m < n → ⊥ = λ h. q.longest n k h p.within p.piece in
    omega (arith, a, b)

no-empty : {k : Lexeme} → IsPiece [] k → ⊥
no-empty (an_operator o) = cc
no-empty (an_unused_operator o) = cc

nothing-next : {k : Lexeme} → IsNext [] k → k ≡ lexeme_of []
nothing-next at_end = refl
nothing-next (at_piece {n = n} p) = let e : n ≡ 0 = omega (arith, p.within) in absurd (no-empty (rw e at p.piece))

pub next-once : (bs : List ℕ) (k l : Lexeme) → IsNext bs k → IsNext bs l → k ≡ l
next-once [] k l p q = nothing-next p ∙ sym (nothing-next q)
next-once (b ∷ bs) k l (at_piece {n = n} p) (at_piece {n = m} q) = piece-means p.piece ∙ rw (longest-once p q) (sym (piece-means q.piece))
