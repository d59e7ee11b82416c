-- Where the pieces of each block stand, and to which block each piece belongs.
use Rattle.std.proofs.Common.{⊎_elim, ◌≡◌, ℕ, zero, suc, ◌+◌, ◌-◌, ◌*◌, ◌<◌, ◌≤◌, ◌⊎◌, inl, inr, List, [], ◌∷◌, ◌++◌, length, length-append, Some}
use Rattle.std.proofs.Common.{refl, sym, ap, ◌∙◌, arith, drop}
use Rattle.std.specs.Prelude.{slice_get, slice_index}
use Rattle.std.proofs.lemmas.Bool.{cases_lt}
use Rattle.std.proofs.lemmas.List.{length-take, length-drop}
use Rattle.std.proofs.lemmas.Option.{same_Some, none-some}
use Rattle.mips_isa.specs.declared.inst.Plain.{Plain}
use Rattle.mblock.specs.declared.exit.Exit.{Exit}
use Rattle.mblock.specs.declared.exit.Exit.TheVariants.{Goto}
use Rattle.mblock.specs.Parts.{BlockParts}
use Rattle.mips_select.specs.Split.{renumbered_exit, more_pieces, piece, pieces, count_of, firsts, lasts, split_from, total}
use Rattle.mips_select.proofs.Lists.{get_behind, get_before}
pub use Rattle.mips_homes.proofs.Choosing.{at_index as block_there}

-- a list stands in another from k on
pub record HasAt {A : Type 0} (whole : List A) (k : ℕ) (part : List A) : Type 0 where
  pub by : (i : ℕ) (x : A) → slice_get part i ≡ Some x → slice_get whole (k + i) ≡ Some x

pub has_whole : {A : Type 0} (l : List A) → HasAt l 0 l
has_whole l = record { by = λ i x e. (let zero_i : 0 + i ≡ i = omega arith in ap (slice_get l) zero_i) ∙ e }

pub has_head : {A : Type 0} {whole : List A} {k : ℕ} {x : A} {l : List A} → HasAt whole k (x ∷ l) → slice_get whole k ≡ Some x
has_head {whole} {k} {x} h = (let k_zero : k ≡ k + 0 = omega arith in ap (slice_get whole) k_zero) ∙ h.by 0 x refl

pub has_tail : {A : Type 0} {whole : List A} {k : ℕ} {x : A} {l : List A} → HasAt whole k (x ∷ l) → HasAt whole (suc k) l
has_tail {whole} {k} h = record { by = λ i y e. (let next : suc k + i ≡ k + suc i = omega arith in ap (slice_get whole) next) ∙ h.by (suc i) y e }

pub has_front : {A : Type 0} {whole : List A} {k : ℕ} (a b : List A) → HasAt whole k (a ++ b) → HasAt whole k a
has_front a b h = record { by = λ i x e. h.by i x (get_before a b i x e) }

pub has_back : {A : Type 0} {whole : List A} {k m : ℕ} (a b : List A) → HasAt whole k (a ++ b) → k + length a ≡ m → HasAt whole m b
has_back a b h is = record { by = λ i x e. grind (arith, h.by (length a + i) x (get_behind a b i ∙ e)) }

pub has_get : {A : Type 0} {whole : List A} {k : ℕ} {part : List A} → HasAt whole k part → (j : ℕ) {x : A} → j < length part
    → slice_get whole (k + j) ≡ Some x → slice_get part j ≡ Some x
has_get {part} h j lt e = let p = block_there part j lt in p.1 ∙ sym (h.by j p.0 p.1) ∙ e

pub length-pieces : (most : ℕ) (exit : Exit) (more k : ℕ) (insts : List Plain) → length (pieces most exit more k insts) ≡ suc more
length-pieces most exit zero k insts = refl
length-pieces most exit (suc more) k insts = ap suc (length-pieces most exit more (suc k) (drop most insts))

-- the pieces of block n
pub has_pieces : (most : ℕ) (place : ℕ → ℕ) (whole : List BlockParts) (k : ℕ) (bs : List BlockParts)
    → HasAt whole k (split_from most place k bs) → (n : ℕ) (b : BlockParts) → slice_get bs n ≡ Some b
    → HasAt whole (slice_index (firsts most k bs) n)
    (pieces most (renumbered_exit place b.exit) (more_pieces most b) (slice_index (firsts most k bs) n) b.insts)
has_pieces most place whole k [] has n b there = absurd (none-some b there)
has_pieces most place whole k (x ∷ bs) has zero b there = rw (← same_Some x b there) (has_front _ _ has)
has_pieces most place whole k (x ∷ bs) has (suc n) b there =
    has_pieces most place whole (k + count_of most x) bs (has_back _ _ has (ap (λ n. k + n) (length-pieces most _ _ k _))) n b there

-- the last piece of block n
pub last_piece : (most k : ℕ) (bs : List BlockParts) (n : ℕ) (b : BlockParts) → slice_get bs n ≡ Some b
    → slice_index (firsts most k bs) n + more_pieces most b ≡ slice_index (lasts most k bs) n
last_piece most k [] n b there = absurd (none-some b there)
last_piece most k (x ∷ bs) zero b there = ap (λ (b : BlockParts). k + more_pieces most b) (sym (same_Some x b there))
last_piece most k (x ∷ bs) (suc n) b there = last_piece most (k + count_of most x) bs n b there

-- the last of several pieces has the exit
pub last_there : (most : ℕ) (exit : Exit) (whole : List BlockParts) (more k : ℕ) (insts : List Plain)
    → HasAt whole k (pieces most exit more k insts) → (p : BlockParts) × (slice_get whole (k + more) ≡ Some p) × (p.exit ≡ exit)
last_there most exit whole zero k insts has = (piece insts exit, has.by 0 (piece insts exit) refl, refl)
last_there most exit whole (suc more) k insts has =
    let rest = last_there most exit whole more (suc k) (drop most insts) (has_tail has) in (rest.0, grind arith, rest.2)

last_above : (most k : ℕ) (bs : List BlockParts) (n : ℕ) → n < length bs → k ≤ slice_index (lasts most k bs) n
last_above most k [] n lt = absurd (omega (arith, lt))
last_above most k (b ∷ bs) zero lt = omega arith
last_above most k (b ∷ bs) (suc n) lt = omega (arith, last_above most (k + count_of most b) bs n (omega (arith, lt)))

-- two blocks have two last pieces
pub last_apart : (most k : ℕ) (bs : List BlockParts) (m n : ℕ) → m < length bs → n < length bs
    → slice_index (lasts most k bs) m ≡ slice_index (lasts most k bs) n → m ≡ n
last_apart most k [] m n m_lt n_lt same = absurd (omega (arith, m_lt))
last_apart most k (b ∷ bs) zero zero m_lt n_lt same = refl
last_apart most k (b ∷ bs) zero (suc n) m_lt n_lt same = absurd (omega (arith, last_above most (k + count_of most b) bs n))
last_apart most k (b ∷ bs) (suc m) zero m_lt n_lt same = absurd (omega (arith, last_above most (k + count_of most b) bs m))
last_apart most k (b ∷ bs) (suc m) (suc n) m_lt n_lt same =
    ap suc (last_apart most (k + count_of most b) bs m n (omega (arith, m_lt)) (omega (arith, n_lt)) same)

-- as many as the count says
pub length-split_from : (most : ℕ) (place : ℕ → ℕ) (k : ℕ) (bs : List BlockParts) → length (split_from most place k bs) ≡ total most bs
length-split_from most place k [] = refl
length-split_from most place k (b ∷ bs) =
    omega (arith, length-pieces, length-split_from most place (k + count_of most b) bs, length-append {A = BlockParts})

-- there is a piece for each block
pub total_above : (most : ℕ) (bs : List BlockParts) → length bs ≤ total most bs
total_above most [] = omega arith
total_above most (b ∷ bs) = omega (arith, total_above most bs)

-- piece i, from k on, is number `behind` of block n
pub record Located (most k : ℕ) (bs : List BlockParts) (i : ℕ) : Type 0 where
  pub number : ℕ
  pub behind : ℕ
  pub block : BlockParts
  pub there : slice_get bs number ≡ Some block
  pub within : behind ≤ more_pieces most block
  pub is : k + i ≡ slice_index (firsts most k bs) number + behind

-- a number is below another, or so far behind it
pub apart_from : (c i : ℕ) → (i < c) ⊎ ((d : ℕ) × (i ≡ c + d))
apart_from c i = ⊎_elim inl (λ le. inr (i - c, omega (arith, le))) (cases_lt i c)

pub located : (most k : ℕ) (bs : List BlockParts) (i : ℕ) → i < total most bs → Located most k bs i
located most k [] i lt = absurd (omega (arith, lt))
located most k (b ∷ bs) i lt = ⊎_elim
    (λ few. record { number = 0; behind = i; block = b; there = refl; within = omega (arith, few); is = refl })
    (λ e. let l = located most (k + count_of most b) bs e.0 (omega (arith, lt, e.1)) in let is = l.is in
    record { number = suc l.number; behind = l.behind; block = l.block; there = l.there; within = l.within; is = omega (arith, is, e.1) })
    (apart_from (count_of most b) i)

-- a block's first piece comes behind the last piece of the block before it
pub first_next : (most k : ℕ) (bs : List BlockParts) (n : ℕ) (a b : BlockParts) → slice_get bs n ≡ Some a → slice_get bs (suc n) ≡ Some b
    → slice_index (firsts most k bs) (suc n) ≡ suc (slice_index (firsts most k bs) n + more_pieces most a)
first_next most k [] n a b a_there b_there = absurd (none-some a a_there)
first_next most k (x ∷ []) zero a b a_there b_there = absurd (none-some b b_there)
first_next most k (x ∷ y ∷ bs) zero a b a_there b_there = grind arith
first_next most k (x ∷ bs) (suc n) a b a_there b_there = first_next most (k + count_of most x) bs n a b a_there b_there

-- a piece is short. The last one has the block's exit, each other one goes to the next
pub record IsPieceAt (most : ℕ) (exit : Exit) (more k j : ℕ) (b : BlockParts) : Type 0 where
  pub short : length b.insts ≤ most
  pub leaves : ((j ≡ more) × (b.exit ≡ exit)) ⊎ ((j < more) × (b.exit ≡ Goto (suc (k + j))))

pub piece_at : (most : ℕ) (exit : Exit) (more k : ℕ) (insts : List Plain) → length insts ≤ most * more + most → (j : ℕ) (b : BlockParts)
    → slice_get (pieces most exit more k insts) j ≡ Some b → IsPieceAt most exit more k j b
piece_at most exit zero k insts few zero b there = rw (← same_Some _ b there) (record { short = omega (arith, few); leaves = inl (refl, refl) })
piece_at most exit zero k insts few (suc j) b there = absurd (none-some b there)
piece_at most exit (suc more) k insts few zero b there = grind (arith, length-take most insts)
piece_at most exit (suc more) k insts few (suc j) b there =
    let cut = length-drop most insts in
    grind (arith, piece_at most exit more (suc k) (drop most insts) (omega (arith, cut, few)) j b there)
