-- Pieces are short, go to pieces that exist, and keep their functions together.
use Rattle.std.proofs.Common.{◌≡◌, ℕ, zero, suc, ◌+◌, ◌<◌, ◌≤◌, List, [], ◌∷◌, length, ⊎_elim, length-append, Some, refl, sym, ap, ◌∙◌, arith}
use Rattle.std.specs.Prelude.{slice_get, slice_index, replicate}
use Rattle.std.proofs.lemmas.List.{length-replicate, get_or-replicate}
use Rattle.std.proofs.lemmas.Option.{same_Some, none-some, slice_get_within, slice_get-get_or}
use Rattle.mblock.specs.Parts.{BlockParts}
use Rattle.mblock.specs.Units.{Continues, AreLinked, AreOwners}
use Rattle.mips_select.specs.Split.{renumbered_exit, more_pieces, pieces, count_of, firsts, first_piece_of, split_at_most, owners_from, total}
use Rattle.mips_select.proofs.Places.{HasAt, has_whole, has_front, has_back, has_pieces, has_get, block_there, length-pieces}
use Rattle.mips_select.proofs.Places.{length-split_from, Located, located, first_next, IsPieceAt, piece_at}

pub get_replicate : {A : Type 0} (n : ℕ) (x : A) (j : ℕ) → j < n → slice_get (replicate n x) j ≡ Some x
get_replicate n x j lt = slice_get-get_or (replicate n x) j x (rw (length-replicate n x) lt) ∙ ap Some (get_or-replicate n j x x lt)

length-owners_from : (most : ℕ) (place : ℕ → ℕ) (bs : List BlockParts) (os : List ℕ) → length os ≡ length bs
    → length (owners_from most place bs os) ≡ total most bs
length-owners_from most place [] os same = refl
length-owners_from most place (b ∷ bs) [] same = absurd (omega (arith, same))
length-owners_from most place (b ∷ bs) (o ∷ os) same =
    let sum = length-append (replicate (count_of most b) (place o)) (owners_from most place bs os) in
    omega (arith, length-owners_from most place bs os (omega (arith, same)), sum, length-replicate (count_of most b) (place o))

-- the owners of the pieces of block n
has_owners : (most : ℕ) (place : ℕ → ℕ) (whole : List ℕ) (k : ℕ) (bs : List BlockParts) (os : List ℕ)
    → HasAt whole k (owners_from most place bs os) → (n o : ℕ) (b : BlockParts) → slice_get bs n ≡ Some b → slice_get os n ≡ Some o
    → HasAt whole (slice_index (firsts most k bs) n) (replicate (count_of most b) (place o))
has_owners most place whole k [] os has n o b there owned = absurd (none-some b there)
has_owners most place whole k (x ∷ bs) [] has n o b there owned = absurd (none-some o owned)
has_owners most place whole k (x ∷ bs) (y ∷ os) has zero o b there owned =
    rw (← same_Some x b there, ← same_Some y o owned) (has_front _ _ has)
has_owners most place whole k (x ∷ bs) (y ∷ os) has (suc n) o b there owned =
    has_owners most place whole (k + count_of most x) bs os
    (has_back (replicate (count_of most x) (place y)) _ has (ap (λ n. k + n) (length-replicate (count_of most x) (place y)))) n o b there owned

first_zero : (most : ℕ) (bs : List BlockParts) → slice_index (firsts most 0 bs) 0 ≡ 0
first_zero most [] = refl
first_zero most (b ∷ bs) = refl

module _ (most : ℕ) (some : 0 < most) (blocks : List BlockParts) where
  abbrev place : ℕ → ℕ
  place n = first_piece_of most blocks n

  abbrev whole : List BlockParts
  whole = split_at_most most blocks

  at_block : (n : ℕ) (b : BlockParts) → slice_get blocks n ≡ Some b
      → HasAt whole (place n) (pieces most (renumbered_exit place b.exit) (more_pieces most b) (place n) b.insts)
  at_block n b there = has_pieces most place whole 0 blocks (has_whole whole) n b there

  -- each piece of a block is there
  piece_there : (n : ℕ) (b : BlockParts) → slice_get blocks n ≡ Some b → (j : ℕ) → j ≤ more_pieces most b → place n + j < length whole
  piece_there n b there j le =
      let long = length-pieces most (renumbered_exit place b.exit) (more_pieces most b) (place n) b.insts in
      let p = block_there (pieces most (renumbered_exit place b.exit) (more_pieces most b) (place n) b.insts) j (omega (arith, le, long)) in
      slice_get_within whole (place n + j) p.0 ((at_block n b there).by j p.0 p.1)

  place_below : (t : ℕ) → t < length blocks → place t < length whole
  place_below t lt = let b = block_there blocks t lt in omega (arith, piece_there t b.0 b.1 0 (omega arith))

  -- piece i of the unit
  pub piece_of : (i : ℕ) (p : BlockParts) → slice_get whole i ≡ Some p → (at : Located most 0 blocks i)
      × IsPieceAt most (renumbered_exit place at.block.exit) (more_pieces most at.block) (place at.number) at.behind p
  piece_of i p there =
      let at = located most 0 blocks i (omega (arith, slice_get_within whole i p there, length-split_from most place 0 blocks)) in
      let exit = renumbered_exit place at.block.exit in
      let is : i ≡ place at.number + at.behind = omega (arith, at.is) in
      let many = length-pieces most exit (more_pieces most at.block) (place at.number) at.block.insts in
      let here = has_get (at_block at.number at.block at.there) at.behind (omega (arith, at.within, many)) (rw is at there) in
      (at, piece_at most exit (more_pieces most at.block) (place at.number) at.block.insts (omega arith) at.behind p here)

  pub pieces_linked : AreLinked blocks → AreLinked whole
  pieces_linked linked = record {
    by = λ i p there. let q = piece_of i p there in ⊎_elim
        (λ last. rw last.1 (grind (arith, place_below, linked.by q.0.number q.0.block q.0.there)))
        (λ other. rw other.1 (omega (arith, piece_there q.0.number q.0.block q.0.there (suc q.0.behind) (omega (arith, other.0))))) q.1.leaves;
  }

  module _ (owner : List ℕ) (owners : AreOwners blocks owner) where
    abbrev owned : List ℕ
    owned = owners_from most place blocks owner

    -- each piece has its block's owner
    piece_owner : (n o : ℕ) (b : BlockParts) → slice_get blocks n ≡ Some b → slice_get owner n ≡ Some o → (j : ℕ) → j ≤ more_pieces most b
        → slice_get owned (place n + j) ≡ Some (place o)
    piece_owner n o b there is j le =
        (has_owners most place owned 0 blocks owner (has_whole owned) n o b there is).by j (place o)
        (get_replicate (count_of most b) (place o) j (omega (arith, le)))

    owner_moved : (t o : ℕ) → slice_get owner t ≡ Some o → slice_get owned (place t) ≡ Some (place o)
    owner_moved t o is =
        let b = block_there blocks t (omega (arith, slice_get_within owner t o is, owners.lengths)) in grind (arith, piece_owner t o b.0 b.1 is 0)

    -- the owner of a piece is that of its block
    owner_at : (i o : ℕ) (at : Located most 0 blocks i) → slice_get owned i ≡ Some o → (w : ℕ) × (slice_get owner at.number ≡ Some w) × (place w ≡ o)
    owner_at i o at is =
        let w = block_there owner at.number (omega (arith, slice_get_within blocks at.number at.block at.there, owners.lengths)) in
        (w.0, w.1, grind (arith, at.is, piece_owner at.number w.0 at.block at.there w.1 at.behind at.within))

    continues_from : (i w n j : ℕ) (b : BlockParts) → slice_get blocks n ≡ Some b → j ≤ more_pieces most b → slice_get owner n ≡ Some w
        → i ≡ place n + j → Continues owned i (place w)
    continues_from zero w zero j b there le is e = ap place (owners.continues 0 w is) ∙ omega (arith, e)
    continues_from zero w (suc m) j b there le is e =
        let a = block_there blocks m (omega (arith, slice_get_within blocks (suc m) b there)) in
        absurd (omega (arith, first_next most 0 blocks m a.0 b a.1 there, e))
    continues_from (suc i) w n (suc j) b there le is e = λ other. grind (arith, piece_owner n w b there is j)
    continues_from (suc i) w zero zero b there le is e = absurd (omega (arith, first_zero most blocks, e))
    continues_from (suc i) w (suc m) zero b there le is e = λ other.
        let a = block_there blocks m (omega (arith, slice_get_within blocks (suc m) b there)) in
        let before = owners.continues (suc m) w is in
        let own = λ (before : slice_get owner m ≡ Some w). piece_owner m w a.0 a.1 before (more_pieces most a.0) (omega arith) in
        grind (arith, before, own, first_next most 0 blocks m a.0 b a.1 there)

    pub pieces_owned : AreOwners whole owned
    pieces_owned = record {
      lengths = length-owners_from most place blocks owner owners.lengths ∙ sym (length-split_from most place 0 blocks);
      continues = λ i o is.
          let long = length-owners_from most place blocks owner owners.lengths in
          let at = located most 0 blocks i (omega (arith, slice_get_within owned i o is, long)) in
          let w = owner_at i o at is in
          rw (← w.2) (continues_from i w.0 at.number at.behind at.block at.there at.within w.1 (omega (arith, at.is)));
      within = λ i o p there is.
          let q = piece_of i p there in
          let w = owner_at i o q.0 is in
          ⊎_elim (λ last. rw (last.1, ← w.2) (grind (arith, owner_moved, owners.within q.0.number w.0 q.0.block q.0.there w.1)))
          (λ other. rw other.1 tt) q.1.leaves;
    }
