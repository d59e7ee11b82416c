-- Functions one behind another are linked and owned.
use Rattle.std.proofs.Common.{⊎_elim, ◌≡◌, ℕ, ◌+◌, ◌-◌, ◌<◌, ◌≤◌, List, [], ◌∷◌, length, length-append, Some, refl, sym, ap, ◌∙◌, arith}
use Rattle.std.specs.Prelude.{slice_get, replicate}
use Rattle.std.proofs.lemmas.List.{length-replicate}
use Rattle.std.proofs.lemmas.Option.{same_Some, slice_get_within}
use Rattle.mblock.specs.Parts.{BlockParts}
use Rattle.mblock.specs.Units.{AreLinked, AreOwners}
use Rattle.mips_select.specs.Functions.{blocks_of, owners_of, IsFrom, GoesWithin, IsFunctionAt, AreFunctions}
use Rattle.mips_select.proofs.Places.{HasAt, has_whole, has_front, has_back, has_get, apart_from}
use Rattle.mips_select.proofs.Well.{get_replicate}

length-owners_of : (k : ℕ) (fs : List (List BlockParts)) → length (owners_of k fs) ≡ length (blocks_of fs)
length-owners_of k [] = refl
length-owners_of k (f ∷ fs) =
    omega (arith, length-owners_of (k + length f) fs, length-replicate (length f) k, length-append {A = ℕ}, length-append f (blocks_of fs))

module _ (fs : List (List BlockParts)) (are : AreFunctions (length (blocks_of fs)) 0 fs) where
  abbrev blocks : List BlockParts
  blocks = blocks_of fs

  abbrev owner : List ℕ
  owner = owners_of 0 fs

  abbrev bound : ℕ
  bound = length (blocks_of fs)

  -- block i is in the function that begins at `start`
  record InFunction (i : ℕ) : Type 0 where
    start : ℕ
    behind : ℕ
    code : List BlockParts
    is : i ≡ start + behind
    within : behind < length code
    fits : start + length code ≤ bound
    function : IsFunctionAt bound start code
    blocks_at : HasAt blocks start code
    owned : HasAt owner start (replicate (length code) start)

  in_function : (k : ℕ) (gs : List (List BlockParts)) → k + length (blocks_of gs) ≤ bound → AreFunctions bound k gs
      → HasAt blocks k (blocks_of gs) → HasAt owner k (owners_of k gs) → (i t : ℕ) → t ≡ k + i → i < length (blocks_of gs) → InFunction t
  in_function k [] fits are has owned i t is lt = absurd (omega (arith, lt))
  in_function k (f ∷ gs) fits are has owned i t is lt =
      let sum = length-append f (blocks_of gs) in ⊎_elim
      (λ here. record {
        start = k;
        behind = i;
        code = f;
        is = is;
        within = here;
        fits = omega (arith, fits, sum);
        function = are.0;
        blocks_at = has_front _ _ has;
        owned = has_front _ _ owned;
      })
      (λ (e : (d : ℕ) × (i ≡ length f + d)). in_function (k + length f) gs (omega (arith, fits, sum)) are.1 (has_back _ _ has refl)
      (has_back _ _ owned (ap (λ n. k + n) (length-replicate (length f) k))) e.0 t (omega (arith, is, e.1)) (omega (arith, lt, e.1, sum)))
      (apart_from (length f) i)

  owned_from : (n : ℕ) {start : ℕ} → HasAt owner start (replicate n start) → (t : ℕ) → IsFrom start n t → slice_get owner t ≡ Some start
  owned_from n {start} owned t at =
      grind (arith, owned.by (t - start) start (get_replicate n start (t - start) (omega (arith, at))))

  -- the exit of a block keeps to its function
  exit_within : (i : ℕ) (b : BlockParts) (at : InFunction i) → slice_get blocks i ≡ Some b → GoesWithin bound at.start (length at.code) b.exit
  exit_within i b at there = at.function.by at.behind b (has_get at.blocks_at at.behind at.within (rw at.is at there))

  same_owner : (i o : ℕ) (at : InFunction i) → slice_get owner i ≡ Some o → at.start ≡ o
  same_owner i o at here = same_Some at.start o (sym (owned_from (length at.code) at.owned i (omega (arith, at.is, at.within))) ∙ here)

  place : (i : ℕ) → i < length (blocks_of fs) → InFunction i
  place i lt = in_function 0 fs (omega arith) are (has_whole blocks) (has_whole owner) i i (omega arith) lt

  pub functions_owned : AreLinked (blocks_of fs) × AreOwners (blocks_of fs) (owners_of 0 fs)
  functions_owned = (
    record {
      by = λ i b there. let at = place i (slice_get_within blocks i b there) in grind (arith, at.fits, exit_within i b at there);
    },
    record {
      lengths = length-owners_of 0 fs;
      continues = λ i o here. let at = place i (omega (arith, slice_get_within owner i o here, length-owners_of 0 fs)) in
          grind (arith, same_owner i o at here, owned_from (length at.code) at.owned);
      within = λ i o b there here. let at = place i (slice_get_within blocks i b there) in
          rw (← same_owner i o at here) (grind (arith, owned_from (length at.code) at.owned, exit_within i b at there));
    },
  )
