-- Counts of occurrences, one after another.
use Rattle.std.proofs.Common.{◌≡◌, ℕ, suc, ◌+◌, ◌<◌, ◌≤◌, List, [], ◌∷◌, ◌++◌, refl, sym, ap, ◌∙◌, arith, length, drop, get_or, nat_lt}
use Rattle.std.specs.Prelude.{if◌then◌else◌}
use Rattle.std.proofs.lemmas.List.{append_assoc, drop_all, at_drop_more}
use Rattle.rtl.specs.Names.{occurrences, bound, exit_names, insts_names, blocks_names}
use Rattle.mips_homes.specs.Counts.{Adds}
use Rattle.rtl.specs.declared.block.RBlock.{RBlock}

bound_append : (n : ℕ) (xs ys : List ℕ) → bound n (xs ++ ys) ≡ bound (bound n xs) ys
bound_append n [] ys = refl
bound_append n (x ∷ xs) ys = bound_append (if nat_lt x n then n else suc x) xs ys

occurrences_append : (xs ys : List ℕ) (x : ℕ) → occurrences (xs ++ ys) x ≡ occurrences xs x + occurrences ys x
occurrences_append [] ys x = omega arith
occurrences_append (z ∷ xs) ys x = omega (arith, occurrences_append xs ys x)

adds_none : (us : List ℕ) → Adds us us []
adds_none us = record { long = refl; room = λ le. le; by = λ x. omega arith }

pub adds_then : {us vs ws xs ys : List ℕ} → Adds us vs xs → Adds vs ws ys → Adds us ws (xs ++ ys)
adds_then {us} {xs = xs} {ys} a b = record {
  long = b.long ∙ ap (λ n. bound n ys) a.long ∙ sym (bound_append (length us) xs ys);
  room = λ le. b.room (a.room le);
  by = λ x. omega (arith, a.by x, b.by x, occurrences_append xs ys x);
}

-- a step of a loop that counts the names of each item, and its end
pub counts_step : {X : Type 0} (names : List X → List ℕ) (name : X → List ℕ) → ((x : X) (xs : List X) → names (x ∷ xs) ≡ name x ++ names xs)
    → (xs : List X) (i : ℕ) (x d : X) (start us vs : List ℕ) → i < length xs → x ≡ get_or xs i d → Adds us vs (name x)
    → ((ys : List ℕ) → Adds us ys (names (drop i xs)) → Adds start ys (names xs)) → (ys : List ℕ) → Adds vs ys (names (drop (i + 1) xs))
    → Adds start ys (names xs)
counts_step names name split xs i x d start us vs lt is one before ys rest =
    let here : drop i xs ≡ x ∷ drop (i + 1) xs = cc (at_drop_more (λ l. l) xs i d lt) in
    before ys (rw (here, split x (drop (i + 1) xs)) (adds_then one rest))

pub counts_end : {X : Type 0} (names : List X → List ℕ) → names [] ≡ [] → (xs : List X) (i : ℕ) (start us : List ℕ) → length xs ≤ i
    → ((ys : List ℕ) → Adds us ys (names (drop i xs)) → Adds start ys (names xs)) → Adds start us (names xs)
counts_end names none xs i start us le before = before us (rw (drop_all i xs le, none) (adds_none us))

pub blocks_split : (b : RBlock) (bs : List RBlock) → blocks_names (b ∷ bs) ≡ (insts_names b.insts.items ++ exit_names b.exit) ++ blocks_names bs
blocks_split b bs = sym (append_assoc (insts_names b.insts.items) (exit_names b.exit) (blocks_names bs))
