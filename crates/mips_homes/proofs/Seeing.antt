-- What a walk over blocks sees, one instruction after another.
use Rattle.std.proofs.Common.{◌≡◌, ℕ, ◌+◌, ◌<◌, ◌≤◌, ◌&&◌, List, [], ◌∷◌, ◌++◌, sym, ap, ◌∙◌, arith, length, drop, get_or}
use Rattle.std.specs.Prelude.{◌||◌, not, nat_eq}
use Rattle.std.specs.List.{list_any}
use Rattle.std.proofs.lemmas.List.{drop_all, at_drop_more}
use Rattle.std.proofs.lemmas.List.Folds.{list_any-append}
use Rattle.rtl.specs.declared.instruction.RInst.{RInst}
use Rattle.rtl.specs.declared.block.RBlock.{RBlock}
use Rattle.mips_homes.specs.HomedRun.{is_in}
use Rattle.mips_homes.specs.Locals.{inst_reads, inst_writes, exit_reads, reads_first, block_reads_first, is_local}
use Rattle.mips_homes.specs.Walks.{sight_at, is_read_first, is_unwritten, IsUpTo, Sees}
use Rattle.mips_homes.specs.declared.locals.Sight.{Sight}

-- ---- instructions

pub sees_none : (k : ℕ) (s : List Sight) → Sees k s s [] []
sees_none k s = record { first = λ x. grind arith; unwritten = λ x. grind arith; late = λ up. up }

pub in_append : (xs ys : List ℕ) (x : ℕ) → is_in (xs ++ ys) x ≡ (is_in xs x || is_in ys x)
in_append xs ys x = list_any-append (λ y. nat_eq x y) xs ys

-- reads, and then more of them and writes
pub sees_then : (k : ℕ) (s t u : List Sight) (xs ys ws : List ℕ) → Sees k s t xs [] → Sees k t u ys ws → Sees k s u (xs ++ ys) ws
sees_then k s t u xs ys ws a b = record {
  first = λ x. grind (arith, b.first x, a.first x, a.unwritten x, in_append xs ys x);
  unwritten = λ x. grind (arith, b.unwritten x, a.unwritten x);
  late = λ up. b.late (a.late up);
}

-- ---- a block

-- where block k has come to these instructions
pub record IsSeenTo (k : ℕ) (start now : List Sight) (is : List RInst) (block : RBlock) : Type 0 where
  pub first : (x : ℕ) → (is_read_first now x || (is_unwritten k now x && reads_first is block.exit x)) ≡ (is_read_first start x || block_reads_first block x)
  pub late : IsUpTo k now

pub seen_step : (k : ℕ) (s t u : List Sight) (is is' : List RInst) (j : ℕ) (i d : RInst) (block : RBlock) → is' ≡ is → j < length is'
    → i ≡ get_or is' j d → Sees k t u (inst_reads i) (inst_writes i) → IsSeenTo k s t (drop j is) block → IsSeenTo k s u (drop (j + 1) is) block
seen_step k s t u is is' j i d block same lt at one before = record {
  first = λ x. grind (arith, one.first x, one.unwritten x, before.first x, at_drop_more (λ l. reads_first l block.exit x) is' j d lt);
  late = one.late before.late;
}

pub seen_end : (k : ℕ) (s t u : List Sight) (is : List RInst) (block : RBlock) → is ≡ [] → Sees k t u (exit_reads block.exit) []
    → IsSeenTo k s t is block → (x : ℕ) → is_read_first u x ≡ (is_read_first s x || block_reads_first block x)
seen_end k s t u is block none last before x =
    last.first x ∙ ap (λ l. is_read_first t x || (is_unwritten k t x && reads_first l block.exit x)) (sym none) ∙ before.first x

-- ---- several reads

pub all_step : (k : ℕ) (xs : List ℕ) (i x d : ℕ) (start s t : List Sight) → i < length xs → x ≡ get_or xs i d → Sees k s t (x ∷ []) []
    → ((end : List Sight) → Sees k s end (drop i xs) [] → Sees k start end xs []) → (end : List Sight) → Sees k t end (drop (i + 1) xs) []
    → Sees k start end xs []
all_step k xs i x d start s t lt at one before end rest =
    let here : drop i xs ≡ x ∷ drop (i + 1) xs = cc (at_drop_more (λ l. l) xs i d lt) in
    before end (rw here (sees_then k s t end (x ∷ []) (drop (i + 1) xs) [] one rest))

pub all_end : (k : ℕ) (xs : List ℕ) (i : ℕ) (start s : List Sight) → length xs ≤ i
    → ((end : List Sight) → Sees k s end (drop i xs) [] → Sees k start end xs []) → Sees k start s xs []
all_end k xs i start s le before = before s (rw (drop_all i xs le) (sees_none k s))

-- ---- blocks

-- where a walk over blocks has come to these, the first of which has the number i
pub record AreSeenTo (i : ℕ) (now : List Sight) (left bs : List RBlock) : Type 0 where
  pub first : (x : ℕ) → not (is_read_first now x || list_any (λ b. block_reads_first b x) left) ≡ is_local bs x
  pub late : (x : ℕ) → (sight_at now x).written_in ≤ i

pub are_seen_step : (bs : List RBlock) (i : ℕ) (b : RBlock) (s t : List Sight) → i < length bs → b ≡ get_or bs i b
    → ((x : ℕ) → is_read_first t x ≡ (is_read_first s x || block_reads_first b x)) → IsUpTo (i + 1) t → AreSeenTo i s (drop i bs) bs
    → AreSeenTo (i + 1) t (drop (i + 1) bs) bs
are_seen_step bs i b s t lt at one late before = record {
  first = λ x. grind (arith, one x, before.first x, at_drop_more (list_any (λ b. block_reads_first b x)) bs i b lt);
  late = late;
}

pub are_seen_end : (bs : List RBlock) (i : ℕ) (s : List Sight) → length bs ≤ i → AreSeenTo i s (drop i bs) bs
    → (x : ℕ) → not (is_read_first s x) ≡ is_local bs x
are_seen_end bs i s le before x = grind (arith, rw (drop_all i bs le) at (before.first x))
