-- The greatest register that is named, and that a program with tails names no greater one.
use Rattle.std.proofs.Common.{◌≡◌, ℕ, suc, ◌<◌, ◌≤◌, ◌⊎◌, inl, inr, Bool, true, false, List, [], ◌∷◌, ◌++◌, refl, subst, sym, arith, nat_lt, ltb-true}
use Rattle.std.specs.Prelude.{All, if◌then◌else◌}
use Rattle.std.proofs.lemmas.Bool.{ltb-false}
use Rattle.std.proofs.lemmas.List.Elements.{All-nil, All-cons, All-head, All-tail, All-append}
use Rattle.runs.proofs.Words.{at-index}
use Rattle.rtl.specs.declared.instruction.RInst.{RInst}
use Rattle.rtl.specs.declared.instruction.RInst.TheVariants.{Const}
use Rattle.rtl.specs.declared.instruction.RExit.{RExit}
use Rattle.rtl.specs.declared.instruction.RExit.TheVariants.{Goto}
use Rattle.rtl.specs.declared.block.RBlock.{RBlock}
use Rattle.rtl.specs.declared.block.RFunc.{RFunc}
use Rattle.rtl.specs.Meaning.{Code, code_of}
use Rattle.rtl.specs.Names.{inst_names, exit_names, insts_names, blocks_names, bound, how_many}
use Rattle.rtl.specs.Tails.{shortest, empty_code, HasTails}
use Rattle.rtl.proofs.Copies.{Copy, all_made, constant_holds}

pub bound_one : (n x : ℕ) → (n ≤ (if nat_lt x n then n else suc x)) × (x < (if nat_lt x n then n else suc x))
bound_one n x = by (nat_lt x n) refl
  where
    by : (c : Bool) → nat_lt x n ≡ c → (n ≤ (if c then n else suc x)) × (x < (if c then n else suc x))
    by true e = (omega arith, ltb-true x n e)
    by false e = (let ge = ltb-false x n e in (omega (arith, ge), omega arith))

pub bound_least : (n : ℕ) (xs : List ℕ) → n ≤ bound n xs
bound_least n [] = omega arith
bound_least n (x ∷ xs) = (let one = (bound_one n x).0 in let rest = bound_least (if nat_lt x n then n else suc x) xs in omega (arith, one, rest))

-- names that are below a number
abbrev Below : ℕ → List ℕ → Type 0
Below m xs = All (λ x. x < m) xs

bound_names : (n : ℕ) (xs : List ℕ) → Below (bound n xs) xs
bound_names n [] = All-nil (λ x. x < bound n [])
bound_names n (x ∷ xs) =
    let next = if nat_lt x n then n else suc x in
    let one = (bound_one n x).1 in
    let rest = bound_least next xs in
    All-cons (λ y. y < bound next xs) x xs (omega (arith, one, rest)) (bound_names next xs)

bound_most : (n m : ℕ) (xs : List ℕ) → n ≤ m → Below m xs → bound n xs ≤ m
bound_most n m [] le all = le
bound_most n m (x ∷ xs) le all =
    bound_most (if nat_lt x n then n else suc x) m xs (by (nat_lt x n) (All-head (λ y. y < m) x xs all)) (All-tail (λ y. y < m) x xs all)
  where
    by : (b : Bool) → x < m → (if b then n else suc x) ≤ m
    by true lt = le
    by false lt = omega (arith, lt)

left : (m : ℕ) (xs ys : List ℕ) → Below m (xs ++ ys) → Below m xs
left m [] ys all = All-nil (λ x. x < m)
left m (x ∷ xs) ys all =
    All-cons (λ x. x < m) x xs (All-head (λ x. x < m) x (xs ++ ys) all) (left m xs ys (All-tail (λ x. x < m) x (xs ++ ys) all))

right : (m : ℕ) (xs ys : List ℕ) → Below m (xs ++ ys) → Below m ys
right m [] ys all = all
right m (x ∷ xs) ys all = right m xs ys (All-tail (λ x. x < m) x (xs ++ ys) all)

joins : (m : ℕ) (xs ys : List ℕ) → Below m xs → Below m ys → Below m (xs ++ ys)
joins m xs ys a b = All-append (λ x. x < m) xs ys a b

-- a block names registers below a number
record BlockBelow (m : ℕ) (b : RBlock) : Type 0 where
  insts : Below m (insts_names b.insts.items)
  exit : Below m (exit_names b.exit)

names_join : (m : ℕ) (xs ys : List RInst) → Below m (insts_names xs) → Below m (insts_names ys) → Below m (insts_names (xs ++ ys))
names_join m [] ys a b = b
names_join m (x ∷ xs) ys a b =
    joins m (inst_names x) (insts_names (xs ++ ys)) (left m (inst_names x) (insts_names xs) a)
    (names_join m xs ys (right m (inst_names x) (insts_names xs) a) b)

each_below : (m : ℕ) (bs : List RBlock) → Below m (blocks_names bs) → All (BlockBelow m) bs
each_below m [] all = All-nil (BlockBelow m)
each_below m (b ∷ bs) all =
    let behind = right m (insts_names b.insts.items) (exit_names b.exit ++ blocks_names bs) all in
    All-cons (BlockBelow m) b bs
    (record { insts = left m (insts_names b.insts.items) (exit_names b.exit ++ blocks_names bs) all; exit = left m (exit_names b.exit) (blocks_names bs) behind })
    (each_below m bs (right m (exit_names b.exit) (blocks_names bs) behind))

all_below : (m : ℕ) (bs : List RBlock) → All (BlockBelow m) bs → Below m (blocks_names bs)
all_below m [] all = All-nil (λ x. x < m)
all_below m (b ∷ bs) all =
    let one = All-head (BlockBelow m) b bs all in
    joins m (insts_names b.insts.items) (exit_names b.exit ++ blocks_names bs) one.insts
    (joins m (exit_names b.exit) (blocks_names bs) one.exit (all_below m bs (All-tail (BlockBelow m) b bs all)))

-- a register that is set to a constant is named
each_inst : (m : ℕ) (is : List RInst) → Below m (insts_names is) → All (λ i. Below m (inst_names i)) is
each_inst m [] all = All-nil (λ i. Below m (inst_names i))
each_inst m (i ∷ is) all =
    All-cons (λ i. Below m (inst_names i)) i is (left m (inst_names i) (insts_names is) all) (each_inst m is (right m (inst_names i) (insts_names is) all))

below_code : (m : ℕ) (c : RBlock) (k : Code) → code_of c ≡ k → Below m (insts_names k.insts) → Below m (exit_names k.exit) → BlockBelow m c
below_code m c k is insts exit = record {
  insts = subst (λ (k : Code). Below m (insts_names k.insts)) (sym is) insts;
  exit = subst (λ (k : Code). Below m (exit_names k.exit)) (sym is) exit;
}

block_below : (m : ℕ) (before : List RBlock) (b c : RBlock) → All (BlockBelow m) before → BlockBelow m b → Copy before (code_of b) (code_of c)
    → BlockBelow m c
block_below m before b c all below (inl is) = below_code m c (code_of b) is below.insts below.exit
block_below m before b c all below (inr t) =
    let tail = at-index (BlockBelow m) before t.number t.block all t.there in
    let is = t.block.insts.items in
    let lt = (constant_holds (λ i. Below m (inst_names i)) is is t.d (each_inst m is tail.insts) t.sets).1 in
    below_code m c _ t.is (names_join m b.insts.items (Const t.d 0 ∷ is) below.insts
    (All-cons (λ x. x < m) t.d (insts_names is) (All-head (λ x. x < m) t.d [] lt) tail.insts)) tail.exit

-- as it was, or empty
nothing_below : {m : ℕ} (x : RExit) → Below m (exit_names (shortest x))
nothing_below {m} (Goto b) = All-nil (λ x. x < m)
nothing_below {m} _ = All-nil (λ x. x < m)

kept_below : (m : ℕ) (c d : RBlock) → BlockBelow m c → (code_of d ≡ code_of c) ⊎ (code_of d ≡ empty_code c) → BlockBelow m d
kept_below m c d below (inl is) = below_code m d (code_of c) is below.insts below.exit
kept_below m c d below (inr is) = below_code m d (empty_code c) is (All-nil (λ x. x < m)) (nothing_below c.exit)

pub no_more_names : (f n : RFunc) → HasTails f n → how_many n ≤ how_many f
no_more_names f n t =
    let m = how_many f in
    let few = bound_least f.parameters (blocks_names f.blocks.items) in
    bound_most n.parameters m (blocks_names n.blocks.items) (subst (λ k. k ≤ m) (sym t.parameters) few)
    (all_below m n.blocks.items (all_made (BlockBelow m) (BlockBelow m) (block_below m) (kept_below m) f.blocks.items n.blocks.items t.blocks
    (each_below m f.blocks.items (bound_names f.parameters (blocks_names f.blocks.items)))))
