-- What comes of programs whose blocks have their tails.
use Rattle.std.proofs.Common.{◌≡◌, ℕ, suc, ◌+◌, ◌<◌, ◌≤◌, List, [], ◌∷◌, ◌++◌, length, take, get_or, ap, ◌∙◌, arith}
use Rattle.std.specs.Prelude.{Bool, false}
use Rattle.std.proofs.lemmas.List.{length-take}
use Rattle.std.proofs.lemmas.List.Folds.{list_any_more}
use Rattle.std.proofs.Math.Seq.{take-suc}
use Rattle.rtl.specs.declared.instruction.RInst.{RInst}
use Rattle.rtl.specs.declared.instruction.RInst.TheVariants.{Const}
use Rattle.rtl.specs.declared.block.RBlock.{RBlock}
use Rattle.rtl.specs.Names.{is_in, goes_to, some_go_to}
use Rattle.rtl.specs.Tails.{weight, operations, Marks}

operations_push : (xs : List RInst) (x : RInst) → operations (xs ++ x ∷ []) ≡ operations xs + weight x
operations_push [] x = omega arith
operations_push (y ∷ xs) x = let rest = operations_push xs x in omega (arith, rest)

-- one more
pub operations_next : (xs : List RInst) (i n w : ℕ) (d : RInst) → i < length xs → n ≡ operations (take i xs) → w ≡ weight (get_or xs i d)
    → n + w ≡ operations (take (i + 1) xs)
operations_next xs i n w d lt so_far one =
    let x = get_or xs i d in
    let next : i + 1 ≡ suc i = omega arith in
    let cut : take (i + 1) xs ≡ take i xs ++ x ∷ [] = ap (λ n. take n xs) next ∙ take-suc xs i d lt in
    let all : operations (take (i + 1) xs) ≡ operations (take i xs) + weight x = ap operations cut ∙ operations_push (take i xs) x in
    omega (arith, so_far, one, all)

weight_small : (x : RInst) → weight x ≤ 1
weight_small (Const d w) = omega arith
weight_small _ = omega arith

pub weight_at : (w : ℕ) (x : RInst) → w ≡ weight x → w ≤ 1
weight_at w x is = let small = weight_small x in omega (arith, is, small)

operations_few : (xs : List RInst) → operations xs ≤ length xs
operations_few [] = omega arith
operations_few (x ∷ xs) = let rest = operations_few xs in let one = weight_small x in omega (arith, rest, one)

-- no more than have been seen
pub operations_so_far : (xs : List RInst) (i : ℕ) → operations (take i xs) ≤ i
operations_so_far xs i = let few = operations_few (take i xs) in let long = length-take i xs in omega (arith, few, long)

-- ---- blocks that some exit goes to

-- one block more
pub marked_next : (bs : List RBlock) (old new : List Bool) (i : ℕ) (b d : RBlock) → i < length bs → b ≡ get_or bs i d
    → ((length old ≡ length bs) × ((x : ℕ) → x < length bs → get_or old x false ≡ some_go_to (take i bs) x))
    → Marks (goes_to b.exit) old new
    → (length new ≡ length bs) × ((x : ℕ) → x < length bs → get_or new x false ≡ some_go_to (take (i + 1) bs) x)
marked_next bs old new i b d lt is was marks = (
  marks.same_length ∙ was.0,
  λ x inside. marks.each x (omega (arith, inside, was.0)) ∙ cc (was.1 x inside, list_any_more (λ (k : RBlock). is_in (goes_to k.exit) x) bs i d lt),
)
