-- How much is pending.
use Rattle.std.proofs.Common.{◌≡◌, ◌≤◌, ◌<◌, ℕ, ◌+◌, List, [], ◌∷◌, ◌++◌, Bor, refl, ap, ◌∙◌, arith}
use Rattle.c_run.specs.declared.pending.Pending.{Pending}
use Rattle.c_run.specs.declared.pending.Pending.TheVariants.{One, Rest, Turn}
use Rattle.c_typed.specs.declared.tree.TypedStatement.{TypedStatement, Block}
use Rattle.c_typed.specs.Shape.{statement_of, statements_of}
use Rattle.std.specs.declared.vec.Vec.{Vec}
use Rattle.std.specs.declared.alloc.Global.{Global}
use Rattle.c_run.specs.declared.pending.Head.{Head}
use Rattle.c_run.specs.declared.pending.Head.TheVariants as Heads
use Rattle.c_run.specs.Sizes.{size, sizes, weight, weights, head_size}
use Rattle.c_typed.proofs.Shapes.{block-is}

pub weights-push : (ts : List Pending) (t : Pending) → weights (ts ++ t ∷ []) ≡ weights ts + weight t
weights-push [] t = omega arith
weights-push (x ∷ ts) t = omega (arith, weights-push ts t)

pub weights-popped : (ts rest : List Pending) (t : Pending) (n : ℕ) → ts ≡ rest ++ t ∷ [] → weight t ≡ n → weights ts ≡ weights rest + n
weights-popped ts rest t n e w = ap weights e ∙ weights-push rest t ∙ ap (λ n. weights rest + n) w

pub turn-less : (ts rest : List Pending) (t : Pending) (last again : Bor TypedStatement) (list : Bor (List TypedStatement)) (m : ℕ) → ts ≡ rest ++ t ∷ []
    → t ≡ Turn last again list → weights ts ≤ m → sizes (statements_of list.now) + weights rest + 0 ≤ m
turn-less ts rest t last again list m e is le = omega (arith, weights-popped ts rest t (sizes (statements_of list.now) + 1) e (ap weight is))

pub one-less : (ts rest : List Pending) (t : Pending) (s : Bor TypedStatement) (list : Bor (List TypedStatement)) (m : ℕ) → ts ≡ rest ++ t ∷ []
    → t ≡ One s list → weights ts ≤ m → sizes (statements_of list.now) + weights rest + size (statement_of s.now) ≤ m
one-less ts rest t s list m e is le =
    omega (arith, weights-popped ts rest t (size (statement_of s.now) + sizes (statements_of list.now)) e (ap weight is))

sizes-cons : (all rest : List TypedStatement) (s : TypedStatement) → all ≡ s ∷ rest
    → sizes (statements_of all) ≡ size (statement_of s) + sizes (statements_of rest)
sizes-cons all rest s e = ap (λ all. sizes (statements_of all)) e

pub rest-less : (ts behind : List Pending) (t : Pending) (all rest : Bor (List TypedStatement)) (s : Bor TypedStatement) (m : ℕ) → ts ≡ behind ++ t ∷ []
    → t ≡ Rest all → all.now ≡ s.now ∷ rest.now → weights ts ≤ m → sizes (statements_of rest.now) + weights behind + size (statement_of s.now) ≤ m
rest-less ts behind t all rest s m e is split le =
    let a = weights-popped ts behind t (sizes (statements_of all.now) + 1) e (ap weight is) in
    let d = sizes-cons all.now rest.now s.now split in
    omega (arith, a, d)

pub gone-less : (ts behind : List Pending) (t : Pending) (m : ℕ) → ts ≡ behind ++ t ∷ [] → weights ts ≤ m → weights behind ≤ m
gone-less ts behind t m e le = omega (arith, weights-popped ts behind t (weight t) e refl)

-- a list that waits is one more than its statements
pub list-waits : (old new : List Pending) (list : Bor (List TypedStatement)) (m : ℕ) → new ≡ old ++ Rest list ∷ []
    → m + weights new ≤ m + (sizes (statements_of list.now) + weights old) + 1
list-waits old new list m e = omega (arith, weights-popped new old (Rest list) (sizes (statements_of list.now) + 1) e refl)

pub block-less : (old mid new : ℕ) (h : Head) (s : Bor TypedStatement) (all : Vec TypedStatement Global) (slice : Bor (List TypedStatement))
    → mid + head_size h ≤ old → h ≡ Heads.Statement s → s.now ≡ Block all → slice.now ≡ all.items
    → new ≤ sizes (statements_of slice.now) + mid + 1 → new < old
block-less old mid new h s all slice le is opens slice-is put =
    let a : sizes (statements_of slice.now) ≡ sizes (statements_of all.items) = ap (λ xs. sizes (statements_of xs)) slice-is in
    let b : head_size h ≡ sizes (statements_of all.items) + 2 = ap head_size is ∙ ap (λ s. size (statement_of s)) opens ∙ ap size (block-is all) in
    omega (arith, a, b, le)
