-- A list of blocks that grows.
use Rattle.std.proofs.Common.{◌≡◌, ◌≢◌, ℕ, zero, suc, ◌+◌, ◌<◌, ◌≤◌, List, [], ◌∷◌, ◌++◌, Some, refl, ◌∙◌, ap, arith, length}
use Rattle.std.specs.Prelude.{slice_get, slice_set}
use Rattle.std.proofs.Math.ListN.{length-set}
use Rattle.std.proofs.lemmas.List.{length_push, get_or_push, get_or-set_same}
use Rattle.std.proofs.lemmas.Option.{slice_get-get_or}
use Rattle.rtl.specs.Meaning.{Code, code_of}
use Rattle.rtl_emit.specs.Blocks.{Spot, Block, Line, line_of, insts_of, insts_at, insts_in, Grows, Has, At, Fills}
use Rattle.rtl.specs.declared.block.RBlock.{RBlock}
use Rattle.rtl.specs.declared.instruction.RExit.{RExit}
use Rattle.rtl.specs.declared.instruction.RInst.{RInst}

pub within : {a b : List RBlock} {n : ℕ} → Grows a b → length b ≤ n → length a ≤ n
within g le = let l = g.longer in omega (arith, l, le)

pub grows_then : (a b c : List RBlock) → Grows a b → Grows b c → Grows a c
grows_then a b c f h = record { longer = omega (arith, f.longer, h.longer); kept = λ i lt. h.kept i (omega (arith, f.longer)) ∙ f.kept i lt }

pub has_front : (bs a b c : List RBlock) → Grows b c → Has bs a c → Has bs a b
has_front bs a b c g h = record { by = λ i le lt. h.by i le (omega (arith, g.longer)) ∙ g.kept i lt }

pub has_back : (bs a b c : List RBlock) → Grows a b → Has bs a c → Has bs b c
has_back bs a b c g h = record { by = λ i le lt. h.by i (omega (arith, g.longer)) lt }

pub one_longer : (old new : List RBlock) (b : RBlock) → new ≡ old ++ b ∷ [] → length new ≡ length old + 1
one_longer old new b e = ap length e ∙ length_push old b

pub at_seam : (bs old new : List RBlock) (b : RBlock) (c : Code) → new ≡ old ++ b ∷ [] → code_of b ≡ c → Has bs old new → At bs (length old) c
at_seam bs old new b c e is h = record {
  block = b;
  there = h.by (length old) (omega arith) (omega (arith, one_longer old new b e)) ∙ ap (λ l. slice_get l (length old)) e
      ∙ slice_get-get_or (old ++ b ∷ []) (length old) b (omega (arith, length_push old b)) ∙ ap Some (get_or_push old b b (length old) refl);
  is = is;
}

set_others : (l : List RBlock) (b : ℕ) (x : RBlock) (i : ℕ) → i ≢ b → slice_get (slice_set l b x) i ≡ slice_get l i
set_others [] b x i ne = refl
set_others (y ∷ l) zero x zero ne = absurd (ne refl)
set_others (y ∷ l) zero x (suc i) ne = refl
set_others (y ∷ l) (suc b) x zero ne = refl
set_others (y ∷ l) (suc b) x (suc i) ne = set_others l b x i (λ e. ne (ap suc e))

pub fills_set : (old : List RBlock) (b : ℕ) (x : RBlock) (c : Code) → b < length old → code_of x ≡ c → Fills old (slice_set old b x) b c
fills_set old b x c lt is = record {
  same_length = length-set old b x;
  others = λ i ne. set_others old b x i ne;
  at = record {
    block = x;
    there = slice_get-get_or (slice_set old b x) b x (omega (arith, lt, length-set old b x)) ∙ ap Some (get_or-set_same old b x x lt);
    is = is;
  };
}

-- the code of a list of instructions that is another one
pub coded : {x : RExit} {l m : List RInst} → l ≡ m → (let r : Code = record { insts = l; exit = x } in r) ≡ record { insts = m; exit = x }
coded e = rw e refl

-- their instructions

pub line_insts : (s : Spot) → insts_of (line_of s) ≡ insts_at s
line_insts (Block b) = refl
line_insts (Line c) = refl

pub insts_push : (old new : List RBlock) (b : RBlock) (c : Code) → new ≡ old ++ b ∷ [] → code_of b ≡ c → insts_in new ≡ insts_in old + insts_of c
insts_push old new b c e is = ap insts_in e ∙ pushed old
  where
    pushed : (l : List RBlock) → insts_in (l ++ b ∷ []) ≡ insts_in l + insts_of c
    pushed [] = omega (arith, ap insts_of is)
    pushed (x ∷ l) = omega (arith, pushed l)

pub insts_set : (old : List RBlock) (n : ℕ) (b : RBlock) (c : Code) → code_of b ≡ c → insts_in (slice_set old n b) ≤ insts_in old + insts_of c
insts_set [] n b c is = omega arith
insts_set (x ∷ l) zero b c is = let n = ap insts_of is in omega (arith, n)
insts_set (x ∷ l) (suc n) b c is = let r = insts_set l n b c is in omega (arith, r)

-- the parts of what was added
pub split2 : (bs a b c : List RBlock) → Grows a b → Grows b c → Has bs a c → Has bs a b × Has bs b c
split2 bs a b c g1 g2 h = (has_front bs a b c g2 h, has_back bs a b c g1 h)

pub split3 : (bs a b c d : List RBlock) → Grows a b → Grows b c → Grows c d → Has bs a d → Has bs a b × Has bs b c × Has bs c d
split3 bs a b c d g1 g2 g3 h = let s = split2 bs a c d (grows_then a b c g1 g2) g3 h in
    (has_front bs a b c g2 s.0, has_back bs a b c g1 s.0, s.1)

pub split4 : (bs a b c d e : List RBlock) → Grows a b → Grows b c → Grows c d → Grows d e → Has bs a e → Has bs a b × Has bs b c × Has bs c d × Has bs d e
split4 bs a b c d e g1 g2 g3 g4 h = let s = split3 bs a c d e (grows_then a b c g1 g2) g3 g4 h in
    (has_front bs a b c g2 s.0, has_back bs a b c g1 s.0, s.1, s.2)
