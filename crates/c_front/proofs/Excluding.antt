-- A text that has a fault spells nothing.
use Rattle.std.proofs.Common.{◌≡◌, ◌<◌, ℕ, List, [], length, refl, ap, arith}
use Rattle.c_tokens.specs.declared.token.Token.{Token}
use Rattle.c_tokens.proofs.Finding.{true-false}
use Rattle.c_tokens.proofs.Once.{lexes-once, never-lexes, stops-once}
use Rattle.c_front.specs.declared.fault.FrontFaultKind.{FrontFaultKind}
use Rattle.c_front.specs.declared.fault.FrontFaultKind.TheVariants.{NoMemory}
use Rattle.c_tree.specs.Tree.{Declaration}
use Rattle.c_front.specs.Texts.{SpellsText, IsTextFault, IsBadByte, place_or, refusal_kind, too_long, bad_byte, bad_token, bad_syntax, no_memory}
use Rattle.c_front.proofs.Theorems.{one-program, one-wrong}
use Rattle.c_tokens.specs.Texts.{Lexes}
use Rattle.c_front.specs.Syntax.{IsFirstWrong}

pub once : (text : List ℕ) (p q : List Declaration) → SpellsText text p → SpellsText text q → p ≡ q
once text p q s t =
    let same = lexes-once s.lexes t.tokens t.places t.lexes in
    one-program (rw same.0 at s.spells) t.spells

pub excluded : {text : List ℕ} {k : FrontFaultKind} {at : ℕ} → IsTextFault text k at → (p : List Declaration) → (k ≡ NoMemory → ⊥) → SpellsText text p → ⊥
excluded (too_long h) p n s = let l = s.short in omega (arith, h, l)
excluded (bad_byte {k = k} h b) p n s = true-false (s.bytes k b.0) b.1
excluded (bad_token a b h) p n s = never-lexes h s.tokens s.places s.lexes
excluded (bad_syntax a b l w) p n s =
    let same = lexes-once s.lexes _ _ l in
    w.none p (rw same.0 at s.spells)
excluded (no_memory _ _) p n s = n refl

one-byte : (text : List ℕ) (k j : ℕ) → IsBadByte text k → IsBadByte text j → k ≡ j
one-byte text k j p q =
    let a : k < j → ⊥ = λ lt. true-false (q.2 k lt) p.1 in
    let b : j < k → ⊥ = λ lt. true-false (p.2 j lt) q.1 in
    omega arith

one-syntax : (text : List ℕ) (ts us : List Token) (ks js : List ℕ) (k j : ℕ) → Lexes 0 text [] ts ks → Lexes 0 text [] us js → IsFirstWrong ts k
    → IsFirstWrong us j → place_or (length text) ks k ≡ place_or (length text) js j
one-syntax text ts us ks js k j l m p q =
    let same = lexes-once l us js m in
    rw (same.1, one-wrong us k j (rw same.0 at p) q)

-- other than want of memory a text has one fault at most, at one place
pub one-fault : {text : List ℕ} {k : FrontFaultKind} {at : ℕ} → IsTextFault text k at → (j : FrontFaultKind) (n : ℕ) → IsTextFault text j n → (k ≡ NoMemory → ⊥)
    → (j ≡ NoMemory → ⊥) → (k ≡ j) × (at ≡ n)
one-fault (no_memory _ _) _ _ _ a b = absurd (a refl)
one-fault _ _ _ (no_memory _ _) a b = absurd (b refl)
one-fault (too_long h) _ _ (too_long i) a b = (refl, refl)
one-fault (too_long h) _ _ (bad_byte s w) a b = absurd (omega (arith, h, s))
one-fault (too_long h) _ _ (bad_token s c w) a b = absurd (omega (arith, h, s))
one-fault (too_long h) _ _ (bad_syntax s c l w) a b = absurd (omega (arith, h, s))
one-fault (bad_byte s w) _ _ (too_long i) a b = absurd (omega (arith, i, s))
one-fault {text = text} (bad_byte {k = k} s w) _ _ (bad_byte {k = j} t x) a b = (refl, one-byte text k j w x)
one-fault (bad_byte {k = k} s w) _ _ (bad_token t c x) a b = absurd (true-false (c k w.0) w.1)
one-fault (bad_byte {k = k} s w) _ _ (bad_syntax t c l x) a b = absurd (true-false (c k w.0) w.1)
one-fault (bad_token s c w) _ _ (too_long i) a b = absurd (omega (arith, i, s))
one-fault (bad_token s c w) _ _ (bad_byte {k = j} t x) a b = absurd (true-false (c j x.0) x.1)
one-fault (bad_token s c w) _ _ (bad_token {r = q} {k = j} t d x) a b = let same = stops-once w q j x in (ap refusal_kind same.0, same.1)
one-fault (bad_token s c w) _ _ (bad_syntax {tokens = ts} {places = ks} t d l x) a b = absurd (never-lexes w ts ks l)
one-fault (bad_syntax s c l w) _ _ (too_long i) a b = absurd (omega (arith, i, s))
one-fault (bad_syntax s c l w) _ _ (bad_byte {k = j} t x) a b = absurd (true-false (c j x.0) x.1)
one-fault (bad_syntax {tokens = ts} {places = ks} s c l w) _ _ (bad_token t d x) a b = absurd (never-lexes x ts ks l)
one-fault {text = text} (bad_syntax {tokens = ts} {places = ks} {k = k} s c l w) _ _ (bad_syntax {tokens = us} {places = js} {k = j} t d m x) a b =
    (refl, one-syntax text ts us ks js k j l m w x)
