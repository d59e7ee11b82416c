use Rattle.std.proofs.Common.{to_z, of_z, ◌≡◌, ◌∙◌, ℕ, ℤ, Some, ap, arith, length, ◌++◌, ◌∷◌, []}
use Rattle.std.specs.Int.{w16}
use Rattle.std.specs.Fmt.{signed_decimal}
use Rattle.mips_isa.specs.Texts.{register_text}
use Rattle.block_text.specs.declared.operands.Address.{Address}
use Rattle.block_text.proofs.Decimals.{kept}
use Rattle.block_text.proofs.Values.{made-one}
use Rattle.block_text.proofs.Lacking.{bracket_signed, close_register}
use Rattle.block_text.proofs.operands.AddressSpelled.read.Goals as goal

pub returns-in_err-halves-clause-only : goal.returns-in_err-halves-clause-only
returns-in_err-halves-clause-only c = λ a h e.
    absurd (let none = c.in_err-halves.ensures.only (signed_decimal a.offset) (register_text a.base ++ 41 ∷ []) (bracket_signed a.offset h.1) e in none)

pub returns-in_err-offset-clause-only : goal.returns-in_err-offset-clause-only
returns-in_err-offset-clause-only c = λ a h e.
    let at_halves = c.in_ok-halves.ensures.only (signed_decimal a.offset) (register_text a.base ++ 41 ∷ []) (bracket_signed a.offset h.1) e in
    absurd (let none = c.in_err-offset.ensures.only a.offset h.1 at_halves.0 in cc)

pub returns-in_err-rest-clause-only : goal.returns-in_err-rest-clause-only
returns-in_err-rest-clause-only c = λ a h e.
    let at_halves = c.in_ok-halves.ensures.only (signed_decimal a.offset) (register_text a.base ++ 41 ∷ []) (bracket_signed a.offset h.1) e in
    absurd (let none = c.in_err-rest.ensures.only (register_text a.base) ([]) (close_register a.base h.0) at_halves.1 in none)

pub returns-in_err-base-clause-only : goal.returns-in_err-base-clause-only
returns-in_err-base-clause-only c = λ a h e.
    let at_halves = c.in_ok-halves.ensures.only (signed_decimal a.offset) (register_text a.base ++ 41 ∷ []) (bracket_signed a.offset h.1) e in
    let at_rest = c.in_ok-rest.ensures.only (register_text a.base) ([]) (close_register a.base h.0) at_halves.1 in
    absurd (let none = c.in_err-base.ensures.only a.base h.0 at_rest.0 in cc)

pub returns-then-not-is_empty-clause-only : goal.returns-then-not-is_empty-clause-only
returns-then-not-is_empty-clause-only c = λ a h e.
    let at_halves = c.in_ok-halves.ensures.only (signed_decimal a.offset) (register_text a.base ++ 41 ∷ []) (bracket_signed a.offset h.1) e in
    let at_rest = c.in_ok-rest.ensures.only (register_text a.base) ([]) (close_register a.base h.0) at_halves.1 in
    let none : length c.in_ok-rest.rest.after.now ≡ 0 = ap length at_rest.1 in
    absurd (grind arith)

pub returns-clause-only : goal.returns-clause-only
returns-clause-only c = λ a h e.
    let at_halves = c.in_ok-halves.ensures.only (signed_decimal a.offset) (register_text a.base ++ 41 ∷ []) (bracket_signed a.offset h.1) e in
    let at_offset = c.in_ok-offset.ensures.only a.offset h.1 at_halves.0 in
    let at_rest = c.in_ok-rest.ensures.only (register_text a.base) ([]) (close_register a.base h.0) at_halves.1 in
    let at_base = c.in_ok-base.ensures.only a.base h.0 at_rest.0 in
    let same : c.in_ok-offset.offset ≡ a.offset = cc in
    let make : ℕ → ℤ → Address = λ x y. record { base = x; offset = y } in
    made-one (λ x. make x (to_z w16 (of_z w16 c.in_ok-offset.offset))) _ a.base at_base
    ∙ ap (λ y. Some (make a.base y)) (kept _ _ same h.1)
