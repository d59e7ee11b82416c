use Rattle.std.proofs.Common.{◌≡◌, ◌∙◌, Some, sym, ap}
use Rattle.std.specs.Int.{w16}
use Rattle.std.specs.Fmt.{signed_decimal}
use Rattle.std.proofs.lemmas.Fmt.{parse-signed_decimal}
use Rattle.block_text.proofs.Decimals.{ok_not_err, same_ok, texts_apart, signed_utf8, small_mag, kept}
use Rattle.block_text.proofs.numbers.I16Spelled.read.Goals as goal

pub returns-in-Err-clause-only : goal.returns-in-Err-clause-only
returns-in-Err-clause-only c = λ n lt e. absurd (c.in-Err.ensures.cases.0 (rw e (signed_utf8 n lt)))

pub returns-in-Err-parse-clause-only : goal.returns-in-Err-parse-clause-only
returns-in-Err-parse-clause-only c = λ n lt e.
    absurd (ok_not_err c.parse.result _ n c.in-Err-parse.is (parse-signed_decimal w16 n c.in-Ok.s.now c.parse.result lt (small_mag n lt)
    (c.in-Ok.ensures.cases.0 ∙ e) c.parse.ensures.value.0))

pub returns-then-eq-clause-only : goal.returns-then-eq-clause-only
returns-then-eq-clause-only c = λ n lt e.
    let m_is_n : c.in-Ok-parse.n ≡ n = same_ok c.parse.result c.in-Ok-parse.n n c.in-Ok-parse.is
    (parse-signed_decimal w16 n c.in-Ok.s.now c.parse.result lt (small_mag n lt) (c.in-Ok.ensures.cases.0 ∙ e) c.parse.ensures.value.0) in
    ap Some (kept c.in-Ok-parse.n n m_is_n lt)

pub returns-else-eq-clause-only : goal.returns-else-eq-clause-only
returns-else-eq-clause-only c = λ n lt e.
    let m_is_n : c.in-Ok-parse.n ≡ n = same_ok c.parse.result c.in-Ok-parse.n n c.in-Ok-parse.is
    (parse-signed_decimal w16 n c.in-Ok.s.now c.parse.result lt (small_mag n lt) (c.in-Ok.ensures.cases.0 ∙ e) c.parse.ensures.value.0) in
    let printed : c.as_bytes.result.now ≡ c.args.text.now = c.as_bytes.ensures.value ∙ c.format.ensures.text
    ∙ ap signed_decimal (kept c.in-Ok-parse.n n m_is_n lt) ∙ sym e in
    absurd (texts_apart c.as_bytes.result.now c.args.text.now (sym c.eq.ensures ∙ c.if-eq.false) printed)
