use Rattle.std.proofs.Common.{◌≡◌, ◌∙◌, Some, sym, ap, decimal, arith}
use Rattle.std.proofs.lemmas.Fmt.{parse-decimal}
use Rattle.block_text.proofs.Decimals.{ok_not_err, same_ok, texts_apart, decimal_utf8}
use Rattle.block_text.proofs.numbers.U32Spelled.read.Goals as goal

pub returns-in-Err-clause-only : goal.returns-in-Err-clause-only
returns-in-Err-clause-only c = λ n lt e. absurd (c.in-Err.ensures.cases.0 (rw e (decimal_utf8 n lt)))

pub returns-in-Err-parse-clause-only : goal.returns-in-Err-parse-clause-only
returns-in-Err-parse-clause-only c = λ n lt e.
    absurd (ok_not_err c.parse.result _ n c.in-Err-parse.is (parse-decimal 32 n c.in-Ok.s.now c.parse.result lt (omega arith)
    (c.in-Ok.ensures.cases.0 ∙ e) c.parse.ensures.value.0))

pub returns-then-eq-clause-only : goal.returns-then-eq-clause-only
returns-then-eq-clause-only c = λ n lt e.
    ap Some (same_ok c.parse.result c.in-Ok-parse.n n c.in-Ok-parse.is
    (parse-decimal 32 n c.in-Ok.s.now c.parse.result lt (omega arith) (c.in-Ok.ensures.cases.0 ∙ e) c.parse.ensures.value.0))

pub returns-else-eq-clause-only : goal.returns-else-eq-clause-only
returns-else-eq-clause-only c = λ n lt e.
    let m_is_n : c.in-Ok-parse.n ≡ n = same_ok c.parse.result c.in-Ok-parse.n n c.in-Ok-parse.is
    (parse-decimal 32 n c.in-Ok.s.now c.parse.result lt (omega arith) (c.in-Ok.ensures.cases.0 ∙ e) c.parse.ensures.value.0) in
    let printed : c.as_bytes.result.now ≡ c.args.text.now = c.as_bytes.ensures.value ∙ c.format.ensures.text ∙ ap decimal m_is_n ∙ sym e in
    absurd (texts_apart c.as_bytes.result.now c.args.text.now (sym c.eq.ensures ∙ c.if-eq.false) printed)
