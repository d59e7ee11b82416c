use Rattle.std.proofs.Common.{sym, ap, ◌∙◌, true≢false, rules}
use Rattle.std.proofs.lemmas.Option.{same_Some, none-some}
use Rattle.mips_code.specs.Words.{inst_word}
use Rattle.mips_code.proofs.Decoding.{candidate_at}
use Rattle.mips_code.proofs.Exact.{decoded_none, decoded_some, decoded_other}
use Rattle.mips_code.proofs.decoder.decode.Goals as goal

pub returns-in_err-inst-clause-only : goal.returns-in_err-inst-clause-only
returns-in_err-inst-clause-only c = λ i is e.
    absurd (none-some i (sym c.in_err-inst.was ∙ c.candidate.ensures ∙ candidate_at c.args.word i is e))

pub returns-then-has_word-clause-only : goal.returns-then-has_word-clause-only
returns-then-has_word-clause-only c = λ i is e. sym c.in_ok-inst.was ∙ c.candidate.ensures ∙ candidate_at c.args.word i is e

pub returns-clause-only : goal.returns-clause-only
returns-clause-only c = λ i is e.
    let same = same_Some c.in_ok-inst.inst i (sym c.in_ok-inst.was ∙ c.candidate.ensures ∙ candidate_at c.args.word i is e) in
    absurd (true≢false (sym (c.has_word.ensures.value.1 (ap inst_word same ∙ e)) ∙ c.if-has_word.false))

pub returns-in_err-inst-clause-value : goal.returns-in_err-inst-clause-value
returns-in_err-inst-clause-value c =
    let none = decoded_none c.args.word (sym (sym c.in_err-inst.was ∙ c.candidate.ensures)) in
    rw none (search rules)

pub returns-then-has_word-clause-value : goal.returns-then-has_word-clause-value
returns-then-has_word-clause-value c =
    sym (decoded_some c.args.word c.in_ok-inst.inst (sym (sym c.in_ok-inst.was ∙ c.candidate.ensures)) (c.has_word.ensures.value.0 c.if-has_word.true))

pub returns-clause-value : goal.returns-clause-value
returns-clause-value c =
    sym (decoded_other c.args.word c.in_ok-inst.inst (sym (sym c.in_ok-inst.was ∙ c.candidate.ensures))
    (λ e. true≢false (sym (c.has_word.ensures.value.1 e) ∙ c.if-has_word.false)))
