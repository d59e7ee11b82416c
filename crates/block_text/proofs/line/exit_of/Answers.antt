use Rattle.std.proofs.Common.{◌∙◌, sym, ap, Some}
use Rattle.std.proofs.lemmas.Slice.Eq.{bytes_eq-Decides}
use Rattle.block_text.specs.Spelling.{exit_name_text}
use Rattle.block_text.specs.Spelling.{targets_text}
use Rattle.block_text.proofs.Decimals.{texts_apart}
use Rattle.block_text.proofs.Exits.{spaced, return_alone, halt_alone, named_spelled, named_has}
use Rattle.block_text.proofs.Named.{name_lacks}
use Rattle.block_text.proofs.line.exit_of.Goals as goal

pub returns-then-eq-clause-found : goal.returns-then-eq-clause-found
returns-then-eq-clause-found c = (tt, (bytes_eq-Decides _ _).0 (sym c.eq.ensures ∙ c.if-eq.true) ∙ c.as_slice.ensures)

pub returns-then-eq-clause-only : goal.returns-then-eq-clause-only
returns-then-eq-clause-only c = λ e h.
    let line = (bytes_eq-Decides c.args.line.now c.as_slice.result.now).0 (sym c.eq.ensures ∙ c.if-eq.true) ∙ c.as_slice.ensures in
    ap Some (sym (return_alone e (sym line ∙ h.1)))

pub returns-then-eq-2-clause-found : goal.returns-then-eq-2-clause-found
returns-then-eq-2-clause-found c = (tt, (bytes_eq-Decides _ _).0 (sym c.eq-2.ensures ∙ c.if-eq-2.true) ∙ c.as_slice-2.ensures)

pub returns-then-eq-2-clause-only : goal.returns-then-eq-2-clause-only
returns-then-eq-2-clause-only c = λ e h.
    let line = (bytes_eq-Decides c.args.line.now c.as_slice-2.result.now).0 (sym c.eq-2.ensures ∙ c.if-eq-2.true) ∙ c.as_slice-2.ensures in
    ap Some (sym (halt_alone e (sym line ∙ h.1)))

pub returns-in_err-halves-clause-only : goal.returns-in_err-halves-clause-only
returns-in_err-halves-clause-only c = λ e h.
    let s = spaced c.args.line.now _ _ e (texts_apart c.args.line.now _ (sym c.eq.ensures ∙ c.if-eq.false)) c.as_slice.ensures
    (texts_apart c.args.line.now _ (sym c.eq-2.ensures ∙ c.if-eq-2.false)) c.as_slice-2.ensures h in
    absurd (let none = c.in_err-halves.ensures.only (exit_name_text s.0) (targets_text e) (name_lacks s.0) s.2 in none)

pub returns-in_err-name-clause-only : goal.returns-in_err-name-clause-only
returns-in_err-name-clause-only c = λ e h.
    let s = spaced c.args.line.now _ _ e (texts_apart c.args.line.now _ (sym c.eq.ensures ∙ c.if-eq.false)) c.as_slice.ensures
    (texts_apart c.args.line.now _ (sym c.eq-2.ensures ∙ c.if-eq-2.false)) c.as_slice-2.ensures h in
    let at = c.in_ok-halves.ensures.only (exit_name_text s.0) (targets_text e) (name_lacks s.0) s.2 in
    absurd (let none = c.in_err-name.ensures.only s.0 at.0 in cc)

pub returns-clause-found : goal.returns-clause-found
returns-clause-found c = named_spelled c.args.line.now _ _ _ c.targets.result c.in_ok-halves.ensures.found c.in_ok-name.ensures.found c.targets.ensures.found

pub returns-clause-only : goal.returns-clause-only
returns-clause-only c = λ e h.
    let s = spaced c.args.line.now _ _ e (texts_apart c.args.line.now _ (sym c.eq.ensures ∙ c.if-eq.false)) c.as_slice.ensures
    (texts_apart c.args.line.now _ (sym c.eq-2.ensures ∙ c.if-eq-2.false)) c.as_slice-2.ensures h in
    let at = c.in_ok-halves.ensures.only (exit_name_text s.0) (targets_text e) (name_lacks s.0) s.2 in
    c.targets.ensures.only e (named_has _ s.0 e c.args.line.now _ (c.in_ok-name.ensures.only s.0 at.0) h s.1 at.1)
