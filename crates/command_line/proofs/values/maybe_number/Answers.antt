use Rattle.std.proofs.Common.{◌∙◌, sym}
use Rattle.clap.specs.Words.{found_of, one_of, rows_of}
use Rattle.clap.proofs.WalkLemmas.{one_text-rows}
use Rattle.command_line.proofs.Numbers.{maybe_none, maybe_some}
use Rattle.command_line.proofs.values.maybe_number.Goals as goal

pub returns-in-Ok-None : goal.returns-in-Ok-None
returns-in-Ok-None c =
    let rows = one_text-rows (found_of c.args.values.now) c.args.id.now in
    maybe_none (one_of c.args.id.now (rows_of (found_of c.args.values.now)))
    (λ t e. (rw c.in-Ok-None.field-0-is at c.in-Ok-None.ensures.value) t (rows ∙ e))

pub returns-in-Ok-Some : goal.returns-in-Ok-Some
returns-in-Ok-Some c =
    let rows = one_text-rows (found_of c.args.values.now) c.args.id.now in
    maybe_some (one_of c.args.id.now (rows_of (found_of c.args.values.now))) c.in-Ok-Some.n
    (λ e. let none = (rw c.in-Ok-Some.field-0-is at c.in-Ok-Some.ensures.none) (rows ∙ e) in cc)
    (λ t e. let gives = (rw c.in-Ok-Some.field-0-is at c.in-Ok-Some.ensures.value) t (rows ∙ e) in (gives.0.0.0, sym gives.0.1))
