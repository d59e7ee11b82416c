use Rattle.std.proofs.Common.{◌≤◌, ◌^◌, ℕ, List, length, refl, inl, inr}
use Rattle.mblock.specs.Parts.{BlockParts, OrderParts}
use Rattle.block_text.specs.Lines.{lines_of}
use Rattle.block_text.specs.Whole.{SpellsPair}
use Rattle.driver.specs.Checks.{IsAnswer, IsAnswerTo}
use Rattle.driver.specs.declared.verdicts.CheckAnswer.{CheckAnswer}
use Rattle.driver.proofs.check_command.CheckCommandFileCommand.run.Goals as goal

-- the answer to a text that spells a pair is the pair's
answered : (text : List ℕ) (answer : CheckAnswer)
    → (length text ≤ 2 ^ 20) × (b : BlockParts) × (o : OrderParts) × SpellsPair (lines_of text) b o
    → (length text ≤ 2 ^ 20 → (b : BlockParts) (o : OrderParts) → SpellsPair (lines_of text) b o → IsAnswer b o answer) → IsAnswerTo text answer
answered text answer spelled decided =
    record { small = spelled.0; block = spelled.1; order = spelled.2; spelled = spelled.3; decided = decided spelled.0 spelled.1 spelled.2 spelled.3 }

pub returns-in_default-clause-broken : goal.returns-in_default-clause-broken
returns-in_default-clause-broken g c = (
  (c.in-Ok.answer, answered c.args.bytes.now c.in-Ok.answer c.in-Ok.ensures.spelled c.in-Ok.ensures.answer),
  inr (c.in_default.ensures.refused, refl),
  refl,
)

pub returns-in-Ok-print-clause-took : goal.returns-in-Ok-print-clause-took
returns-in-Ok-print-clause-took g c = record {
  answer = c.in-Ok.answer;
  answered = answered c.args.bytes.now c.in-Ok.answer c.in-Ok.ensures.spelled c.in-Ok.ensures.answer;
  took = (_, c.in-Ok-print.ensures.lines, (_, refl, c.in-Ok-more_of.ensures.more));
  ends = c.status_of.ensures.status;
}

pub returns-clause-broken : goal.returns-clause-broken
returns-clause-broken g c = (
  (c.in-Ok.answer, answered c.args.bytes.now c.in-Ok.answer c.in-Ok.ensures.spelled c.in-Ok.ensures.answer),
  inl refl,
  c.in-Err-print.ensures.refused,
)
