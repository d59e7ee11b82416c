-- The answers to a check text.
use Rattle.std.specs.Prelude.{◌≡◌, ◌<◌, ◌≤◌, ◌^◌, ℕ, ◌+◌, List, length}
use Rattle.mblock.specs.Parts.{BlockParts, OrderParts}
use Rattle.block_text.specs.Lines.{lines_of}
use Rattle.block_text.specs.Whole.{FailsAt, SpellsPair}
use Rattle.mblock.specs.Clean.{IsClean}
use Rattle.sym_exec.specs.Growth.{block_growth, order_growth}
use Rattle.block_validator.specs.Verdicts.{Decides, same, unclean, differs}
use Rattle.driver.specs.declared.verdicts.CheckAnswer.{CheckAnswer}
use Rattle.driver.specs.declared.verdicts.CheckAnswer.TheVariants as answers
use Rattle.driver.specs.declared.verdicts.CheckFault.{CheckFault}
use Rattle.driver.specs.declared.verdicts.CheckFault.TheVariants as faults

-- what is decided of the order; a full table is no verdict, and comes only on a clean order that may make too many terms with its block
abbrev pub IsAnswer : BlockParts → OrderParts → CheckAnswer → Type 0
IsAnswer b o (answers.Unclean rule) = Decides b o (unclean rule)
IsAnswer b o (answers.Differs place) = Decides b o (differs place)
IsAnswer b o answers.Same = Decides b o same
IsAnswer b o answers.Full = IsClean o × (16384 ≤ block_growth b + order_growth o)

-- the size is tested first; else the first line that can't stand
abbrev pub IsCheckFault : List ℕ → CheckFault → Type 0
IsCheckFault text faults.Size = 2 ^ 20 < length text
IsCheckFault text (faults.Line n) = (length text ≤ 2 ^ 20) × ((k : ℕ) × (n ≡ k + 1) × FailsAt (lines_of text) k)
IsCheckFault text faults.NoMemory = length text ≤ 2 ^ 20

-- the answer to a text: it spells a block and an order, on which this is the verdict
pub record IsAnswerTo (text : List ℕ) (answer : CheckAnswer) : Type 0 where
  pub small : length text ≤ 2 ^ 20
  pub block : BlockParts
  pub order : OrderParts
  pub spelled : SpellsPair (lines_of text) block order
  pub decided : IsAnswer block order answer
