-- What the ends of an image's run print, and their statuses.
use Rattle.std.specs.Prelude.{ℕ, List, ◌++◌, codes, decimal}
use Rattle.mips_isa.specs.Texts.{rule_text}
use Rattle.mips_code.specs.declared.steps.Ending.{Ending}
use Rattle.mips_code.specs.declared.steps.Ending.TheVariants as endings

-- the last line of an image's run, and its status
abbrev pub ending_text : Ending → List ℕ
ending_text (endings.Halt w) = codes "done " ++ decimal w
ending_text (endings.Stuck rule) = codes "stuck " ++ rule_text rule
ending_text endings.More = codes "more"

abbrev pub ending_status : Ending → ℕ
ending_status (endings.Halt w) = 0
ending_status (endings.Stuck rule) = 3
ending_status endings.More = 4
