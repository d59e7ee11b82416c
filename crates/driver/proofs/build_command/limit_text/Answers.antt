use Rattle.std.proofs.Common.{codes, refl}
use Rattle.host.proofs.Shown.{literal}
use Rattle.driver.proofs.build_command.limit_text.Goals as goal

pub returns-in-Lowering : goal.returns-in-Lowering
returns-in-Lowering c =
    literal (codes "a function has more than 8000 values, or the program more than 1048575 branches and calls") refl

pub returns-in-Selection : goal.returns-in-Selection
returns-in-Selection c =
    literal (codes "a call takes more than 32000 bytes of stack, all calls of --depth more than 16777216, or the program has more than 1048576 blocks") refl

pub returns-in-Assembly : goal.returns-in-Assembly
returns-in-Assembly c = literal (codes "a function has more than 32000 words of code, or the program more than 1048576") refl
