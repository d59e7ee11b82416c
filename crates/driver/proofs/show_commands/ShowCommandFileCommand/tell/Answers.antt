use Rattle.std.proofs.Common.{All}
use Rattle.std.proofs.lemmas.List.Elements.{All-weaker}
use Rattle.text.specs.Shown.{IsShown, IsTold}
use Rattle.host.proofs.Shown.{shown_told}
use Rattle.host.proofs.Told.{line_on}
use Rattle.driver.specs.Stages.{stages_fault_text}
use Rattle.driver.proofs.show_commands.ShowCommandFileCommand.tell.Goals as goal

pub returns-clause-told : goal.returns-clause-told
returns-clause-told g c =
    let below = c.tell_page.ensures in
    line_on g.E.Complaints.tells _ _ _ (stages_fault_text c.args.of.now.found) c.tell-status.ensures.told
    (below.0, below.1, All-weaker (All IsShown) (All IsTold) shown_told below.0 below.2)
