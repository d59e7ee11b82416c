use Rattle.std.proofs.Common.{◌∷◌, [], refl, sym}
use Rattle.driver.proofs.remarks.tell_more.Goals as goal

pub returns-then-status-eq4 : goal.returns-then-status-eq4
returns-then-status-eq4 g c = rw (c.if-status-eq4.true, sym c.more_hint-hint.ensures) (_ ∷ [], (c.line.new.self, c.line.ensures, refl), refl)
