use Rattle.std.proofs.Common.{All, [], ◌∷◌, refl}
use Rattle.std.proofs.lemmas.List.Elements.{All-cons, All-nil}
use Rattle.text.specs.Shown.{IsShown}
use Rattle.driver.proofs.remarks.tell_page.Goals as goal

pub returns-in-Some : goal.returns-in-Some
returns-in-Some g c =
    (_ ∷ [], (c.bytes-in-Some.new.self, c.bytes-in-Some.ensures, refl), All-cons (All IsShown) _ [] c.bytes.ensures.shown (All-nil (All IsShown)))
