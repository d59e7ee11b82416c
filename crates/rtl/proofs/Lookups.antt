-- Whether a number is that of a function with so many parameters.
use Rattle.std.proofs.Common.{◌≡◌, ℕ, List, Some, None, false, sym, ◌∙◌, ap, nat_eq, arith}
use Rattle.std.specs.Prelude.{IsTrue, ◌↔◌}
use Rattle.std.specs.List.{slice_get}
use Rattle.std.proofs.lemmas.Option.{same_Some, none-some}
use Rattle.rtl.specs.declared.block.RFunc.{RFunc}
use Rattle.rtl.specs.Programs.{IsCallee}

pub callee-there : (fs : List RFunc) (f count : ℕ) (x : RFunc) → slice_get fs f ≡ Some x → IsTrue (nat_eq x.parameters count) ↔ IsCallee fs f count
callee-there fs f count x there = (
  λ t. record { callee = x; there = there; takes = grind (arith, t) },
  λ c.
      let same : c.callee ≡ x = same_Some c.callee x (sym c.there ∙ there) in
      let takes : x.parameters ≡ count = ap (λ (y : RFunc). y.parameters) (sym same) ∙ c.takes in
      grind (arith, takes),
)

pub callee-nowhere : (fs : List RFunc) (f count : ℕ) → slice_get fs f ≡ None → IsTrue false ↔ IsCallee fs f count
callee-nowhere fs f count nowhere = (λ t. cc, λ c. absurd (none-some c.callee (sym nowhere ∙ c.there)))
