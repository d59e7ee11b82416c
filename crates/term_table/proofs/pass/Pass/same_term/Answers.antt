use Rattle.std.proofs.Common.{rules}
use Rattle.term_table.proofs.TermCallers.{same_terms}
use Rattle.term_table.proofs.pass.Pass.same_term.Goals as goal

pub returns-clause-same : goal.returns-clause-same
returns-clause-same g c = λ x y h k. let both =
    same_terms {c = g.L.Label.coding} {p = c.args.self.now} {t = c.args.first} {u = c.args.second} {x = x} {y =
    y} g.met.L.Label.back c.linked.ensures.legal h k in (
      (λ yes. both.0 (Prim.search (rules, yes))),
      (λ same. Prim.search (rules, both.1 same)),
    )
