use Rattle.std.proofs.Common.{Contains, sym, subst, true≢false, ⊎_elim}
use Rattle.std.proofs.lemmas.List.Elements.{Contains-append_cases}
use Rattle.block_validator.proofs.compare.has_guards.Goals as goal

pub returns-then-not-has_guard-2 : goal.returns-then-not-has_guard-2
returns-then-not-has_guard-2 c =
    let guard = c.index-b-k.result in
    let parts = c.split_at.ensures.by_index.0 in (
      λ no. absurd (true≢false (sym no)),
      λ all. ⊎_elim c.if-not-has_guard-2.ensures.1 c.if-not-has_guard.ensures.1
          (Contains-append_cases _ _ guard (subst (λ l. Contains l guard) parts (all guard (c.loop-k.k, c.loop-k-test.true, sym c.index-b-k.is)))),
    )
