use Rattle.std.proofs.Common.{rules, sym, subst, ◌∙◌, true≢false, Contains}
use Rattle.block_validator.proofs.Comparing.{same_ticket, all_places, guards_differ}
use Rattle.block_validator.proofs.compare.first_difference.Goals as goal

pub returns-then-not-has_guards : goal.returns-then-not-has_guards
returns-then-not-has_guards c =
    guards_differ c.args.a.now c.args.b.now c.in_default.ensures.none (same_ticket _ _ c.if-ne.ensures) (same_ticket _ _ c.if-ne-2.ensures)
    (same_ticket _ _ c.if-ne-3.ensures) (search rules)
    (λ all. true≢false
    (sym (c.has_guards.ensures.1
    (λ g h. subst (λ l. Contains l g) (sym c.as_slice.ensures.value) (all g (subst (λ l. Contains l g) c.as_slice-2.ensures.value h))))
    ∙ c.if-not-has_guards.true))

pub returns : goal.returns
returns c =
    all_places c.args.a.now c.args.b.now c.in_default.ensures.none (same_ticket _ _ c.if-ne.ensures) (same_ticket _ _ c.if-ne-2.ensures)
    (same_ticket _ _ c.if-ne-3.ensures) (search rules)
    (λ g h. subst (λ l. Contains l g) c.as_slice.ensures.value
    (c.has_guards.ensures.0 c.if-not-has_guards.false g (subst (λ l. Contains l g) (sym c.as_slice-2.ensures.value) h)))
