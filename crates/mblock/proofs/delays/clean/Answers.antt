use Rattle.std.proofs.Common.{sym, ◌∙◌, subst, true≢false}
use Rattle.mblock.specs.Clean.{IsApart}
use Rattle.mblock.proofs.WordPlaces.{behind_along, quiet_along}
use Rattle.mblock.proofs.delays.clean.Goals as goal

pub returns-then-not-is_apart-clause-exact : goal.returns-then-not-is_apart-clause-exact
returns-then-not-is_apart-clause-exact c = λ apart.
    true≢false (sym (c.is_apart.ensures.1 (subst IsApart (sym c.insts-insts.ensures.value) apart)) ∙ c.if-not-is_apart.true)

pub returns-then-not-is_behind-clause-exact : goal.returns-then-not-is_behind-clause-exact
returns-then-not-is_behind-clause-exact c = (
  subst IsApart c.insts-insts.ensures.value (c.is_apart.ensures.0 c.if-not-is_apart.false),
  λ behind. true≢false
      (sym (c.is_behind.ensures.1 (behind_along _ _ _ _ (sym c.insts-insts.ensures.value) (sym c.slot-slot.ensures.value) behind)) ∙ c.if-not-is_behind.true),
)

pub returns-then-not-is_quiet_slot-clause-exact : goal.returns-then-not-is_quiet_slot-clause-exact
returns-then-not-is_quiet_slot-clause-exact c = (
  subst IsApart c.insts-insts.ensures.value (c.is_apart.ensures.0 c.if-not-is_apart.false),
  behind_along _ _ _ _ c.insts-insts.ensures.value c.slot-slot.ensures.value (c.is_behind.ensures.0 c.if-not-is_behind.false),
  λ quiet. true≢false (sym (c.is_quiet_slot.ensures.1 quiet) ∙ c.if-not-is_quiet_slot.true),
)

pub returns-then-not-is_quiet_end-clause-exact : goal.returns-then-not-is_quiet_end-clause-exact
returns-then-not-is_quiet_end-clause-exact c = (
  subst IsApart c.insts-insts.ensures.value (c.is_apart.ensures.0 c.if-not-is_apart.false),
  behind_along _ _ _ _ c.insts-insts.ensures.value c.slot-slot.ensures.value (c.is_behind.ensures.0 c.if-not-is_behind.false),
  c.is_quiet_slot.ensures.0 c.if-not-is_quiet_slot.false,
  λ quiet. true≢false
      (sym (c.is_quiet_end.ensures.1 (quiet_along _ _ _ _ (sym c.insts-insts.ensures.value) (sym c.exit-exit.ensures) quiet)) ∙ c.if-not-is_quiet_end.true),
)

pub returns-clause-exact : goal.returns-clause-exact
returns-clause-exact c = record {
  apart = subst IsApart c.insts-insts.ensures.value (c.is_apart.ensures.0 c.if-not-is_apart.false);
  behind = behind_along _ _ _ _ c.insts-insts.ensures.value c.slot-slot.ensures.value (c.is_behind.ensures.0 c.if-not-is_behind.false);
  slot = c.is_quiet_slot.ensures.0 c.if-not-is_quiet_slot.false;
  last = quiet_along _ _ _ _ c.insts-insts.ensures.value c.exit-exit.ensures (c.is_quiet_end.ensures.0 c.if-not-is_quiet_end.false);
}
