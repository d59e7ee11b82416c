use Rattle.std.proofs.Common.{◌∙◌, refl, sym, rules}
use Rattle.sym_exec.proofs.Tickets.{still_seen, still_tree, goes_more, address-base, address-sum, address-none}
use Rattle.sym_exec.proofs.address.address_at.Goals as goal

pub returns-in_default-clause-seen : goal.returns-in_default-clause-seen
returns-in_default-clause-seen c = still_seen c.summands.ensures.pass.later.extends c.args.ticket c.requires

pub returns-in_default-clause-tree : goal.returns-in_default-clause-tree
returns-in_default-clause-tree c = λ x h. address-base c.summands.ensures.pass.later h (c.in_default.ensures.none x h)

pub returns-in-Some-constant_at : goal.returns-in-Some-constant_at
returns-in-Some-constant_at c = let last = c.constant_at.ensures.pass in record {
  legal = last.later.legal c.summands.ensures.legal;
  seen = still_seen last.later.extends _ c.in-Some.ensures.seen.0;
  tree = λ x h.
      let s = c.in-Some.ensures.some x h in
      let is = sym (c.constant_at.ensures.value s.b s.has_right) ∙ c.in-Some-constant_at.is in
      rw (address-sum s c.in-Some-constant_at.offset (search rules) is) (record { base = still_tree last.later.extends s.has_left; offset = refl });
  pass = goes_more c.summands.ensures.pass last;
  stays = search rules;
}

pub returns-in-None : goal.returns-in-None
returns-in-None c = let both = goes_more c.summands.ensures.pass c.constant_at.ensures.pass in record {
  legal = c.constant_at.ensures.pass.later.legal c.summands.ensures.legal;
  seen = still_seen both.later.extends c.args.ticket c.requires;
  tree = λ x h.
      let s = c.in-Some.ensures.some x h in
      address-base both.later h (address-none s (sym (c.constant_at.ensures.value s.b s.has_right) ∙ c.in-None.is));
  pass = both;
  stays = search rules;
}
