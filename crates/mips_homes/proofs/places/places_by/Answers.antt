use Rattle.std.proofs.Common.{sym, ap, ◌∙◌, ◌++◌}
use Rattle.std.proofs.lemmas.List.{append-nil, at_drop_all}
use Rattle.mips_homes.specs.Locals.{is_local}
use Rattle.mips_homes.specs.Preferences.{preference}
use Rattle.mips_homes.specs.Places.{home_or, places_from}
use Rattle.mips_homes.proofs.Placing.{places_step}
use Rattle.mips_homes.proofs.places.places_by.Goals as goal

pub loop-x-init : goal.loop-x-init
loop-x-init c bs local reach = rw (c.new-out.ensures.items, c.new-taken.ensures.items)

pub loop-x-preserved : goal.loop-x-preserved
loop-x-preserved c bs local reach =
    let x = c.loop-x.x in
    let preferred = c.preference-preference.ensures bs (c.reach_of.ensures ∙ reach x) in
    places_step (is_local bs) (preference c.args.parameters bs) x c.loop-x.taken.items _ c.args.homes.now c.loop-x.out.items _ _ _ _
    c.register_for-register.result
    c.loop-x-test.true
    (rw (c.is_local.ensures ∙ local x, c.as_slice.ensures.value, preferred) at c.register_for-register.ensures)
    c.in_ok-take.ensures (c.home_or.ensures ∙ ap (home_or c.register_for-register.result) c.index-homes-x.is) c.in_ok-push.ensures.items (c.loop-x.invariant bs local reach)

pub returns : goal.returns
returns c bs local reach =
    let all = places_from (is_local bs) (preference c.args.parameters bs) c.loop-x.x c.loop-x.taken.items in
    sym (ap (λ l. c.loop-x.out.items ++ l) (at_drop_all all c.args.homes.now c.loop-x.x c.loop-x-test.false) ∙ append-nil
    c.loop-x.out.items)
    ∙ c.loop-x.invariant bs local reach
