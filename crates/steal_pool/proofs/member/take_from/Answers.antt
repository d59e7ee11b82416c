use Rattle.std.proofs.Common.{rules, below_more, subst, arith, ◌<◌, length, get_or, length-set, map, sym, ◌∙◌}
use Rattle.std.proofs.Math.ListN.{get_or-map}
use Rattle.std.proofs.lemmas.List.Elements.{All-get_or, All-set, All-map}
use Rattle.std.proofs.lemmas.Option.{get_or_from_slice_get}
use Rattle.crossbeam_deque.specs.Handles.{view, stealer_deque}
use Rattle.steal_pool.specs.declared.view.View.{View}
use Rattle.steal_pool.specs.declared.victim.Victim.{Victim}
use Rattle.steal_pool.specs.Victims.{IsVictim}
use Rattle.steal_pool.proofs.Turns.{kept, moved, found, seen}
use Rattle.steal_pool.proofs.member.take_from.Goals as goal

pub take-requires-clause-victim : goal.take-requires-clause-victim
take-requires-clause-victim g c =
    let x = c.index_mut-victim.result.now in
    let within : c.loop-k.k < length c.loop-k.victims.items = search rules in
    subst IsVictim (sym c.index_mut-victim.ensures.value) (All-get_or IsVictim c.loop-k.victims.items c.loop-k.k x within c.loop-k.invariant.0)

pub returns-in-Some-clause-same : goal.returns-in-Some-clause-same
returns-in-Some-clause-same g c =
    kept (λ (l : Victim g.row.K.Denot). stealer_deque l.stealer) c.loop-k.victims.items c.args.victims.now.items c.loop-k.k c.index_mut-victim.result.now c.index_mut-victim.ensures.value
    c.loop-k.invariant.2 c.take.new.self c.take.ensures.same

pub returns-in-Some-clause-taken : goal.returns-in-Some-clause-taken
returns-in-Some-clause-taken g c =
    let f : Victim g.row.K.Denot → View = λ l. view l.pass in
    let x = c.index_mut-victim.result.now in let xs = c.loop-k.victims.items in let zs = c.args.victims.now.items in let is = c.index_mut-victim.ensures.value in
    let within : c.loop-k.k < length xs = search rules in
    let e = c.loop-k.invariant.3 in (
      c.loop-k.k,
      f x,
      found f xs zs c.loop-k.k x is e within,
      moved f xs zs c.loop-k.k x is e c.take.new.self _ c.in-Some.ensures.taken,
      λ j u low at. subst g.N.Note.empty (sym (get_or-map f zs j x) ∙ get_or_from_slice_get (map f zs) j u (f x) at) (c.loop-k.invariant.4 j x low),
    )

pub loop-k-preserved : goal.loop-k-preserved
loop-k-preserved g c =
    let f : Victim g.row.K.Denot → View = λ l. view l.pass in
    let d : Victim g.row.K.Denot → _ = λ l. stealer_deque l.stealer in
    let x = c.index_mut-victim.result.now in let xs = c.loop-k.victims.items in let zs = c.args.victims.now.items in let is = c.index_mut-victim.ensures.value in
    let within : c.loop-k.k < length xs = search rules in
    let was = c.loop-k.invariant in
    let there : c.loop-k.k < length zs = omega (arith, within, was.1) in
    let told = c.in_default.ensures.taken in (
      All-set IsVictim xs c.loop-k.k c.take.new.self c.take.ensures.victim was.0,
      length-set xs c.loop-k.k c.take.new.self ∙ was.1,
      kept d xs zs c.loop-k.k x is was.2 c.take.new.self c.take.ensures.same,
      kept f xs zs c.loop-k.k x is was.3 c.take.new.self told.0,
      λ j o below.
          below_more (λ i. g.N.Note.empty (f (get_or zs i o))) c.loop-k.k (λ i low. was.4 i o low)
          (subst g.N.Note.empty (seen f xs zs c.loop-k.k x is was.3 o within there) told.1) j (omega arith),
    )

pub returns-clause-taken : goal.returns-clause-taken
returns-clause-taken g c =
    let f : Victim g.row.K.Denot → View = λ l. view l.pass in
    let was = c.loop-k.invariant in
    (was.3, All-map g.N.Note.empty f c.args.victims.now.items (λ j d low. was.4 j d (search rules)))
