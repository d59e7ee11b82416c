use Rattle.std.proofs.Common.{◌≡◌, ◌∷◌, [], ap, refl, map, Some, arith}
use Rattle.steal_pool.proofs.Steps.{takes}
use Rattle.steal_pool.proofs.Turns.{after_own}
use Rattle.crossbeam_deque.specs.Handles.{worker_deque, worker_view, view, stealer_deque}
use Rattle.steal_pool.specs.declared.victim.Victim.{Victim}
use Rattle.steal_pool.specs.Rule.{after_taking}
use Rattle.steal_pool.specs.Victims.{TookOne}
use Rattle.steal_pool.specs.declared.member.Member.{Member}
use Rattle.steal_pool.specs.Members.{deques_of, views_of}
use Rattle.steal_pool.proofs.Rounds.{told}
use Rattle.steal_pool.proofs.member.Member.take.Goals as goal

pub pop_as-requires-clause-fifo : goal.pop_as-requires-clause-fifo
pop_as-requires-clause-fifo g c _ = takes g.K.Fact.real c.requires.keeps _ _ 1

pub returns-in-Some-clause-round : goal.returns-in-Some-clause-round
returns-in-Some-clause-round g c n deques w round =
    let M = Member g.row.K.Denot in
    let old : M = c.args.self.now in
    let new : M = record { own = c.pop_as.new.self; others = c.args.self.now.others } in
    let own : worker_deque new.own ≡ worker_deque old.own = c.in-Some.ensures.same.0.0 in
    let same : deques_of new ≡ deques_of old = ap (λ d. d ∷ map (λ (l : Victim g.row.K.Denot). stealer_deque l.stealer) old.others.items) own in
    let moved : worker_view new.own ≡ after_taking (worker_view old.own) (c.in-Some.i ∷ []) = c.in-Some.ensures.rule in
    let took : TookOne g.N.Note.empty c.in-Some.i (views_of old) (views_of new) =
    (0, worker_view old.own, refl, ap (λ v. v ∷ map (λ (l : Victim g.row.K.Denot). view l.pass) old.others.items) moved, λ j u low. absurd (omega (arith, low))) in
    told g.N.Note.empty (Some c.in-Some.i) n deques w old new same took round

pub returns-clause-taken : goal.returns-clause-taken
returns-clause-taken g c = let own = c.in_default.ensures.rule in after_own g.N.Note.empty _ _ _ _ _ own.0 own.1 c.take_from.ensures.taken

pub returns-clause-round : goal.returns-clause-round
returns-clause-round g c n deques w round =
    let M = Member g.row.K.Denot in
    let old : M = c.args.self.now in
    let new : M = record { own = c.pop_as.new.self; others = c.take_from.new.victims } in
    let own : worker_deque new.own ≡ worker_deque old.own = c.in_default.ensures.same.0.0 in
    let same : deques_of new ≡ deques_of old = cc (own, c.take_from.ensures.same) in
    told g.N.Note.empty c.take_from.result n deques w old new same (returns-clause-taken g c) round
