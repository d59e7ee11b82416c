use Rattle.std.proofs.Common.{◌++◌, ◌∷◌, [], ap, ◌∙◌, arith}
use Rattle.std.proofs.lemmas.Option.{slice_get_within}
use Rattle.mips_homes.specs.declared.homed.Home.TheVariants.{Reg}
use Rattle.mips_homes.proofs.Placing.{home_register, home_slot}
use Rattle.mips_homes.proofs.frames.homes_of.Goals as goal
use Rattle.mips_homes.proofs.frames.homes_of.Goals.{in-Some+in_ok-push-in-Some, in-None+in_ok-push-in-None}

pub loop-x-preserved : goal.loop-x-preserved
loop-x-preserved c = elim c.match-rank_of.branch [
  | in-Some+in_ok-push-in-Some w ↦ rw w.homes-is
      (rw w.slots-is
      (home_register c.args.best.now c.loop-x.x c.loop-x.slots w.in-Some.j c.loop-x.homes.items _
      (w.in_ok-push-in-Some.ensures.items ∙ ap (λ r. c.loop-x.homes.items ++ Reg r ∷ []) w.register.ensures)
      w.in-Some.ensures c.loop-x.invariant))
  | in-None+in_ok-push-in-None w ↦ rw w.homes-is
      (rw w.slots-is
      (home_slot c.args.best.now c.loop-x.x c.loop-x.slots c.loop-x.homes.items _ w.in_ok-push-in-None.ensures.items w.in-None.ensures c.loop-x.invariant))
]

pub register-requires-clause-range : goal.register-requires-clause-range
register-requires-clause-range c = omega (arith, slice_get_within c.args.best.now _ c.loop-x.x c.in-Some.ensures)

pub overflow_add-j : goal.overflow_add-j
overflow_add-j c = omega (arith, slice_get_within c.args.best.now _ c.loop-x.x c.in-Some.ensures)

pub overflow_cast-j : goal.overflow_cast-j
overflow_cast-j c = omega (arith, slice_get_within c.args.best.now _ c.loop-x.x c.in-Some.ensures)
