use Rattle.std.proofs.Common.{rules, ◌≡◌, ◌++◌, ◌∷◌, [], sym, ap, subst, length, length-append, arith}
use Rattle.std.proofs.lemmas.List.Elements.{All-rest, All-push, All-same}
use Rattle.term_table.specs.Passes.{PassState, IsOf}
use Rattle.sym_exec.specs.Starts.{IsStart}
use Rattle.sched_phase.proofs.terms.tell_starts.Goals as goal

pub loop-pass-preserved : goal.loop-pass-preserved
loop-pass-preserved c =
    let P : PassState → Type 0 = IsOf c.args.table.now in
    let K : PassState → Type 0 = λ p. P p × IsStart p c.in-Ok.start in
    let S : PassState → Type 0 = λ p. IsStart p c.in-Ok.start in
    let was = c.loop-pass.invariant in
    let h = c.in-Some-pass.ensures.steps in
    let told = c.tell_start.ensures in
    let is : c.push-in-loop-pass.new.self.items ≡ c.loop-pass.told.items ++ c.tell_start.new.pass ∷ [] = search rules in
    record {
      left = All-rest P _ _ _ h.0 was.left;
      first = subst P (sym told.same) was.first;
      start = subst S (sym told.same) was.start;
      told = All-same K _ _ is (All-push K _ c.tell_start.new.pass was.told (told.table, told.start));
      count = omega (arith, was.count, ap length h.0, ap length is, length-append c.loop-pass.told.items (c.tell_start.new.pass ∷ []));
    }

pub returns-clause-know : goal.returns-clause-know
returns-clause-know c =
    let K : PassState → Type 0 = λ p. IsOf c.args.table.now p × IsStart p c.in-Ok.start in
    let was = c.loop-pass.invariant in
    let is : c.push-2.new.self.items ≡ c.loop-pass.told.items ++ c.loop-pass.first ∷ [] = search rules in
    All-same K _ _ is (All-push K _ c.loop-pass.first was.told (was.first, was.start))
