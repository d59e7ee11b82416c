use Rattle.std.proofs.Common.{◌≡◌, refl, sym, ap}
use Rattle.runs.specs.declared.ran.End.TheVariants.{Done, Wrong}
use Rattle.runs.specs.Runs.{Outcome}
use Rattle.runs.specs.Steps.{end_of}
use Rattle.runs.proofs.Running.{goes-on, ends}
use Rattle.c_types.specs.Shape.{program_of}
use Rattle.c_typed.specs.Meaning.{source_run}
use Rattle.c_run.proofs.Explained.{comes_to, by-one-step}
use Rattle.c_run.proofs.places.wrong_place_of.Goals as goal

pub loop-preserved : goal.loop-preserved
loop-preserved c =
    let p = program_of c.args.program.now in
    let m = c.loop.interpreter in
    let after = c.placed_step.new.interpreter in
    let r = c.in_ok-reached.reached in
    goes-on (comes_to p c.args.depth m) (comes_to p c.args.depth after) (source_run p c.args.depth c.args.steps) c.args.steps c.loop.counter r
    after.output.items c.loop-test.true c.loop.invariant (by-one-step p c.args.depth m after r c.in_ok-reached.ensures) (ap end_of c.in-Going.is)

pub returns-in-Failed : goal.returns-in-Failed
returns-in-Failed c =
    let p = program_of c.args.program.now in
    let m = c.loop.interpreter in
    let after = c.placed_step.new.interpreter in
    let r = c.in_ok-reached.reached in
    let whole = source_run p c.args.depth c.args.steps in
    let is : whole.end ≡ Wrong =
    sym (ap (λ (o : Outcome). o.end)
    (ends (comes_to p c.args.depth m) (comes_to p c.args.depth after) whole c.args.steps c.loop.counter r after.output.items Wrong c.loop-test.true
    c.loop.invariant (by-one-step p c.args.depth m after r c.in_ok-reached.ensures) (ap end_of c.in-Failed.is))) in
    record { wrong = (λ some. is, λ wrong. refl) }

pub returns-in-Ended : goal.returns-in-Ended
returns-in-Ended c =
    let p = program_of c.args.program.now in
    let m = c.loop.interpreter in
    let after = c.placed_step.new.interpreter in
    let r = c.in_ok-reached.reached in
    let whole = source_run p c.args.depth c.args.steps in
    let is : whole.end ≡ Done c.in-Ended.field-0 =
    sym (ap (λ (o : Outcome). o.end)
    (ends (comes_to p c.args.depth m) (comes_to p c.args.depth after) whole c.args.steps c.loop.counter r after.output.items
    (Done c.in-Ended.field-0) c.loop-test.true c.loop.invariant (by-one-step p c.args.depth m after r c.in_ok-reached.ensures)
    (ap end_of c.in-Ended.is))) in
    record { wrong = (λ some. cc, λ wrong. cc) }
