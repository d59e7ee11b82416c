use Rattle.std.proofs.Common.{◌≡◌, [], refl, arith, ap}
use Rattle.std.proofs.lemmas.List.{nil_from_length}
use Rattle.mblock.specs.Parts.{BlockParts, OrderParts}
use Rattle.block_text.specs.StageParts.{Done}
use Rattle.block_text.specs.Stages.{stage_parts}
use Rattle.block_text.proofs.Ends.{not_at_end}
use Rattle.block_text.proofs.Reading.{reading_step, fails_here, no_fail, is_done, ends_early}
use Rattle.block_text.proofs.reader.read.Goals as goal

pub returns-in-Ok-None-clause-only : goal.returns-in-Ok-None-clause-only
returns-in-Ok-None-clause-only c = λ b o s.
    absurd (no_fail c.args.text.now c.loop-rest.rest.now c.first_line-line.result.after.now c.first_line-line.result.before.now c.loop-rest.count
    (stage_parts c.loop-rest.place) b o
    c.loop-rest.invariant.reading c.first_line-line.ensures.line (rw c.in-Ok-None.field-0-is at c.in-Ok-None.ensures.leads) s)

pub returns-in-Ok-None-clause-fault : goal.returns-in-Ok-None-clause-fault
returns-in-Ok-None-clause-fault c = (
  c.loop-rest.count,
  refl,
  fails_here c.args.text.now c.loop-rest.rest.now c.first_line-line.result.after.now c.first_line-line.result.before.now c.loop-rest.count
      (stage_parts c.loop-rest.place)
      c.loop-rest.invariant.reading c.first_line-line.ensures.line (rw c.in-Ok-None.field-0-is at c.in-Ok-None.ensures.leads),
)

pub loop-rest-preserved : goal.loop-rest-preserved
loop-rest-preserved c = record {
  reading = reading_step c.args.text.now c.loop-rest.rest.now c.first_line-line.result.after.now c.first_line-line.result.before.now c.loop-rest.count
      (stage_parts c.loop-rest.place) (stage_parts c.in-Ok-Some.next)
      c.loop-rest.invariant.reading c.first_line-line.ensures.line (rw c.in-Ok-Some.field-0-is at c.in-Ok-Some.ensures.leads);
  fits = (rw c.in-Ok-Some.field-0-is at c.in-Ok-Some.ensures.fits);
  small = omega (arith, c.loop-rest.invariant.small, c.first_line-line.ensures.less);
}

pub returns-in-Done-clause-only : goal.returns-in-Done-clause-only
returns-in-Done-clause-only c = λ b o s.
    let empty : c.loop-rest.rest.now ≡ [] = nil_from_length c.loop-rest.rest.now (grind arith) in
    let reading = rw empty at c.loop-rest.invariant.reading in
    let at = is_done c.args.text.now c.loop-rest.count (stage_parts c.loop-rest.place) b o reading s in
    let here = ap stage_parts c.in-Done.is in
    (cc, cc)

pub returns : goal.returns
returns c =
    let empty : c.loop-rest.rest.now ≡ [] = nil_from_length c.loop-rest.rest.now (grind arith) in
    let reading = rw empty at c.loop-rest.invariant.reading in
    let not_done : (b : BlockParts) (o : OrderParts) → Done b o ≡ stage_parts c.loop-rest.place
    → ⊥ = λ b o e. not_at_end c.loop-rest.place b o c.in_default.not-Done e in
    record {
      found = tt;
      only = λ b o s. absurd (not_done b o (is_done c.args.text.now c.loop-rest.count (stage_parts c.loop-rest.place) b o reading s));
      fault = (c.loop-rest.count, refl, ends_early c.args.text.now c.loop-rest.count (stage_parts c.loop-rest.place) reading not_done);
    }
