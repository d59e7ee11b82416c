use Rattle.std.proofs.Common.{◌≡◌, ℕ, List, [], ◌∷◌, ◌++◌, refl, ap, ◌∙◌}
use Rattle.image.specs.Images.{ImageParts, IsImage, image_bytes}
use Rattle.mips_machine.specs.ImageRuns.{image_run}
use Rattle.driver.specs.RunCommand.{running, words_in}
use Rattle.driver.specs.ImageRuns.{IsImageRun}
use Rattle.driver.specs.RunTexts.{ending_status, ending_text}
use Rattle.std.proofs.KnownBytes.{Appends-trans}
use Rattle.driver.proofs.run_command.Streamed.{cut_off}
use Rattle.driver.proofs.run_command.RunCommandFileCommand.run.Goals as goal

ran : (bytes : List ℕ) (steps : ℕ) (i : ImageParts) → IsImage i × (image_bytes i ≡ bytes) → IsImageRun bytes steps (image_run i steps)
ran bytes steps i h = record { image = i; fits = h.0; written = h.1; run = refl }

pub returns-in-Err-stream-clause-broken : goal.returns-in-Err-stream-clause-broken
returns-in-Err-stream-clause-broken g c =
    let asked = c.args.self.now.asked in
    let o = image_run c.in-Ok.image asked.steps in
    -- the run of a machine that was just loaded is the image's
    let cut = rw (c.in-Ok-load.ensures.start, c.in-Ok-load.ensures.code) at c.in-Err-stream.ensures.cut in
    cut_off (running asked.steps asked.form asked.count) c.args.bytes.now o asked.form o.output (ending_text o.end ++ 10 ∷ []) _ _ _ _ _
    (ran c.args.bytes.now asked.steps c.in-Ok.image c.in-Ok.ensures.read) refl (λ _ is. is) (λ _ is. is) cut

pub returns-in-Ok-put_end-clause-took : goal.returns-in-Ok-put_end-clause-took
returns-in-Ok-put_end-clause-took g c =
    let asked = c.args.self.now.asked in
    let o = image_run c.in-Ok.image asked.steps in
    let end = rw (c.in-Ok-load.ensures.start, c.in-Ok-load.ensures.code) at c.in-Ok-stream.ensures.end in
    let took = rw (c.in-Ok-load.ensures.start, c.in-Ok-load.ensures.code) at c.in-Ok-stream.ensures.took in
    record {
      answer = o;
      answered = ran c.args.bytes.now asked.steps c.in-Ok.image c.in-Ok.ensures.read;
      took = (
        words_in asked.form o.output ++ (ending_text o.end ++ 10 ∷ []),
        Appends-trans _ _ _ (words_in asked.form o.output) (ending_text o.end ++ 10 ∷ []) took (rw end at c.in-Ok-put_end.ensures.line),
        refl,
      );
      ends = c.ending_status.ensures.status ∙ ap ending_status end;
    }

pub returns-clause-broken : goal.returns-clause-broken
returns-clause-broken g c =
    let asked = c.args.self.now.asked in
    ((image_run c.in-Ok.image asked.steps, ran c.args.bytes.now asked.steps c.in-Ok.image c.in-Ok.ensures.read), refl, c.in-Err-put_end.ensures.refused)
