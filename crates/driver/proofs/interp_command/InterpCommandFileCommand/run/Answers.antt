use Rattle.std.proofs.Common.{◌≡◌, ℕ, List, [], ◌∷◌, ◌++◌, refl, ap, subst, ◌∙◌}
use Rattle.std.proofs.KnownBytes.{Appends-trans}
use Rattle.runs.specs.Runs.{outcome, outcome_of}
use Rattle.runs.specs.Portions.{IsCount}
use Rattle.runs.specs.declared.ran.End.TheVariants.{More}
use Rattle.c_run.specs.Portions.{comes_to, state_of}
use Rattle.c_run.specs.declared.portions.UnderWay.{UnderWay}
use Rattle.c_types.specs.Shape.{program_of}
use Rattle.c_types.specs.Typed.{SpellsTyped}
use Rattle.c_typed.specs.Trees.{TypedProgram}
use Rattle.c_typed.specs.Meaning.{Run, source_run, source_start, source_steps}
use Rattle.command_line.specs.declared.command.Level.TheVariants as levels
use Rattle.driver.specs.Interps.{IsRun, IsStepCount}
use Rattle.driver.specs.Levels.{interpreting}
use Rattle.driver.specs.RunCommand.{words_in}
use Rattle.driver.specs.Texts.{end_status, end_text}
use Rattle.driver.proofs.run_command.Streamed.{cut_off}
use Rattle.driver.proofs.interp_command.InterpCommandFileCommand.run.Goals as goal

ran : (text : List ℕ) (depth steps : ℕ) (p : TypedProgram) → SpellsTyped text p → IsRun text depth steps (source_run p depth steps)
ran text depth steps p h = record { program = p; spelled = h; run = refl }

counted : (text : List ℕ) (depth steps count : ℕ) (p : TypedProgram) (m : UnderWay) → SpellsTyped text p → state_of m ≡ source_start p
    → program_of m.program.now ≡ p → m.depth ≡ depth → IsCount (comes_to m) More steps count → IsStepCount text depth steps count
counted text depth steps count p m spelled start program same h = (
  p,
  spelled,
  subst (λ (d : ℕ). IsCount (λ n. outcome (source_steps p d n (source_start p))) More steps count) same
      (subst (λ (q : TypedProgram). IsCount (λ n. outcome (source_steps q m.depth n (source_start p))) More steps count) program
      (subst (λ (s : Run). IsCount (λ n. outcome (source_steps (program_of m.program.now) m.depth n s)) More steps count) start h)),
)

pub returns-in-Err-stream-clause-broken : goal.returns-in-Err-stream-clause-broken
returns-in-Err-stream-clause-broken g c =
    let asked = c.args.self.now.asked in
    let p = program_of c.in-Ok.typed in
    let o = source_run p asked.depth asked.steps in
    -- the run of a program that just began is the program's
    let cut = rw (c.in-Ok-begin.ensures.start, c.in-Ok-begin.ensures.program, c.in-Ok-begin.ensures.depth) at c.in-Err-stream.ensures.cut in
    rw c.in-C.is (cut_off (interpreting levels.C asked.depth asked.steps asked.form asked.count) c.args.bytes.now o asked.form o.output
    (end_text o.end ++ 10 ∷ []) _ _ _ _ _ (ran c.args.bytes.now asked.depth asked.steps p c.in-Ok.ensures.typed) refl (λ _ is. is) (λ _ is. is) cut)

pub returns-in-Ok-put_end-clause-took : goal.returns-in-Ok-put_end-clause-took
returns-in-Ok-put_end-clause-took g c =
    let asked = c.args.self.now.asked in
    let p = program_of c.in-Ok.typed in
    let o = source_run p asked.depth asked.steps in
    let end = rw (c.in-Ok-begin.ensures.start, c.in-Ok-begin.ensures.program, c.in-Ok-begin.ensures.depth) at c.in-Ok-stream.ensures.end in
    let took = rw (c.in-Ok-begin.ensures.start, c.in-Ok-begin.ensures.program, c.in-Ok-begin.ensures.depth) at c.in-Ok-stream.ensures.took in
    rw c.in-C.is (record {
      answer = o;
      answered = ran c.args.bytes.now asked.depth asked.steps p c.in-Ok.ensures.typed;
      took = (
        words_in asked.form o.output ++ (end_text o.end ++ 10 ∷ []),
        Appends-trans _ _ _ (words_in asked.form o.output) (end_text o.end ++ 10 ∷ []) took (rw end at c.in-Ok-put_end.ensures.line),
        refl,
      );
      ends = c.end_status.ensures.status ∙ ap end_status end;
    })

pub returns-in-Ok-put_end-clause-knows : goal.returns-in-Ok-put_end-clause-knows
returns-in-Ok-put_end-clause-knows g c =
    rw c.in-C.is (counted _ _ _ _ (program_of c.in-Ok.typed) c.in-Ok-begin.running c.in-Ok.ensures.typed c.in-Ok-begin.ensures.start
    (ap program_of c.in-Ok-begin.ensures.program) c.in-Ok-begin.ensures.depth c.in-Ok-stream.ensures.count)

pub returns-in-C-clause-broken : goal.returns-in-C-clause-broken
returns-in-C-clause-broken g c =
    let asked = c.args.self.now.asked in
    let p = program_of c.in-Ok.typed in
    rw c.in-C.is (
      (source_run p asked.depth asked.steps, ran c.args.bytes.now asked.depth asked.steps p c.in-Ok.ensures.typed),
      refl,
      c.in-Err-put_end.ensures.refused,
    )

pub returns-in-Ok-print_run-clause-took : goal.returns-in-Ok-print_run-clause-took
returns-in-Ok-print_run-clause-took g c = rw c.in-Rtl.is (record {
  answer = outcome_of c.in-Ok-interp_rtl.ran;
  answered = c.in-Ok-interp_rtl.ensures.ran;
  took = (_, c.in-Ok-print_run.ensures.lines, refl);
  ends = c.end_status-in-Ok-print_run.ensures.status;
})

pub returns-in-Rtl-clause-broken : goal.returns-in-Rtl-clause-broken
returns-in-Rtl-clause-broken g c =
    rw c.in-Rtl.is ((outcome_of c.in-Ok-interp_rtl.ran, c.in-Ok-interp_rtl.ensures.ran), refl, c.in-Err-print_run.ensures.refused)

pub returns-in-Ok-print_run-2-clause-took : goal.returns-in-Ok-print_run-2-clause-took
returns-in-Ok-print_run-2-clause-took g c = rw c.in-Blocks.is (record {
  answer = outcome_of c.in-Ok-interp_blocks.ran;
  answered = c.in-Ok-interp_blocks.ensures.ran;
  took = (_, c.in-Ok-print_run-2.ensures.lines, refl);
  ends = c.end_status-in-Ok-print_run-2.ensures.status;
})

pub returns-clause-broken : goal.returns-clause-broken
returns-clause-broken g c = rw c.in-Blocks.is (
  (outcome_of c.in-Ok-interp_blocks.ran, c.in-Ok-interp_blocks.ensures.ran),
  refl,
  c.in-Err-print_run-2.ensures.refused,
)
