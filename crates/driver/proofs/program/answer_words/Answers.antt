use Rattle.std.proofs.Common.{[], refl, inl, arith}
use Rattle.command_line.specs.declared.command.Command.TheVariants.{Build}
use Rattle.host.proofs.Asked.{ran_stopped}
use Rattle.driver.proofs.Lifted.{of_answer, of_command, of_error, of_files}
use Rattle.driver.specs.Texts.{no_choice_text}
use Rattle.driver.proofs.program.answer_words.Goals as goal

pub returns-in-Ok-Check-clause-ran : goal.returns-in-Ok-Check-clause-ran
returns-in-Ok-Check-clause-ran g c =
    of_answer c.in-Ok-Check.field-0-is c.in-Ok-Check.ensures.command c.in-Ok-Check.ensures.kinds
    c.answer_file.ensures.most c.answer_file.ensures.not_wrong_words c.answer_file.ensures.ran.ran

pub returns-in-Ok-CheckEach-clause-ran : goal.returns-in-Ok-CheckEach-clause-ran
returns-in-Ok-CheckEach-clause-ran g c =
    of_files c.in-Ok-CheckEach.field-0-is c.in-Ok-CheckEach.ensures.command c.in-Ok-CheckEach.ensures.kinds
    (omega (arith, c.check_files.ensures.possible.0)) c.check_files.ensures.possible.1
    (rw c.as_slice.ensures.value at c.check_files.ensures.each)

pub returns-in-Ok-Interp-clause-ran : goal.returns-in-Ok-Interp-clause-ran
returns-in-Ok-Interp-clause-ran g c =
    of_answer c.in-Ok-Interp.field-0-is c.in-Ok-Interp.ensures.command c.in-Ok-Interp.ensures.kinds
    c.answer_file-in-Ok-Interp.ensures.most c.answer_file-in-Ok-Interp.ensures.not_wrong_words c.answer_file-in-Ok-Interp.ensures.ran.ran

pub returns-in-Ok-Build-clause-ran : goal.returns-in-Ok-Build-clause-ran
returns-in-Ok-Build-clause-ran g c =
    let entered = rw c.in-Ok-Build.field-0-is at c.in-Ok-Build.ensures.command in
    of_command (Build c.in-Ok-Build.asked) entered c.in-Ok-Build.ensures.kinds (omega (arith, c.build_file.ensures.most))
    (λ two.
    let refused = c.build_file.ensures.refused two in
    (refused.1, refused.2, (c.in-Ok-Build.asked, entered, refused.0)))
    c.build_file.ensures.ran.ran

pub returns-in-Ok-Run-clause-ran : goal.returns-in-Ok-Run-clause-ran
returns-in-Ok-Run-clause-ran g c =
    of_answer c.in-Ok-Run.field-0-is c.in-Ok-Run.ensures.command c.in-Ok-Run.ensures.kinds
    c.answer_file-in-Ok-Run.ensures.most c.answer_file-in-Ok-Run.ensures.not_wrong_words c.answer_file-in-Ok-Run.ensures.ran.ran

pub returns-in-Ok-List-clause-ran : goal.returns-in-Ok-List-clause-ran
returns-in-Ok-List-clause-ran g c =
    of_answer c.in-Ok-List.field-0-is c.in-Ok-List.ensures.command c.in-Ok-List.ensures.kinds
    c.answer_file-in-Ok-List.ensures.most c.answer_file-in-Ok-List.ensures.not_wrong_words c.answer_file-in-Ok-List.ensures.ran.ran

pub returns-in-Ok-Show-clause-ran : goal.returns-in-Ok-Show-clause-ran
returns-in-Ok-Show-clause-ran g c =
    let answer = c.answer_file-in-Ok-Show.ensures in
    of_answer c.in-Ok-Show.field-0-is c.in-Ok-Show.ensures.command c.in-Ok-Show.ensures.kinds
    answer.most answer.not_wrong_words answer.ran.ran

pub returns-in-Ok-NoChoice-clause-ran : goal.returns-in-Ok-NoChoice-clause-ran
returns-in-Ok-NoChoice-clause-ran g c =
    let one = c.tell_choice.ensures.status in
    of_answer c.in-Ok-NoChoice.field-0-is c.in-Ok-NoChoice.ensures.command c.in-Ok-NoChoice.ensures.kinds
    (omega arith) (λ two. omega arith)
    (ran_stopped _ _ _ _ _ one
    (inl (record { requests = []; text = no_choice_text; asked = refl; told = c.tell_choice.ensures.told; means = (refl, refl, refl) })))

pub returns-in-Err-clause-ran : goal.returns-in-Err-clause-ran
returns-in-Err-clause-ran g c =
    let told = c.tell_words.ensures in
    of_error c.in-Err.error c.in-Err.ensures.kinds c.in-Err.ensures.refused told.most refl told.help told.sent told.wrong told.refused told.told
