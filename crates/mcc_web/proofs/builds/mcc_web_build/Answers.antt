use Rattle.std.proofs.Common.{ℕ, List, refl, subst, ◌∙◌}
use Rattle.mcc_web.specs.Answers.{Gives}
use Rattle.mcc_web.proofs.builds.mcc_web_build.Goals as goal

pub returns-in-Ok-print_image-clause-answered : goal.returns-in-Ok-print_image-clause-answered
returns-in-Ok-print_image-clause-answered c = λ no_fault right_words not_refused. (
  refl,
  record {
    built = c.in-Ok.built;
    follows = c.in-Ok.ensures.follows;
    scheduled = c.in-Ok.ensures.scheduled;
    gives = subst (λ (t : List ℕ). Gives t c.put.result c.args.out.now c.put.new.out) (c.as_slice.ensures.value ∙ c.in-Ok-print_image.ensures)
        c.put.ensures;
  },
)
