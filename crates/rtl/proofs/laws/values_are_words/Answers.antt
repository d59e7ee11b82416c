use Rattle.runs.proofs.Running.{is-kept}
use Rattle.rtl.specs.Meaning.{rtl_step, rtl_start}
use Rattle.rtl.specs.Laws.{RunHoldsWords}
use Rattle.rtl.proofs.Keeping.{start-words, step-words}
use Rattle.rtl.proofs.laws.values_are_words.Goals as goal

pub returns : goal.returns
returns c p depth = is-kept RunHoldsWords (rtl_step p depth) (rtl_start p) (start-words p) (step-words p depth)
