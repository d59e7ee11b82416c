use Rattle.runs.proofs.Running.{is-kept}
use Rattle.c_typed.specs.Meaning.{source_step, source_start}
use Rattle.c_typed.specs.Laws.{RunHoldsWords}
use Rattle.c_typed.proofs.Values.{value-word}
use Rattle.c_typed.proofs.Keeping.{source-start-words, source-step-words}
use Rattle.c_typed.proofs.laws.values_are_words.Goals as goal

pub returns : goal.returns
returns c = record {
  value = λ e l g v h k is. value-word e l g h k v is;
  run = λ p depth. is-kept RunHoldsWords (source_step p depth) (source_start p) (source-start-words p) (source-step-words p depth);
}
