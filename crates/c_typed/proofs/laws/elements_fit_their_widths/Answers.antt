use Rattle.runs.proofs.Running.{is-kept}
use Rattle.c_typed.specs.Meaning.{source_step, source_start}
use Rattle.c_typed.specs.Laws.{RunFits}
use Rattle.c_typed.proofs.Fitting.{source-start-fits, source-step-fits, byte-read}
use Rattle.c_typed.proofs.laws.elements_fit_their_widths.Goals as goal

pub returns : goal.returns
returns c = record {
  run = λ p depth. is-kept (RunFits p.globals) (source_step p depth) (source_start p) (source-start-fits p) (source-step-fits p depth);
  read = byte-read;
}
