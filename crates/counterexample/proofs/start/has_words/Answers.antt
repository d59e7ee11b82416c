use Rattle.std.proofs.Common.{◌/◌, ◌%◌}
use Rattle.mips_isa.proofs.StateWords.{byte_below}
use Rattle.counterexample.specs.Fillings.{filled_word}
use Rattle.counterexample.proofs.start.has_words.Goals as goal

pub returns : goal.returns
returns c = record {
  regs = c.are_words.ensures;
  hi = c.is_word.ensures;
  lo = c.is_word-2.ensures;
  memory = λ a. byte_below (filled_word c.args.start.now.filling (a / 4)) (a % 4);
}
