use Rattle.std.proofs.Common.{take}
use Rattle.std.specs.Io.KnownBytes.{Appends}
use Rattle.driver.specs.RunCommand.{words_in}
use Rattle.driver.proofs.portions.put_words.Given as goal

abbrev pub invariant-loop-word : goal.invariant-loop-word
invariant-loop-word g l =
    Appends (g.W.Write.contents l.fn.out) (g.W.Write.contents l.out) (words_in l.form (take l.word-index l.words))
