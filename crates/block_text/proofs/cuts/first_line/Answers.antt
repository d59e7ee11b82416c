use Rattle.std.proofs.Common.{◌∙◌, ap}
use Rattle.block_text.specs.Lines.{lines_of}
use Rattle.block_text.proofs.Marks.{lines_cut, lines_whole}
use Rattle.block_text.proofs.cuts.first_line.Goals as goal

pub returns-in-Some-clause-line : goal.returns-in-Some-clause-line
returns-in-Some-clause-line c =
    ap lines_of c.in-Some.ensures.found ∙ lines_cut c.in-Some.halves.before.now c.in-Some.halves.after.now c.in-Some.ensures.first

pub returns-in-None-clause-line : goal.returns-in-None-clause-line
returns-in-None-clause-line c = lines_whole c.args.text.now c.in-None.ensures.none c.requires
