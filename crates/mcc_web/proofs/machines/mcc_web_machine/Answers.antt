use Rattle.mips_machine.specs.Views.{machine_of}
use Rattle.mcc_web.proofs.Views.{shows_of}
use Rattle.mcc_web.proofs.machines.mcc_web_machine.Goals as goal

pub returns-clause-shows : goal.returns-clause-shows
returns-clause-shows c = λ zero.
    shows_of c.in-Ok.image c.in-Ok-load.machine.code.words.now (machine_of c.in-Ok-load.machine) (machine_of c.advance.new.machine) c.args.image.now
    c.args.from c.args.most c.args.stop c.args.address c.in-Ok-advance.words c.view_of.result c.in-Ok.ensures.read.0 c.in-Ok.ensures.read.1
    c.in-Ok-load.ensures.start c.in-Ok-load.ensures.code c.view_of.ensures.words c.in-Ok-advance.ensures.ran c.in-Ok-advance.ensures.within
    c.in-Ok-advance.ensures.far c.in-Ok-advance.ensures.passed c.view_of.ensures.shows c.view_of.ensures.memory
