use Rattle.std.proofs.Common.{refl}
use Rattle.c_types.proofs.Closing.{closed-main, closed-void, left-open}
use Rattle.c_types.proofs.program.close.Goals as goal

pub returns-then-main : goal.returns-then-main
returns-then-main c = closed-main _ _ _ c.args.main c.args.gives c.in_ok-push.ensures.items c.if-main.true refl

pub returns-in_ok-push-in-None : goal.returns-in_ok-push-in-None
returns-in_ok-push-in-None c = closed-void _ _ _ c.args.main c.args.gives c.in_ok-push-in-None.ensures.items c.if-main.false c.in-None.is refl

pub returns-in-Some : goal.returns-in-Some
returns-in-Some c = left-open _ c.args.main c.args.gives _ c.if-main.false c.in-Some.is
