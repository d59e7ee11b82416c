use Rattle.std.proofs.Common.{rules}
use Rattle.c_front.specs.Parsing.{StartsNoBytes}
use Rattle.c_front.proofs.cursor.starts_bytes.Goals as goal

pub returns-in_err-after-clause-none : goal.returns-in_err-after-clause-none
returns-in_err-after-clause-none c =
    let h : StartsNoBytes c.args.tokens.now = rw c.in_ok-rest.ensures.some (λ e. c.in_err-after.ensures.none) in search rules

pub returns-clause-some : goal.returns-clause-some
returns-clause-some c = cc (c.in_ok-rest.ensures.some, c.in_ok-after.ensures.some)
