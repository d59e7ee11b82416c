use Rattle.std.proofs.Common.{rules}
use Rattle.c_front.specs.Texts.{IsBadByte, too_long, bad_byte}
use Rattle.c_front.proofs.text.unreadable.Goals as goal

pub returns-then-text-gt-MAX_TEXT-clause-some : goal.returns-then-text-gt-MAX_TEXT-clause-some
returns-then-text-gt-MAX_TEXT-clause-some c = too_long c.if-text-gt-MAX_TEXT.true

pub returns-then-not-is_text-clause-some : goal.returns-then-not-is_text-clause-some
returns-then-not-is_text-clause-some c =
    let bad : IsBadByte c.args.text.now c.loop-at.at = search rules in
    bad_byte c.if-text-gt-MAX_TEXT.false bad
