use Rattle.std.proofs.Common.{arith, length-drop, length, ap, ◌∙◌}
use Rattle.c_tokens.proofs.Going.{goes-behind, goes-end, goes-skip, goes-take, goes-big, goes-stop, left-after}
use Rattle.c_tokens.proofs.lexer.tokens.Goals as goal

pub returns-in-Done-clause-ok : goal.returns-in-Done-clause-ok
returns-in-Done-clause-ok c = goes-end _ _ _ _ _
    (goes-behind _ _ _ _ _ _ c.lexemes.invariant.going c.after_blanks-place.ensures.same c.after.ensures) c.in-Done.ensures.found

pub lexemes-preserved-in-Skip : goal.lexemes-preserved-in-Skip
lexemes-preserved-in-Skip c =
    let front = ap length c.after.ensures ∙ length-drop c.after_blanks-place.result c.args.text.now in
    record {
      going = goes-skip _ _ _ _ _ _ _
          (goes-behind _ _ _ _ _ _ c.lexemes.invariant.going c.after_blanks-place.ensures.same c.after.ensures) c.in-Skip.ensures.found
          c.in-Skip.ensures.fits.1 (left-after _ _ _ _ c.after.ensures);
      within = omega (arith, front, c.in-Skip.ensures.fits.0, c.in-Skip.ensures.fits.1);
      room = omega (arith, c.lexemes.invariant.room, c.after_blanks-place.ensures.same);
    }

pub returns-in-None-clause-err : goal.returns-in-None-clause-err
returns-in-None-clause-err c = goes-big _ _ _ _ _ _ _
    (goes-behind _ _ _ _ _ _ c.lexemes.invariant.going c.after_blanks-place.ensures.same c.after.ensures) c.in-Take.ensures.found c.in-None.ensures.none

pub lexemes-preserved : goal.lexemes-preserved
lexemes-preserved c =
    let front = ap length c.after.ensures ∙ length-drop c.after_blanks-place.result c.args.text.now in
    record {
      going = goes-take _ _ _ _ _ _ _ _ _ _
          (goes-behind _ _ _ _ _ _ c.lexemes.invariant.going c.after_blanks-place.ensures.same c.after.ensures) c.in-Take.ensures.found
          c.in-Take.ensures.fits.1 c.in-Some.ensures.some (left-after _ _ _ _ c.after.ensures) c.push_reserved.ensures.items;
      within = omega (arith, front, c.in-Take.ensures.fits.0, c.in-Take.ensures.fits.1);
      room = omega (
        arith,
        front,
        c.lexemes.invariant.room,
        c.after_blanks-place.ensures.same,
        c.in-Take.ensures.fits.0,
        c.in-Take.ensures.fits.1,
        c.push_reserved.ensures.len,
        c.push_reserved.ensures.capacity,
      );
    }

pub push_reserved-requires : goal.push_reserved-requires
push_reserved-requires c =
    let front = ap length c.after.ensures ∙ length-drop c.after_blanks-place.result c.args.text.now in
    omega (arith, front, c.lexemes.invariant.room, c.after_blanks-place.ensures.same, c.in-Take.ensures.fits.0, c.in-Take.ensures.fits.1)

pub returns-in-Stop-clause-err : goal.returns-in-Stop-clause-err
returns-in-Stop-clause-err c = goes-stop _ _ _ _ _ _ _
    (goes-behind _ _ _ _ _ _ c.lexemes.invariant.going c.after_blanks-place.ensures.same c.after.ensures) c.in-Stop.ensures.found
