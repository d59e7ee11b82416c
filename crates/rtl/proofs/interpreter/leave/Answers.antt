use Rattle.std.proofs.Common.{rules, ◌≡◌, ℕ, List, Option, Some, None, refl, sym, ap, ◌∙◌}
use Rattle.runs.specs.Kept.{places}
use Rattle.rtl.specs.declared.instruction.RExit.TheVariants.{Return}
use Rattle.rtl.proofs.interpreter.leave.Goals as goal

-- the word of a register, read from a slice of the frame's
word : (items slice : List (Option ℕ)) (x : ℕ) (r w : Option ℕ) → slice ≡ items → r ≡ places slice x → r ≡ w → places items x ≡ w
word items slice x r w e f is = ap (λ (l : List (Option ℕ)). places l x) (sym e) ∙ sym f ∙ is

pub returns-in-Goto : goal.returns-in-Goto
returns-in-Goto c = rw c.in-Goto.is c.jump.ensures

pub returns-in_default : goal.returns-in_default
returns-in_default c = rw (
  c.in-Branch.is,
  word c.args.interpreter.now.frame.registers.items _ c.in-Branch.test _ None c.deref.ensures.value c.register.ensures c.in_default.is,
) refl

pub returns-in-Call : goal.returns-in-Call
returns-in-Call c = rw (c.in-Call.is, sym c.as_slice.ensures.value) c.call.ensures

pub returns-in_default-register : goal.returns-in_default-register
returns-in_default-register c =
    let e : c.args.exit.now ≡ Return (Some c.in-Return-Some.from) = search rules in
    rw (
      e,
      word c.args.interpreter.now.frame.registers.items _ c.in-Return-Some.from _ None c.deref-in-Return-Some.ensures.value c.register-in-Return-Some.ensures
          c.in_default-register.is,
    ) refl

pub returns-in-Some-register : goal.returns-in-Some-register
returns-in-Some-register c =
    let e : c.args.exit.now ≡ Return (Some c.in-Return-Some.from) = search rules in
    rw (
      e,
      word c.args.interpreter.now.frame.registers.items _ c.in-Return-Some.from _ (Some c.in-Some-register.v) c.deref-in-Return-Some.ensures.value
          c.register-in-Return-Some.ensures c.in-Some-register.is,
    ) c.return_word-in-Return-Some.ensures

pub returns-in_default-register-2 : goal.returns-in_default-register-2
returns-in_default-register-2 c = rw (
  c.in-Out.is,
  word c.args.interpreter.now.frame.registers.items _ c.in-Out.from _ None c.deref-in-Out.ensures.value c.register-in-Out.ensures
      c.in_default-register-2.is,
) refl

pub returns-in_ok-push-in-Out : goal.returns-in_ok-push-in-Out
returns-in_ok-push-in-Out c = rw (
  c.in-Out.is,
  word c.args.interpreter.now.frame.registers.items _ c.in-Out.from _ (Some c.in-Some-register-2.v) c.deref-in-Out.ensures.value c.register-in-Out.ensures
      c.in-Some-register-2.is,
  sym c.in_ok-push-in-Out.ensures.items,
) c.jump-in-Out.ensures
