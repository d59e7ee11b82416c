-- How an order is left, by whether its exit has a slot.
use Rattle.std.proofs.Common.{◌≡◌, ℕ, true, false, Option, Some, None, refl, sym, true≢false}
use Rattle.mips_isa.specs.declared.inst.Plain.{Plain}
use Rattle.mips_isa.specs.Flows.{Flow}
use Rattle.mblock.specs.declared.exit.Exit.{Exit}
use Rattle.mblock.specs.declared.exit.Exit.TheVariants.{Out, Halt}
use Rattle.mblock.specs.Slots.{is_slotted}
use Rattle.mblock.specs.OrderMeaning.{jump, order_end_effect}

pub jumps : (exit : Exit) (slot : Option Plain) (f : Flow) (link : ℕ) → is_slotted exit ≡ true → order_end_effect exit slot f link ≡ jump exit slot f link
jumps (Out n) slot f link e = absurd (true≢false (sym e))
jumps Halt slot f link e = absurd (true≢false (sym e))
jumps _ slot f link e = refl

pub has_none : (exit : Exit) (i : Plain) (f : Flow) (link : ℕ) → is_slotted exit ≡ false → order_end_effect exit (Some i) f link ≡ None
has_none (Out n) i f link e = refl
has_none Halt i f link e = refl
has_none _ i f link e = absurd (true≢false e)
