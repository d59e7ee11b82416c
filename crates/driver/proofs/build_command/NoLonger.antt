-- Orders that are no longer than plain ones are within the assembler's limits where those are.
use Rattle.std.proofs.Common.{◌≡◌, ◌≤◌, ◌==◌, ◌+◌, ℕ, suc, Bool, true, false, List, [], ◌∷◌, length, map, slice_get, Some, refl, sym, ap, ◌∙◌, arith, if◌then◌else◌}
use Rattle.std.proofs.lemmas.Option.{same_Some}
use Rattle.std.proofs.lemmas.List.{length-map}
use Rattle.mblock.specs.declared.exit.Exit.{Exit}
use Rattle.mblock.specs.declared.exit.Exit.TheVariants.{Goto, BranchPair, BranchZero, Call, Return, Out, Halt}
use Rattle.mblock.specs.Parts.{BlockParts, OrderParts}
use Rattle.mblock.specs.BlockMeaning.{Shape, exit_shape}
use Rattle.mblock.specs.BlockMeaning.Shape.{Goes, ChoosesPair, ChoosesZero, Calls, Returns, Prints, Halts}
use Rattle.mblock.specs.PlainOrders.{plain_order_of}
use Rattle.mblock.proofs.PlainOrders.{plain_at}
use Rattle.mips_asm.specs.Emitted.{IsWithin}
use Rattle.mips_asm.specs.Functions.{words_owned}
use Rattle.mips_asm.specs.Layout.{exit_size, size, place}
use Rattle.sched_phase.specs.Schedules.{ScheduledParts, IsScheduled}
use Rattle.sched_phase.specs.Phases.{IsPhase, Kind, same, unclean, differs, full, no_memory, missed, Suits}
use Rattle.list_scheduler.specs.Proposals.{IsNoLonger}

-- exits of one shape take as many words
abbrev shape_words : Shape → ℕ
shape_words (Goes t) = 2
shape_words (ChoosesPair test t e) = 4
shape_words (ChoosesZero test t e) = 4
shape_words (Calls f n) = 4
shape_words Returns = 2
shape_words (Prints n) = 4
shape_words Halts = 2

by_shape : (e : Exit) → exit_size e ≡ shape_words (exit_shape e)
by_shape (Goto t) = refl
by_shape (BranchPair test a b t e) = refl
by_shape (BranchZero test a t e) = refl
by_shape (Call f n) = refl
by_shape Return = refl
by_shape (Out n) = refl
by_shape Halt = refl

no_longer : (b : BlockParts) (o : OrderParts) (k : Kind) → Suits IsNoLonger b o k → length o.insts ≤ length (plain_order_of b).insts
no_longer b o same h = h.0
no_longer b o unclean h = omega (arith, ap (λ (p : OrderParts). length p.insts) h.0)
no_longer b o differs h = omega (arith, ap (λ (p : OrderParts). length p.insts) h.0)
no_longer b o full h = omega (arith, ap (λ (p : OrderParts). length p.insts) h)
no_longer b o no_memory h = omega (arith, ap (λ (p : OrderParts). length p.insts) h)
no_longer b o missed h = omega (arith, ap (λ (p : OrderParts). length p.insts) h)

-- the words of a function don't become more where those of no block do
fewer_owned : (owner : ℕ → ℕ) (f k : ℕ) (os ps : List OrderParts) → length os ≡ length ps
    → ((i : ℕ) (o p : OrderParts) → slice_get os i ≡ Some o → slice_get ps i ≡ Some p → size o ≤ size p)
    → words_owned owner f k os ≤ words_owned owner f k ps
fewer_owned owner f k [] ps long each = omega arith
fewer_owned owner f k (o ∷ os) [] long each = omega (arith, long)
fewer_owned owner f k (o ∷ os) (p ∷ ps) long each =
    one (owner k == f) (each 0 o p refl refl) (fewer_owned owner f (suc k) os ps (omega (arith, long)) (λ i. each (suc i)))
  where
    one : (c : Bool) {x y v w : ℕ} → x ≤ y → v ≤ w → (if c then x else 0) + v ≤ (if c then y else 0) + w
    one true xy vw = omega (arith, xy, vw)
    one false xy vw = omega (arith, vw)

-- all words are those of one function that owns each block
all_owned : (os : List OrderParts) (k : ℕ) → place os (length os) ≡ words_owned (λ i. 0) 0 k os
all_owned [] k = refl
all_owned (o ∷ os) k = ap (λ n. size o + n) (all_owned os (suc k))

pub within : (s : ScheduledParts) → IsScheduled s → IsPhase IsNoLonger s → (owner : ℕ → ℕ) → IsWithin owner (map plain_order_of s.unit.blocks)
    → IsWithin owner s.orders
within s is phase owner fit =
    (λ f. omega (arith, fit.0 f, fewer owner f), omega (arith, fit.1, fewer (λ i. 0) 0, all_owned s.orders 0, all_owned plain 0))
  where
    plain : List OrderParts
    plain = map plain_order_of s.unit.blocks

    each : (i : ℕ) (o p : OrderParts) → slice_get s.orders i ≡ Some o → slice_get plain i ≡ Some p → size o ≤ size p
    each i o p eo ep =
        let settled = phase.each i o eo in
        let b = settled.0 in
        let e = same_Some (plain_order_of b) p (sym (plain_at s.unit.blocks i b settled.2) ∙ ep) in
        let exits : exit_size b.exit ≡ exit_size o.exit =
        by_shape b.exit ∙ ap shape_words (is.orders.exits i b o settled.2 eo) ∙ sym (by_shape o.exit) in
        omega (arith, no_longer b o settled.1 settled.4, exits, ap size e)

    fewer : (owner : ℕ → ℕ) (f : ℕ) → words_owned owner f 0 s.orders ≤ words_owned owner f 0 plain
    fewer owner f = fewer_owned owner f 0 s.orders plain (is.orders.long ∙ sym (length-map s.unit.blocks plain_order_of)) each
