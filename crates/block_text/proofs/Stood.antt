-- What a reader's spot says of the lines before it.
use Rattle.std.proofs.Common.{◌≡◌, ℕ, ◌<◌, ◌≤◌, inl, inr, List, [], ◌∷◌, ◌++◌, Bool, true, false, Option, Some, None, length, refl, sym}
use Rattle.std.proofs.Common.{subst, arith, codes, is_some}
use Rattle.std.proofs.lemmas.List.{append_assoc, append-nil, length-append}
use Rattle.mips_isa.specs.declared.inst.Plain.{Plain}
use Rattle.mips_isa.specs.declared.inst.Plain.TheVariants.{Shift}
use Rattle.mips_isa.specs.declared.inst.ShiftOp.TheVariants.{Sll}
use Rattle.mblock.specs.declared.exit.Exit.{Exit}
use Rattle.mblock.specs.declared.exit.Exit.TheVariants.{Return}
use Rattle.mblock.specs.Parts.{BlockParts, OrderParts}
use Rattle.mblock.specs.Slots.{is_slotted}
use Rattle.block_text.specs.Spelling.{SpellsPlain, SpellsExit}
use Rattle.block_text.specs.Whole.{AllSpell, SpellsSlot, EndsWith, SpellsPair, Begins}
use Rattle.block_text.specs.StageParts.{StageParts, AtBlock, InBlock, AtOrder, InOrder, AtSlot, Done, Steps, order_of, after_exit}

pub record BlockBegun (is : List Plain) (ls : List (List ℕ)) : Type 0 where
  pub lines : List (List ℕ)
  pub whole : ls ≡ codes "block" ∷ lines
  pub spelled : AllSpell lines is
  pub size : length is ≤ 512

pub record BlockRead (b : BlockParts) (ls : List (List ℕ)) : Type 0 where
  pub lines : List (List ℕ)
  pub exit : List ℕ
  pub whole : ls ≡ codes "block" ∷ (lines ++ exit ∷ [])
  pub spelled : AllSpell lines b.insts
  pub leaves : SpellsExit exit b.exit
  pub size : length b.insts ≤ 512

pub record OrderBegun (b : BlockParts) (is : List Plain) (ls : List (List ℕ)) : Type 0 where
  pub before : List (List ℕ)
  pub lines : List (List ℕ)
  pub block : BlockRead b before
  pub whole : ls ≡ before ++ codes "order" ∷ lines
  pub spelled : AllSpell lines is
  pub size : length is ≤ 2048

pub record OrderLeft (b : BlockParts) (is : List Plain) (e : Exit) (ls : List (List ℕ)) : Type 0 where
  pub before : List (List ℕ)
  pub exit : List ℕ
  pub order : OrderBegun b is before
  pub whole : ls ≡ before ++ exit ∷ []
  pub leaves : SpellsExit exit e
  pub slotted : is_slotted e ≡ true

abbrev pub Stood : StageParts → List (List ℕ) → Type 0
Stood AtBlock ls = ls ≡ []
Stood (InBlock is) ls = BlockBegun is ls
Stood (AtOrder b) ls = BlockRead b ls
Stood (InOrder b is) ls = OrderBegun b is ls
Stood (AtSlot b is e) ls = OrderLeft b is e ls
Stood (Done b o) ls = SpellsPair ls b o

all_push : (ls : List (List ℕ)) (is : List Plain) (l : List ℕ) (i : Plain) → AllSpell ls is → SpellsPlain l i → AllSpell (ls ++ l ∷ []) (is ++ i ∷ [])
all_push [] [] l i a h = (h, tt)
all_push [] (j ∷ is) l i a h = absurd a
all_push (k ∷ ls) [] l i a h = absurd a
all_push (k ∷ ls) (j ∷ is) l i a h = (a.0, all_push ls is l i a.1 h)

more_in_block : (is : List Plain) (ls : List (List ℕ)) (l : List ℕ) (i : Plain) → BlockBegun is ls → SpellsPlain l i → length is < 512
    → BlockBegun (is ++ i ∷ []) (ls ++ l ∷ [])
more_in_block is ls l i s h n =
    record { lines = s.lines ++ l ∷ []; whole = rw s.whole; spelled = all_push s.lines is l i s.spelled h; size = omega (arith, length-append is (i ∷ [])) }

block_left : (is : List Plain) (ls : List (List ℕ)) (l : List ℕ) (e : Exit) → BlockBegun is ls → SpellsExit l e
    → BlockRead (record { insts = is; exit = e }) (ls ++ l ∷ [])
block_left is ls l e s h = record { lines = s.lines; exit = l; whole = rw s.whole refl; spelled = s.spelled; leaves = h; size = s.size }

order_begun : (b : BlockParts) (ls : List (List ℕ)) (l : List ℕ) → BlockRead b ls → l ≡ codes "order" → OrderBegun b [] (ls ++ l ∷ [])
order_begun b ls l s e = record { before = ls; lines = []; block = s; whole = rw e refl; spelled = tt; size = omega arith }

more_in_order : (b : BlockParts) (is : List Plain) (ls : List (List ℕ)) (l : List ℕ) (i : Plain) → OrderBegun b is ls → SpellsPlain l i
    → length is < 2048 → OrderBegun b (is ++ i ∷ []) (ls ++ l ∷ [])
more_in_order b is ls l i s h n = record {
  before = s.before;
  lines = s.lines ++ l ∷ [];
  block = s.block;
  whole = rw s.whole (simp append_assoc);
  spelled = all_push s.lines is l i s.spelled h;
  size = omega (arith, length-append is (i ∷ []));
}

-- the whole text, of a block, an order's lines, and what follows them
spelled_whole : (b : BlockParts) (is : List Plain) (e : Exit) (slot : Option Plain) (ls last : List (List ℕ)) (exit : List ℕ)
    → OrderBegun b is ls → SpellsExit exit e → EndsWith last slot → is_some slot ≡ is_slotted e → SpellsPair (ls ++ exit ∷ last) b (order_of is e slot)
spelled_whole b is e slot ls last exit s h w v =
    let block = s.block in
    record {
      block_lines = block.lines;
      block_exit = block.exit;
      order_lines = s.lines;
      order_exit = exit;
      last_lines = last;
      whole = rw (s.whole, block.whole) (simp append_assoc);
      block = block.spelled;
      leaves_block = block.leaves;
      order = s.spelled;
      leaves_order = h;
      slot = w;
      has_slot = v;
      block_size = block.size;
      order_size = s.size;
    }

order_left : (b : BlockParts) (is : List Plain) (e : Exit) (ls : List (List ℕ)) (l : List ℕ) (v : Bool) → is_slotted e ≡ v → OrderBegun b is ls
    → SpellsExit l e → Stood (after_exit b is e) (ls ++ l ∷ [])
order_left b is e ls l true v s h = rw v (record { before = ls; exit = l; order = s; whole = refl; leaves = h; slotted = v })
order_left b is e ls l false v s h = rw v (spelled_whole b is e None ls [] l s h refl (sym v))

slot_read : (b : BlockParts) (is : List Plain) (e : Exit) (ls : List (List ℕ)) (l : List ℕ) (i : Plain) → OrderLeft b is e ls → SpellsSlot l i
    → SpellsPair (ls ++ l ∷ []) b (order_of is e (Some i))
slot_read b is e ls l i s h = rw (s.whole, append_assoc)
    (spelled_whole b is e (Some i) s.before (l ∷ []) s.exit s.order s.leaves (l, refl, h) (sym s.slotted))

pub stood_steps : (p q : StageParts) (ls : List (List ℕ)) (l : List ℕ) → Stood p ls → Steps p l q → Stood q (ls ++ l ∷ [])
stood_steps AtBlock q ls l s (e, f) = rw (f, s, e) (record { lines = []; whole = refl; spelled = tt; size = omega arith })
stood_steps (InBlock is) q ls l s (inl (i, h, n, f)) = rw f (more_in_block is ls l i s h n)
stood_steps (InBlock is) q ls l s (inr (e, h, f)) = rw f (block_left is ls l e s h)
stood_steps (AtOrder b) q ls l s (e, f) = rw f (order_begun b ls l s e)
stood_steps (InOrder b is) q ls l s (inl (i, h, n, f)) = rw f (more_in_order b is ls l i s h n)
stood_steps (InOrder b is) q ls l s (inr (e, h, f)) = subst (λ (x : StageParts). Stood x (ls ++ l ∷ [])) (sym f)
    (order_left b is e ls l (is_slotted e) refl s h)
stood_steps (AtSlot b is e) q ls l s (i, h, f) = rw f (slot_read b is e ls l i s h)
stood_steps (Done b o) q ls l s h = absurd h

shorter : (ls : List (List ℕ)) (l : List ℕ) → Begins (ls ++ l ∷ []) → Begins ls
shorter ls l (more, b, o, s) = (l ∷ more, b, o, subst (λ (xs : List (List ℕ)). SpellsPair xs b o) (append_assoc ls (l ∷ []) more) s)

done : (b : BlockParts) (o : OrderParts) (ls : List (List ℕ)) → SpellsPair ls b o → Begins ls
done b o ls s = ([], b, o, subst (λ (xs : List (List ℕ)). SpellsPair xs b o) (sym (append-nil ls)) s)

nop_line : SpellsPlain (codes "nop") (Shift Sll 0 0 0)
nop_line = ((omega arith, omega arith, omega arith), inl (refl, refl))

by_slot : (b : BlockParts) (is : List Plain) (e : Exit) (ls : List (List ℕ)) → OrderLeft b is e ls → Begins ls
by_slot b is e ls s =
    shorter ls (codes "slot nop") (done b (order_of is e (Some (Shift Sll 0 0 0))) (ls ++ codes "slot nop" ∷ [])
    (slot_read b is e ls (codes "slot nop") (Shift Sll 0 0 0) s (codes "nop", refl, nop_line)))

by_order_exit : (b : BlockParts) (is : List Plain) (ls : List (List ℕ)) → OrderBegun b is ls → Begins ls
by_order_exit b is ls s =
    shorter ls (codes "return") (by_slot b is Return (ls ++ codes "return" ∷ []) (order_left b is Return ls (codes "return") true refl s (tt, refl)))

by_order : (b : BlockParts) (ls : List (List ℕ)) → BlockRead b ls → Begins ls
by_order b ls s = shorter ls (codes "order") (by_order_exit b [] (ls ++ codes "order" ∷ []) (order_begun b ls (codes "order") s refl))

by_block_exit : (is : List Plain) (ls : List (List ℕ)) → BlockBegun is ls → Begins ls
by_block_exit is ls s =
    shorter ls (codes "return") (by_order (record { insts = is; exit = Return }) (ls ++ codes "return" ∷ [])
    (block_left is ls (codes "return") Return s (tt, refl)))

-- wherever the reader stands, some text goes on from there
pub begins : (p : StageParts) (ls : List (List ℕ)) → Stood p ls → Begins ls
begins AtBlock ls s =
    shorter ls (codes "block") (by_block_exit [] (ls ++ codes "block" ∷ []) (stood_steps AtBlock (InBlock []) ls (codes "block") s (refl, refl)))
begins (InBlock is) ls s = by_block_exit is ls s
begins (AtOrder b) ls s = by_order b ls s
begins (InOrder b is) ls s = by_order_exit b is ls s
begins (AtSlot b is e) ls s = by_slot b is e ls s
begins (Done b o) ls s = done b o ls s
