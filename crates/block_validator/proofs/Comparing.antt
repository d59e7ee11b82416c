-- Tickets are equal in a place exactly when trees are.
use Rattle.std.proofs.Common.{◌≡◌, ℕ, zero, suc, ◌<◌, ◌==◌, Bool, true, false, not, eqb-true, true≢false, List, [], ◌∷◌, Contains, Option, Some, None, refl, sym, ap, ap₂, ◌∙◌, subst, arith}
use Rattle.std.specs.Prelude.{slice_index, MatchOption}
use mathlib.Core.Logic.{◌↔◌}
use Rattle.std.proofs.lemmas.Option.{same_Some}
use Rattle.mblock.specs.BlockMeaning.{Shape, Goes, ChoosesPair, ChoosesZero, Calls, Returns, Prints, Halts}
use Rattle.sym_terms.specs.Trees.{Tree}
use Rattle.term_table.specs.Passes.{PassState}
use Rattle.term_table.specs.Trees.{HasLegalHistory}
use Rattle.sym_exec.proofs.MipsTerms.{same_trees, one_tree}
use Rattle.sym_exec.specs.declared.state.Guard.{Guard}
use Rattle.sym_exec.specs.declared.state.Guard.TheVariants.{Address, Division}
use Rattle.sym_exec.specs.declared.state.TermExit.{TermExit}
use Rattle.sym_exec.specs.declared.state.TermExit.TheVariants as exits
use Rattle.sym_exec.specs.declared.state.SymState.{SymState}
use Rattle.sym_exec.specs.Symbolic.{GuardTree, AtAddress, AtDivision, CodeTrees}
use Rattle.sym_exec.specs.Standing.{IsGuard, AllHave, StandsFor, shape_of, tickets_of}
use Rattle.block_validator.specs.declared.place.Place.{Place}
use Rattle.block_validator.specs.declared.place.Place.TheVariants as places
use Rattle.block_validator.specs.Same.{SameAt, SameTicketsAt, IsPlace, place_rank, SameTrees, DiffersFirst, TicketsDifferFirst}

-- a guard by tickets has one tree, and a guard's tree one guard
one_guard : (p : PassState) (g : Guard) (x y : GuardTree) → IsGuard p g x → IsGuard p g y → x ≡ y
one_guard p (Address w t) (AtAddress v x) (AtAddress u y) h k = ap₂ AtAddress (sym h.0 ∙ k.0) (one_tree h.1 k.1)
one_guard p (Address w t) (AtAddress v x) (AtDivision s a b) h k = absurd k
one_guard p (Address w t) (AtDivision s a b) y h k = absurd h
one_guard p (Division s a b) (AtAddress v x) y h k = absurd h
one_guard p (Division s a b) (AtDivision s' x y) (AtAddress v z) h k = absurd k
one_guard p (Division s a b) (AtDivision s' x y) (AtDivision s'' z w) h k =
    let es = sym h.0 ∙ k.0 in
    let ex = one_tree h.1 k.1 in
    let ey = one_tree h.2 k.2 in
    λ i. AtDivision (es i) (ex i) (ey i)

same_guard : (p : PassState) → HasLegalHistory p → (g h : Guard) (x : GuardTree) → IsGuard p g x → IsGuard p h x → g ≡ h
same_guard p legal (Address w t) (Address v u) (AtAddress z x) j k = ap₂ Address (j.0 ∙ sym k.0) ((same_trees legal j.1 k.1).1 refl)
same_guard p legal (Address w t) (Division s a b) (AtAddress v x) j k = absurd k
same_guard p legal (Address w t) h (AtDivision s x y) j k = absurd j
same_guard p legal (Division s a b) h (AtAddress v x) j k = absurd j
same_guard p legal (Division s a b) (Address v u) (AtDivision s' x y) j k = absurd k
same_guard p legal (Division s a b) (Division s'' c d) (AtDivision s' x y) j k =
    let es = j.0 ∙ sym k.0 in
    let ea = (same_trees legal j.1 k.1).1 refl in
    let eb = (same_trees legal j.2 k.2).1 refl in
    λ i. Division (es i) (ea i) (eb i)

-- lists of tickets and of trees
one_list : (p : PassState) (ts : List ℕ) (xs ys : List Tree) → AllHave p ts xs → AllHave p ts ys → xs ≡ ys
one_list p [] [] [] h k = refl
one_list p [] [] (y ∷ ys) h k = absurd k
one_list p [] (x ∷ xs) ys h k = absurd h
one_list p (t ∷ ts) [] ys h k = absurd h
one_list p (t ∷ ts) (x ∷ xs) [] h k = absurd k
one_list p (t ∷ ts) (x ∷ xs) (y ∷ ys) h k = ap₂ (λ z zs. z ∷ zs) (one_tree h.0 k.0) (one_list p ts xs ys h.1 k.1)

same_list : (p : PassState) → HasLegalHistory p → (ts us : List ℕ) (xs : List Tree) → AllHave p ts xs → AllHave p us xs → ts ≡ us
same_list p legal [] [] [] h k = refl
same_list p legal [] (u ∷ us) [] h k = absurd k
same_list p legal [] us (x ∷ xs) h k = absurd h
same_list p legal (t ∷ ts) us [] h k = absurd h
same_list p legal (t ∷ ts) [] (x ∷ xs) h k = absurd k
same_list p legal (t ∷ ts) (u ∷ us) (x ∷ xs) h k = ap₂ (λ z zs. z ∷ zs) ((same_trees legal h.0 k.0).1 refl) (same_list p legal ts us xs h.1 k.1)

-- an exit is its shape and its tickets
abbrev exit_from : Shape → List ℕ → Option TermExit
exit_from (Goes t) ts = Some (exits.Goto t)
exit_from (ChoosesPair test t e) (a ∷ b ∷ ts) = Some (exits.BranchPair test a b t e)
exit_from (ChoosesPair test t e) (a ∷ []) = None
exit_from (ChoosesPair test t e) [] = None
exit_from (ChoosesZero test t e) (a ∷ ts) = Some (exits.BranchZero test a t e)
exit_from (ChoosesZero test t e) [] = None
exit_from (Calls f n) ts = Some (exits.Call f n)
exit_from Returns (a ∷ ts) = Some (exits.Return a)
exit_from Returns [] = None
exit_from (Prints n) (a ∷ ts) = Some (exits.Out a n)
exit_from (Prints n) [] = None
exit_from Halts (a ∷ ts) = Some (exits.Halt a)
exit_from Halts [] = None

exit_back : (e : TermExit) → exit_from (shape_of e) (tickets_of e) ≡ Some e
exit_back (exits.Goto t) = refl
exit_back _ = refl

same_exit : (e f : TermExit) → shape_of e ≡ shape_of f → tickets_of e ≡ tickets_of f → e ≡ f
same_exit e f s t = same_Some e f (sym (exit_back e) ∙ (λ i. exit_from (s i) (t i)) ∙ exit_back f)

module _ (p : PassState) (legal : HasLegalHistory p) (a b : SymState) (x y : CodeTrees) (h : StandsFor p a.places a.exit a.guards.items x)
    (k : StandsFor p b.places b.exit b.guards.items y) where
  pub same_at : (q : Place) → IsPlace q → SameTicketsAt q a b ↔ SameAt q x y
  same_at (places.Register zero) is = absurd (let lt : 0 < 0 = is.0 in omega (arith, lt))
  same_at (places.Register (suc r)) is = same_trees legal (h.places.regs (suc r) is.1) (k.places.regs (suc r) is.1)
  same_at places.Hi is = same_trees legal h.places.hi k.places.hi
  same_at places.Lo is = same_trees legal h.places.lo k.places.lo
  same_at places.Memory is = same_trees legal h.places.memory k.places.memory
  same_at places.Exit is = (
    λ e. (
      sym h.exit.0 ∙ ap shape_of e
          ∙ k.exit.0,
      one_list p (tickets_of b.exit) x.operands y.operands (subst (λ f. AllHave p (tickets_of f) x.operands) e h.exit.1) k.exit.1,
    ),
    λ e. same_exit a.exit b.exit (h.exit.0 ∙ e.0 ∙ sym k.exit.0)
        (same_list p legal (tickets_of a.exit) (tickets_of b.exit) y.operands (subst (AllHave p (tickets_of a.exit)) e.1 h.exit.1) k.exit.1),
  )
  same_at places.Guards is = (
    λ e g c.
        let there = k.guards.up g c in
        let here = h.guards.down there.0 (e there.0 there.1) in
        subst (Contains x.trees.guards) (one_guard p there.0 here.0 g here.2 there.2) here.1,
    λ e g c.
        let there = k.guards.down g c in
        let here = h.guards.up there.0 (e there.0 there.1) in
        subst (Contains a.guards.items) (same_guard p legal here.0 g there.0 here.2 there.2) here.1,
  )

  pub by_trees : (r : Option Place) → MatchOption r ((q : Place) → IsPlace q → SameTicketsAt q a b) (TicketsDifferFirst a b)
      → MatchOption r (SameTrees x y) (DiffersFirst x y)
  by_trees None same = λ q is. (same_at q is).0 (same q is)
  by_trees (Some r) d = record {
    place = d.place;
    differs = λ s. d.differs ((same_at r d.place).1 s);
    before = λ q is lt. (same_at q is).0 (d.before q is lt);
  }

-- tickets that aren't told apart
pub same_ticket : (x y : ℕ) → false ≡ not (x == y) → x ≡ y
same_ticket x y same = go (x == y) refl (sym same)
  where
    go : (b : Bool) → (x == y) ≡ b → not b ≡ false → x ≡ y
    go true is told = eqb-true x y is
    go false is told = absurd (true≢false told)

-- the places one by one
pub all_places : (a b : SymState) → ((q : ℕ) → 0 < q → q < 32 → slice_index a.places.regs q ≡ slice_index b.places.regs q)
    → a.places.hi ≡ b.places.hi → a.places.lo ≡ b.places.lo → a.places.memory ≡ b.places.memory → a.exit ≡ b.exit
    → ((g : Guard) → Contains b.guards.items g → Contains a.guards.items g) → (q : Place) → IsPlace q → SameTicketsAt q a b
all_places a b regs hi lo memory exit guards (places.Register r) is = regs r is.0 is.1
all_places a b regs hi lo memory exit guards places.Hi is = hi
all_places a b regs hi lo memory exit guards places.Lo is = lo
all_places a b regs hi lo memory exit guards places.Memory is = memory
all_places a b regs hi lo memory exit guards places.Exit is = exit
all_places a b regs hi lo memory exit guards places.Guards is = guards

pub guards_differ : (a b : SymState) → ((q : ℕ) → 0 < q → q < 32 → slice_index a.places.regs q ≡ slice_index b.places.regs q)
    → a.places.hi ≡ b.places.hi → a.places.lo ≡ b.places.lo → a.places.memory ≡ b.places.memory → a.exit ≡ b.exit
    → (((g : Guard) → Contains b.guards.items g → Contains a.guards.items g) → ⊥) → TicketsDifferFirst a b places.Guards
guards_differ a b regs hi lo memory exit none = record {
  place = tt;
  differs = none;
  before = λ q is lt. earlier q is lt;
}
  where
    earlier : (q : Place) → IsPlace q → place_rank q < 36 → SameTicketsAt q a b
    earlier (places.Register r) is lt = regs r is.0 is.1
    earlier places.Hi is lt = hi
    earlier places.Lo is lt = lo
    earlier places.Memory is lt = memory
    earlier places.Exit is lt = exit
    earlier places.Guards is lt = absurd (omega (arith, lt))
