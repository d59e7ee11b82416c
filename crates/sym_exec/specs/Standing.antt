-- Tickets that stand for trees in what a pass has seen.
use Rattle.std.specs.Prelude.{◌≡◌, ℕ, ◌<◌, List, [], ◌∷◌, slice_index, slice_set, Contains, ◌==◌, if◌then◌else◌, Result, OnErr}
use Rattle.words.specs.declared.operator.Operator.{Operator}
use Rattle.words.specs.declared.operator.Operator.TheVariants.{Addu}
use Rattle.sym_terms.specs.declared.label.Label.TheVariants.{Op}
use Rattle.sym_terms.specs.Trees.{Tree, binary}
use Rattle.term_table.specs.Passes.{TableState, PassState, IsOf, linked}
use Rattle.sym_exec.specs.MipsTerms.{HasSeen, HasTree}
use Rattle.term_table.specs.Trees.{Extends, HasLegalHistory}
use Rattle.mblock.specs.BlockMeaning.{Shape, Goes, ChoosesPair, ChoosesZero, Calls, Returns, Prints, Halts}
use Rattle.sym_terms.specs.NormalForms.{Address as TreeAddress, op_tree}
use Rattle.sym_exec.specs.declared.address.TermAddress.{TermAddress}
use Rattle.sym_exec.specs.declared.state.Guard.{Guard}
use Rattle.sym_exec.specs.declared.state.Guard.TheVariants.{Address, Division}
use Rattle.sym_exec.specs.declared.registers.TermRegisters.{TermRegisters}
use Rattle.sym_exec.specs.declared.state.TermPlaces.{TermPlaces}
use Rattle.sym_exec.specs.declared.state.TermExit.{TermExit}
use Rattle.sym_exec.specs.declared.state.TermExit.TheVariants as exits
use Rattle.sym_exec.specs.Symbolic.{GuardTree, AtAddress, AtDivision, TreeState, register_tree, CodeTrees}

-- the pass went on: it has seen all that it had, and a legal history stays legal
pub record Later (p q : PassState) : Type 0 where
  pub extends : Extends p q
  pub legal : HasLegalHistory p → HasLegalHistory q

-- a pass after some calls of `intern`: it is the table's and later, and has linked all it may where there is no answer
pub record AfterInterns {A E : Type 0} (t : TableState) (p : PassState) (result : Result A E) (q : PassState) : Type 0 where
  pub table : IsOf t q
  pub later : Later p q
  pub full : OnErr result (linked q ≡ q.nodes)

-- an address by tickets stands for one by trees
pub record IsAddress (p : PassState) (a : TermAddress) (x : TreeAddress) : Type 0 where
  pub base : HasTree p a.base x.base
  pub offset : a.offset ≡ x.offset

-- the tree is the sum of the trees of two tickets
pub record AreSummands (p : PassState) (left right : ℕ) (x : Tree) : Type 0 where
  pub a : Tree
  pub b : Tree
  pub has_left : HasTree p left a
  pub has_right : HasTree p right b
  pub sum : x ≡ binary (Op Addu) a b

-- the pass has seen the tickets
pub record Known (p : PassState) (s : TermRegisters) : Type 0 where
  pub regs : (r : ℕ) → r < 32 → HasSeen p (slice_index s.regs r)
  pub hi : HasSeen p s.hi
  pub lo : HasSeen p s.lo

-- a guard by tickets stands for one by trees
abbrev pub IsGuard : PassState → Guard → GuardTree → Type 0
IsGuard p (Address w t) (AtAddress v x) = (w ≡ v) × HasTree p t x
IsGuard p (Division sign a b) (AtDivision other x y) = (sign ≡ other) × HasTree p a x × HasTree p b y
IsGuard p (Address w t) (AtDivision other x y) = ⊥
IsGuard p (Division sign a b) (AtAddress v x) = ⊥

-- two sets of guards are the same ones
pub record GuardsStand (p : PassState) (gs : List Guard) (xs : List GuardTree) : Type 0 where
  pub down : (g : Guard) → Contains gs g → (x : GuardTree) × Contains xs x × IsGuard p g x
  pub up : (x : GuardTree) → Contains xs x → (g : Guard) × Contains gs g × IsGuard p g x

-- registers, HI and LO have the trees that stand in their places
pub record Hold (p : PassState) (s : TermRegisters) (t : TreeState) : Type 0 where
  pub regs : (r : ℕ) → r < 32 → HasTree p (slice_index s.regs r) (register_tree t r)
  pub hi : HasTree p s.hi t.hi
  pub lo : HasTree p s.lo t.lo

-- each ticket has the tree that stands in its place
pub record Stands (p : PassState) (s : TermPlaces) (t : TreeState) : Type 0 where
  pub regs : (r : ℕ) → r < 32 → HasTree p (slice_index s.regs r) (register_tree t r)
  pub hi : HasTree p s.hi t.hi
  pub lo : HasTree p s.lo t.lo
  pub memory : HasTree p s.memory t.memory

-- tickets have these trees, one by one
abbrev pub AllHave : PassState → List ℕ → List Tree → Type 0
AllHave p [] [] = Unit {0}
AllHave p [] (x ∷ xs) = ⊥
AllHave p (t ∷ ts) [] = ⊥
AllHave p (t ∷ ts) (x ∷ xs) = HasTree p t x × AllHave p ts xs

-- an exit by tickets, as its kind, condition and targets, and its operands
abbrev pub shape_of : TermExit → Shape
shape_of (exits.Goto t) = Goes t
shape_of (exits.BranchPair test a b t e) = ChoosesPair test t e
shape_of (exits.BranchZero test a t e) = ChoosesZero test t e
shape_of (exits.Call f n) = Calls f n
shape_of (exits.Return a) = Returns
shape_of (exits.Out a n) = Prints n
shape_of (exits.Halt a) = Halts

abbrev pub tickets_of : TermExit → List ℕ
tickets_of (exits.Goto t) = []
tickets_of (exits.BranchPair test a b t e) = a ∷ b ∷ []
tickets_of (exits.BranchZero test a t e) = a ∷ []
tickets_of (exits.Call f n) = []
tickets_of (exits.Return a) = a ∷ []
tickets_of (exits.Out a n) = a ∷ []
tickets_of (exits.Halt a) = a ∷ []

abbrev pub LeavesBy : PassState → TermExit → Shape → List Tree → Type 0
LeavesBy p exit shape operands = (shape_of exit ≡ shape) × AllHave p (tickets_of exit) operands

-- the tickets of a whole block or order
pub record StandsFor (p : PassState) (s : TermPlaces) (e : TermExit) (gs : List Guard) (c : CodeTrees) : Type 0 where
  pub places : Stands p s c.trees
  pub exit : LeavesBy p e c.shape c.operands
  pub guards : GuardsStand p gs c.trees.guards

-- a write, which register 0 loses
abbrev pub with_reg : TermRegisters → ℕ → ℕ → TermRegisters
with_reg s d v = record s { regs = if d == 0 then s.regs else slice_set s.regs d v }

-- HI and LO hold the results of two operators at the same registers
abbrev pub with_halves : (high low : Operator) → (a b : ℕ) → TreeState → TreeState
with_halves high low a b t =
    record t { hi = op_tree high (register_tree t a) (register_tree t b); lo = op_tree low (register_tree t a) (register_tree t b) }
