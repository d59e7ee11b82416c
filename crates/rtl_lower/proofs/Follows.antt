-- What is still to do in the source, and where its code stands.
use Rattle.std.proofs.Common.{◌≡◌, ℕ, Bool, List, [], ◌∷◌, Option, Some, None, refl, arith, ◌⊎◌, inl, inr}
use Rattle.runs.specs.Stores.{Places, Arrays, places_with}
use Rattle.runs.proofs.Words.{written-words}
use Rattle.c_typed.specs.declared.tree.Destination.TheVariants.{Local}
use Rattle.c_typed.specs.Trees.{TypedStatement, TypedStatements, TypedProgram, empty, block, unset, assign, output}
use Rattle.c_typed.specs.Trees.{break_loop, continue_loop, return_with, no_statements, more_statements}
use Rattle.c_typed.specs.WellFormed.{FitsStatement, FitsStatements}
use Rattle.c_typed.specs.Meaning.{Todo, Do, Next, Mode, Going, Breaking, Continuing, Point, before, before_all, next_point}
use Rattle.rtl.specs.Meaning.{Code, Surroundings, at}
use Rattle.rtl.specs.declared.block.RBlock.{RBlock}
use Rattle.rtl_emit.specs.Blocks.{Spot, Block, Line, line_of, Lands, At, goto}
use Rattle.rtl_emit.specs.Runs.{Goes, Holds}
use Rattle.rtl_emit.proofs.Steps.{goes_nowhere, goes_then, joins}
use Rattle.rtl_lower.specs.Coded.{enclosing, Sits, IsThere, Comes, Coded, CodedAll}

-- ---- spots, and jumps from one to another

-- the code of a block is one
pub at_unique : {bs : List RBlock} {b : ℕ} {c c' : Code} → At bs b c → At bs b c' → c ≡ c'
at_unique {bs} {b} x y = cc

pub lands_sits : {bs : List RBlock} (b : ℕ) (s : Spot) (c : Code) → Lands bs b s → At bs b c → Sits bs s c
lands_sits b (Block b') c l a = inr (rw l at a)
lands_sits b (Line c') c l a = at_unique a l

pub sits_there : (bs : List RBlock) (s : Spot) → Sits bs s (line_of s)
sits_there bs (Block b) = inl refl
sits_there bs (Line c) = refl

-- a block that begins at a spot that is there
pub lands_there : {bs : List RBlock} (b : ℕ) (s : Spot) → Lands bs b s → IsThere bs s → IsThere bs (Block b)
lands_there b (Block b') l t = (t.0, rw l t.1)
lands_there b (Line c) l t = (c, l)

pub comes_equal : (bs : List RBlock) (from to : Spot) → from ≡ to → Comes bs from to
comes_equal bs from to e = rw e (record { there = λ t. t; by = λ c s w r. (c, s, goes_nowhere w.program w.depth _) })

pub comes_join : (bs : List RBlock) (b : ℕ) (s : Spot) → Lands bs b s → Comes bs (Block b) s
comes_join bs b s l = record { there = λ t. lands_there b s l t; by = λ c si w r. by c si w r }
  where
    by : (c : Code) → (c ≡ goto b) ⊎ At bs b c → (w : Surroundings) (r : Places)
        → (c' : Code) × Sits bs s c' × Goes w.program w.depth (at w bs r c) (at w bs r c')
    by c (inl e) w r = (line_of s, sits_there bs s, rw e (joins w b s l r))
    by c (inr there) w r = (c, lands_sits b s c l there, goes_nowhere w.program w.depth _)

pub comes_then : {bs : List RBlock} {from mid to : Spot} → Comes bs from mid → Comes bs mid to → Comes bs from to
comes_then a b = record {
  there = λ t. a.there (b.there t);
  by = λ c s w r.
      let x = a.by c s w r in
      let y = b.by x.0 x.1 w r in
      (y.0, y.1, goes_then x.2 y.2);
}

-- ---- what is still to do

-- a statement that fits a function of the program
abbrev pub Fits : TypedProgram → ℕ → TypedStatement → Type 0
Fits p n s = (gives : Bool) × (inside : Bool) × FitsStatement p n gives inside s

-- a spot that jumps alone lead to
pub record Reaches (bs : List RBlock) (At : Spot → Type 0) (from : Spot) : Type 0 where
  pub spot : Spot
  pub comes : Comes bs from spot
  pub at : At spot

-- `break` and `continue` lead to blocks that are there
pub record Targets (bs : List RBlock) (leave : ℕ) (next : Option ℕ) : Type 0 where
  pub leaves : IsThere bs (Block leave)
  pub continues : (b : ℕ) → next ≡ Some b → IsThere bs (Block b)

module _ (bs : List RBlock) (n : ℕ) where
  mutual
    pub there_coded : (s : TypedStatement) (leave : ℕ) (next : Option ℕ) (from after : Spot) → Targets bs leave next
        → Coded (enclosing bs n) s leave next from after → IsThere bs after → IsThere bs from
    there_coded empty leave next from after t c th = rw c th
    there_coded (block all) leave next from after t c th = there_all all leave next from after t c th
    there_coded (unset x) leave next from after t c th = rw c th
    there_coded (assign (Local x) e) leave next from after t c th = rw c.is tt
    there_coded (output e) leave next from after t c th = rw c.leaves.is tt
    there_coded break_loop leave next from after t c th = rw c t.leaves
    there_coded continue_loop leave next from after t c th = rw c.2 (t.continues c.0 c.1)
    there_coded (return_with None) leave next from after t c th = rw c tt
    there_coded _ leave next from after t c th = rw c.is tt

    there_all : (all : TypedStatements) (leave : ℕ) (next : Option ℕ) (from after : Spot) → Targets bs leave next
        → CodedAll (enclosing bs n) all leave next from after → IsThere bs after → IsThere bs from
    there_all no_statements leave next from after t c th = rw c th
    there_all (more_statements s rest) leave next from after t c th =
        there_coded s leave next from c.0 t c.1 (there_all rest leave next c.0 after t c.2 th)

-- a local that is unset needs no register
pub holds_unset : (n : ℕ) (l r : Places) (g : Arrays) (x : ℕ) → Holds n l r g → Holds n (places_with l x None) r g
holds_unset n l r g x h = record {
  by = λ y v e. (let before : l y ≡ Some v = grind arith in h.by y v before);
  locals = written-words l x None h.locals (λ v e. cc);
  globals = h.globals;
}

-- where the code of a mode is
abbrev pub Seated : List RBlock → Mode → Spot → (leave : ℕ) (next : Option ℕ) → Code → Type 0
Seated bs Going from leave next c = Sits bs from c
Seated bs Breaking from leave next c = Sits bs (Block leave) c
Seated bs Continuing from leave next c = (b : ℕ) × (next ≡ Some b) × Sits bs (Block b) c

module _ (src : TypedProgram) (bs : List RBlock) (n : ℕ) where
  -- a statement, and then the rest
  pub record StandsDo (s : TypedStatement) (leave : ℕ) (next : Option ℕ) (from : Spot) (Rest : Spot → Type 0) : Type 0 where
    pub middle : Spot
    pub coded : Coded (enclosing bs n) s leave next from middle
    pub fits : Fits src n s
    pub rest : Rest middle

  -- the last part of a loop, the loop again at the test behind it, and then the rest
  pub record StandsNext (last again : TypedStatement) (leave : ℕ) (next : Option ℕ) (from : Spot)
      (Rest : (leave : ℕ) (next : Option ℕ) → Spot → Type 0) : Type 0 where
    pub bottom : Code
    pub after : Spot
    pub left : Lands bs leave after
    pub continues : (b : ℕ) → next ≡ Some b → Lands bs b from
    pub outer_leave : ℕ
    pub outer_next : Option ℕ
    pub targets : Targets bs outer_leave outer_next
    pub last_coded : Coded (enclosing bs n) last outer_leave outer_next from (Line bottom)
    pub loop_coded : Coded (enclosing bs n) again outer_leave outer_next (Line bottom) after
    pub last_fits : Fits src n last
    pub loop_fits : Fits src n again
    pub rest : Rest outer_leave outer_next after

  -- from this spot on stands what is still to do, where `break` leads to one block and `continue` to another
  abbrev pub StandsAt : List Todo → (leave : ℕ) (next : Option ℕ) → Spot → Type 0
  StandsAt [] leave next from = IsThere bs from
  StandsAt (Do s ∷ k) leave next from = StandsDo s leave next from (Reaches bs (StandsAt k leave next))
  StandsAt (Next last again ∷ k) leave next from = StandsNext last again leave next from (λ leave' next'. Reaches bs (StandsAt k leave' next'))

  abbrev pub Follows : List Todo → (leave : ℕ) (next : Option ℕ) → Spot → Type 0
  Follows k leave next from = Reaches bs (StandsAt k leave next) from

  pub follows_here : (k : List Todo) (leave : ℕ) (next : Option ℕ) (from : Spot) → StandsAt k leave next from → Follows k leave next from
  follows_here k leave next from at = record { spot = from; comes = comes_equal bs from from refl; at = at }

  pub follows_from : (k : List Todo) (leave : ℕ) (next : Option ℕ) (from to : Spot) → Comes bs from to → Follows k leave next to
      → Follows k leave next from
  follows_from k leave next from to c f = record { spot = f.spot; comes = comes_then c f.comes; at = f.at }

  there_follows : (k : List Todo) (leave : ℕ) (next : Option ℕ) (from : Spot) → Targets bs leave next → Follows k leave next from → IsThere bs from
  there_follows [] leave next from t f = f.comes.there f.at
  there_follows (Do s ∷ k) leave next from t f =
      f.comes.there (there_coded bs n s leave next f.spot f.at.middle t f.at.coded (there_follows k leave next f.at.middle t f.at.rest))
  there_follows (Next last again ∷ k) leave next from t f =
      let a = f.at in
      f.comes.there (there_coded bs n last a.outer_leave a.outer_next f.spot (Line a.bottom) a.targets a.last_coded tt)

  mutual
    pub follows_before : (s : TypedStatement) (k : List Todo) (leave : ℕ) (next : Option ℕ) (from middle : Spot)
        → Coded (enclosing bs n) s leave next from middle → Fits src n s → Follows k leave next middle → Follows (before s k) leave next from
    follows_before empty k leave next from middle c sc f = rw c f
    follows_before (block all) k leave next from middle c sc f = follows_all all k leave next from middle c sc.0 sc.1 sc.2 f
    follows_before s k leave next from middle c sc f =
        follows_here (Do s ∷ k) leave next from (record { middle = middle; coded = c; fits = sc; rest = f })

    pub follows_all : (all : TypedStatements) (k : List Todo) (leave : ℕ) (next : Option ℕ) (from middle : Spot)
        → CodedAll (enclosing bs n) all leave next from middle → (gives inside : Bool) → FitsStatements src n gives inside all
        → Follows k leave next middle → Follows (before_all all k) leave next from
    follows_all no_statements k leave next from middle c gives inside sc f = rw c f
    follows_all (more_statements s rest) k leave next from middle c gives inside sc f =
        follows_before s (before_all rest k) leave next from c.0 c.1 (gives, inside, sc.0) (follows_all rest k leave next c.0 middle c.2 gives inside sc.1 f)

  -- code that is at a spot, from which it does what is to do
  pub record Stands (k : List Todo) (code : Code) : Type 0 where
    pub spot : Spot
    pub leave : ℕ
    pub next : Option ℕ
    pub targets : Targets bs leave next
    pub sits : Sits bs spot code
    pub follows : Follows k leave next spot

  -- a block that does it
  abbrev pub Starts : (b : ℕ) → List Todo → Type 0
  Starts b k = (code : Code) × At bs b code × Stands k code

  module _ (k : List Todo) (leave : ℕ) (next : Option ℕ) (spot : Spot) (t : Targets bs leave next) (f : Follows k leave next spot) where
    stands : (code : Code) → Sits bs spot code → Stands k code
    stands code s = record { spot = spot; leave = leave; next = next; targets = t; sits = s; follows = f }

    pub stands_there : Stands k (line_of spot)
    stands_there = stands (line_of spot) (sits_there bs spot)

    pub starts_there : (b : ℕ) → Lands bs b spot → Starts b k
    starts_there b lands =
        let there = lands_there b spot lands (there_follows k leave next spot t f) in
        (there.0, there.1, stands there.0 (lands_sits b spot there.0 lands there.1))

  -- the blocks come to the next statement that takes a step
  pub record Settles (w : Surroundings) (r : Places) (from : Code) (point : Point) : Type 0 where
    pub code : Code
    pub goes : Goes w.program w.depth (at w bs r from) (at w bs r code)
    pub holds : Holds n point.locals r w.globals
    pub stands : Stands point.todo code

  module _ (w : Surroundings) (r : Places) where
    here : (code : Code) (spot : Spot) (point : Point) (leave : ℕ) (next : Option ℕ) → Targets bs leave next → Sits bs spot code
        → Holds n point.locals r w.globals → Follows point.todo leave next spot → Settles w r code point
    here code spot point leave next t s h f =
        record { code = code; goes = goes_nowhere w.program w.depth _; holds = h; stands = stands point.todo leave next spot t f code s }

    settles_from : (code : Code) (spot spot' : Spot) (point : Point) → Comes bs spot spot' → Sits bs spot code
        → ((code' : Code) → Sits bs spot' code' → Settles w r code' point) → Settles w r code point
    settles_from code spot spot' point c s k =
        let x = c.by code s w r in
        let y = k x.0 x.1 in
        record { code = y.code; goes = goes_then x.2 y.goes; holds = y.holds; stands = y.stands }

    -- the last part of a loop, and the loop again
    settles_turn : (l : Places) (k : List Todo) (last again : TypedStatement) (leave : ℕ) (next : Option ℕ) (spot to : Spot) (code : Code)
        → StandsAt (Next last again ∷ k) leave next to → Comes bs spot to → Sits bs spot code → Holds n l r w.globals
        → Settles w r code (record { locals = l; todo = before last (before again k) })
    settles_turn l k last again leave next spot to code f c s h =
        settles_from code spot to _ c s (λ code' s'.
        here code' to _ f.outer_leave f.outer_next f.targets s' h
        (follows_before last (before again k) f.outer_leave f.outer_next to (Line f.bottom) f.last_coded f.last_fits
        (follows_before again k f.outer_leave f.outer_next (Line f.bottom) f.after f.loop_coded f.loop_fits f.rest)))

    pub settles : (m : Mode) (l : Places) (k : List Todo) (leave : ℕ) (next : Option ℕ) (from : Spot) (code : Code) → Seated bs m from leave next code
        → Targets bs leave next → Follows k leave next from → Holds n l r w.globals → Settles w r code (next_point m l k)
    settles Going l [] leave next from code s t f h = here code from _ leave next t s h f
    settles Breaking l [] leave next from code s t f h = here code (Block leave) _ leave next t s h (follows_here [] leave next (Block leave) t.leaves)
    settles Continuing l [] leave next from code s t f h =
        here code (Block s.0) _ leave next t s.2 h (follows_here [] leave next (Block s.0) (t.continues s.0 s.1))
    settles Going l (Do (unset x) ∷ k) leave next from code s t f h =
        settles_from code from f.at.middle _ (comes_then f.comes (comes_equal bs f.spot f.at.middle f.at.coded)) s
        (λ code' s'. settles Going (places_with l x None) k leave next f.at.middle code' s' t f.at.rest (holds_unset n l r w.globals x h))
    settles Going l (Do break_loop ∷ k) leave next from code s t f h =
        settles_from code from (Block leave) _ (comes_then f.comes (comes_equal bs f.spot (Block leave) f.at.coded)) s
        (λ code' s'. settles Breaking l k leave next f.at.middle code' s' t f.at.rest h)
    settles Going l (Do continue_loop ∷ k) leave next from code s t f h =
        let c = f.at.coded in
        settles_from code from (Block c.0) _ (comes_then f.comes (comes_equal bs f.spot (Block c.0) c.2)) s
        (λ code' s'. settles Continuing l k leave next f.at.middle code' (c.0, c.1, s') t f.at.rest h)
    settles Going l (Next last again ∷ k) leave next from code s t f h = settles_turn l k last again leave next from f.spot code f.at f.comes s h
    settles Going l (Do s ∷ k) leave next from code si t f h = here code from _ leave next t si h f
    settles Breaking l (Do s ∷ k) leave next from code si t f h = settles Breaking l k leave next f.at.middle code si t f.at.rest h
    settles Breaking l (Next last again ∷ k) leave next from code s t f h =
        let a = f.at in
        settles_from code (Block leave) a.after _ (comes_join bs leave a.after a.left) s
        (λ code' s'. settles Going l k a.outer_leave a.outer_next a.after code' s' a.targets a.rest h)
    settles Continuing l (Do s ∷ k) leave next from code si t f h = settles Continuing l k leave next f.at.middle code si t f.at.rest h
    settles Continuing l (Next last again ∷ k) leave next from code s t f h =
        settles_turn l k last again leave next (Block s.0) f.spot code f.at (comes_join bs s.0 f.spot (f.at.continues s.0 s.1)) s.2 h
