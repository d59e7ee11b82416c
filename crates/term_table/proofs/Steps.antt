-- What the single steps of a call tell.
use Rattle.std.proofs.Common.{◌≡◌, ℕ, zero, suc, ◌+◌, ◌-◌, ◌*◌, ◌<◌, ◌≤◌, ◌==◌, Bool, false, cond, List, [], ◌∷◌, ◌++◌}
use Rattle.std.proofs.Common.{refl, ap, subst, ◌∙◌, ne_eqb, eq-eqb, arith}
use Rattle.atomic_table.specs.Table.{Me}
use Rattle.term_core.specs.declared.Entry.{Entry}
use Rattle.term_core.specs.declared.Answer.{Answer}
use Rattle.term_core.specs.declared.Answer.TheVariants.{Full, Missing}
use Rattle.term_core.specs.declared.Stage.{Stage}
use Rattle.term_core.specs.declared.Stage.TheVariants.{AtLink, AtContent, Writing, Linking}
use Rattle.term_core.specs.declared.Call.{Call}
use Rattle.term_core.specs.declared.Call.TheVariants.{Intern}
use Rattle.term_core.specs.declared.Walker.{Walker}
use Rattle.term_core.specs.World.{begins, step_start, is_idle, place, becomes, turn, Turn, goes, ends, entry, follows, turn_without_node, first_stage}
use Rattle.term_core.specs.Terms.{StartsWith}
use Rattle.term_core.specs.Law.{Sees}
use Rattle.term_core.proofs.Replay.{cond_has}
use Rattle.term_table.specs.declared.view.Walk.{Walk}
use Rattle.term_table.specs.declared.view.View.{View}
use Rattle.term_table.specs.declared.view.View.TheVariants.{Walking}
use Rattle.term_table.specs.Rule.{Moved, MovedFrom}
use Rattle.term_table.specs.Seats.{MayBegin}
use Rattle.term_table.specs.Calls.{Begun, inside, before, at, walker_of, Ready, IsAt, IsAtLink, Ended, Arrived}

pub paired : {S : Type 0} (me : Me S View) (u : View) (l : List (ℕ × S)) → me.0 ≡ u → me.1 ≡ l → me ≡ (u, l)
paired me u l p q = λ i. (p i, q i)

-- Where the next step is

pub is_at : {S : Type 0} (b : Begun) (v : Walker) (g : Stage) (p : ℕ) (me : Me S View) → me ≡ (Walking v b.told, []) → v.seen ≡ b.start.seen
    → step_start b.shape (begins b.call) v ≡ inside b.start g p → IsAt b g p me
is_at b v g p me is seen next = rw is (record { pass = refl; seen = seen; next = next })

-- a pass that begins a call
pub begins_at : {S : Type 0} (b : Begun) (g : Stage) (me : Me S View) → MayBegin b → me ≡ before b → first_stage b.shape b.call ≡ g
    → IsAt b g 0 me
begins_at b g me may is first = is_at b b.start g 0 me is refl (rw (may.0, may.1, first) refl)

-- where a node's content differs, the walk goes on at its link
pub at_link : {S : Type 0} (b : Begun) (written : Bool) (link p : ℕ) (walk : Walk) (me : Me S View) → me ≡ at b (AtLink b.call written link) p
    → walk ≡ record { link = link; written = written; probes = p } → IsAtLink b walk me
at_link b written link p walk me is then = rw then (is_at b (inside b.start (AtLink b.call written link) p) _ p me is refl refl)

-- the pass is before the link of its own node, or before its first word where the node isn't written
pub goes_on : {S : Type 0} (b : Begun) (walk : Walk) (z : Bool) (me : Me S View) → walk.written ≡ z
    → me.0 ≡ Walking (inside b.start (cond walk.written (Linking b.call walk.link) (Writing b.call walk.link 0)) walk.probes) b.told
    → me.1 ≡ [] → me ≡ at b (cond z (Linking b.call walk.link) (Writing b.call walk.link 0)) walk.probes
goes_on b walk z me is view none = rw (← is) (paired me _ [] view none)

-- the next step is a load
pub load_ready : {S : Type 0} (b : Begun) (g : Stage) (p i : ℕ) (me : Me S View) → IsAt b g p me → is_idle g ≡ false
    → i ≡ place b.shape (inside b.start g p) → ((n : ℕ) → n ≡ becomes (inside b.start g p) n)
    → Ready b.shape (begins b.call) me.0 i (λ n. n) (λ n. n)
load_ready b g p i me is busy at loads = rw (is.pass, is.next) (busy, at, loads, λ h n. refl)

-- What a step makes of the pass

-- over a history that begins with all that the pass had seen
pub record Turned (b : Begun) (v : Walker) (n : ℕ) (u : View) : Type 0 where
  pub history : List Entry
  pub begins : StartsWith history b.start.seen
  pub view : u ≡ Walking (turn b.shape history n v).walker b.told
  pub sees : Sees b.shape (history ++ (turn b.shape history n v).said) (turn b.shape history n v).walker

pub turned : {S : Type 0} (b : Begun) (g : Stage) (p n : ℕ) (me : Me S View) (u : View) → IsAt b g p me
    → MovedFrom b.shape (begins b.call) me.0 n u → Turned b (inside b.start g p) n u
turned b g p n me u is m =
    let d : Moved b.shape (begins b.call) (walker_of me.0) b.told n u = rw is.pass at m in
    subst (λ (v : Walker). Turned b v n u) is.next
    (record { history = d.history; begins = rw is.seen at d.begins; view = d.view; sees = d.sees })

-- the end of a call
pub ended : (b : Begun) (g : Stage) (p : ℕ) (h : List Entry) (a : Answer) (u : View) → StartsWith h b.start.seen
    → u ≡ Walking (ends h (inside b.start g p) b.call a).walker b.told
    → Sees b.shape (h ++ (ends h (inside b.start g p) b.call a).said) (ends h (inside b.start g p) b.call a).walker
    → Ended b a b.start.own b.start.room p u
ended b g p h a u front view sees = record {
  walker = (ends h (inside b.start g p) b.call a).walker;
  view = view;
  answered = λ id. record {
    between = front.0;
    seen = ap (λ (l : List Entry). l ++ entry b.start b.call a ∷ []) front.1;
    mine = refl;
    legal = sees.legal;
    own = sees.own;
    same = sees.same;
    probes = sees.probes;
    pass = (refl, refl, refl, refl, refl);
  };
  idle = refl;
  legal = sees.legal;
  count = sees.count;
  low = sees.low;
  by_is = refl;
  own_is = refl;
  room_is = refl;
  probes_is = refl;
}

-- a link was loaded
module _ (b : Begun) (walk : Walk) where
  abbrev x : Walker
  x = inside b.start (AtLink b.call walk.written walk.link) walk.probes

  abbrev Fits : List Entry → Turn → Type 0
  Fits h t = Sees b.shape (h ++ t.said) t.walker

  -- so many links are loaded at most, and the pass's next node is one of the table's
  abbrev IsLow : Type 0
  IsLow = (walk.probes ≤ b.shape.workers * b.shape.nodes + 1) × (0 < b.start.room → b.start.own < b.shape.workers * b.shape.nodes)

  -- a turn that leaves the pass's number of loads and its own nodes
  abbrev Same : Turn → Type 0
  Same t = (t.walker.probes ≡ walk.probes) × (t.walker.room ≡ b.start.room) × (t.walker.own ≡ b.start.own)

  is_low : (h : List Entry) (t : Turn) → Same t → Fits h t → IsLow
  is_low h t same d = (omega (arith, d.probes, d.pairs, same.0), λ some. omega (arith, d.own_low (omega (arith, same.1)), same.2))

  same_without : (h : List Entry) (c : Call) → Same (turn_without_node h x c walk.written walk.link)
  same_without h (Intern l ks) = cond_has Same (b.start.room == 0) _ _ (refl, refl, refl) (refl, refl, refl)
  same_without h _ = (refl, refl, refl)

  arrived : (h : List Entry) (n : ℕ) (u : View) → StartsWith h b.start.seen
      → u ≡ Walking (follows h x b.call walk.written walk.link n).walker b.told → Fits h (follows h x b.call walk.written walk.link n)
      → Arrived b walk n u
  arrived h zero u front view sees =
      let low = is_low h _ (same_without h b.call) sees in
      let stop : (a : Answer) → turn_without_node h x b.call walk.written walk.link ≡ ends h x b.call a
      → Ended b a b.start.own b.start.room walk.probes u = λ a e.
      ended b x.stage walk.probes h a u front (rw e at view) (rw e at sees) in
      record {
        missing = λ z find. stop Missing (rw find.2 refl);
        full = λ z intern r. stop Full (rw (intern.2, eq-eqb b.start.room 0 r) refl);
        free = λ z intern r.
            let e : turn_without_node h x b.call walk.written walk.link
            ≡ goes x (cond walk.written (Linking b.call walk.link) (Writing b.call walk.link 0)) =
            rw (intern.2, ne_eqb b.start.room 0 (omega arith)) refl in view ∙ ap (λ (t : Turn). Walking t.walker b.told) e;
        some = λ z. absurd (omega arith);
        few = low.0;
        own_low = low.1;
      }
  arrived h (suc n) u front view sees =
      let low = is_low h (goes x (AtContent b.call walk.written n 0)) (refl, refl, refl) sees in
      record {
        missing = λ z. absurd (omega arith);
        full = λ z. absurd (omega arith);
        free = λ z. absurd (omega arith);
        some = λ z. let e : suc n - 1 ≡ n = omega arith in rw e (view, omega (arith, sees.within));
        few = low.0;
        own_low = low.1;
      }

pub arrived_at : {S : Type 0} (b : Begun) (walk : Walk) (n : ℕ) (me : Me S View) (u : View) → IsAtLink b walk me
    → MovedFrom b.shape (begins b.call) me.0 n u → Arrived b (record walk { probes = walk.probes + 1 }) n u
arrived_at b walk n me u is m =
    let d = turned b (AtLink b.call walk.written walk.link) walk.probes n me u is m in
    subst (λ (p : ℕ). Arrived b (record walk { probes = p }) n u) (omega arith)
    (arrived b (record walk { probes = suc walk.probes }) d.history n u d.begins d.view d.sees)
