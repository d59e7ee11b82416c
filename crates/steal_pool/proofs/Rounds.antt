-- A member's turn comes to each deque.
use Rattle.std.proofs.Common.{◌≡◌, ℕ, zero, suc, ◌+◌, ◌-◌, ◌%◌, ◌<◌, ◌≤◌, ◌⊎◌, List, [], ◌∷◌, All, MatchOption, Option, Some, None, length, get_or, map, slice_get, sym, refl, ap, ◌∙◌, subst, inl, inr, ⊎_elim, mod-eq_of_lt, arith}
use Rattle.std.specs.Prelude.{⊤}
use Rattle.std.proofs.Math.Nat.{add-mod_right}
use Rattle.std.proofs.lemmas.List.{length-map}
use Rattle.std.proofs.lemmas.List.Elements.{All-get_or}
use Rattle.std.proofs.lemmas.Option.{slice_get-map, slice_get_within, slice_get-get_or, slice_get_cases}
use Rattle.std.specs.Option.{option_map}
use Rattle.std.specs.declared.alloc.Global.{Global}
use Rattle.atomic_blocks.specs.Lent.{RowsId}
use Rattle.crossbeam_deque.specs.Handles.{view, worker_view, worker_deque, stealer_deque}
use Rattle.steal_pool.specs.declared.view.View.{View}
use Rattle.steal_pool.specs.declared.victim.Victim.{Victim}
use Rattle.steal_pool.specs.declared.member.Member.{Member}
use Rattle.steal_pool.specs.Members.{deques_of, views_of}
use Rattle.steal_pool.specs.Shares.{IsShare}
use Rattle.steal_pool.specs.Starts.{own_deques, Start}
use Rattle.steal_pool.proofs.Shares.{put_kept}
use Rattle.steal_pool.specs.Rule.{after_taking}
use Rattle.steal_pool.specs.Victims.{TookOne}
use Rattle.steal_pool.specs.Rounds.{GoesRound, FoundEmpty}

below_or_not : (w j : ℕ) → (w ≤ j) ⊎ (j < w)
below_or_not zero j = inl (omega arith)
below_or_not (suc w) zero = inr (omega arith)
below_or_not (suc w) (suc j) = ⊎_elim (λ (x : w ≤ j). inl (omega (arith, x))) (λ (x : j < w). inr (omega (arith, x))) (below_or_not w j)

-- from place w one comes to place j within c steps
pub comes_to : (c w j : ℕ) → w < c → j < c → (w ≤ j) ⊎ (j < w) → (k : ℕ) × (k < c) × ((w + k) % c ≡ j)
comes_to c w j low below (inl le) = (j - w, omega (arith, low, below, le), (let e : w + (j - w) ≡ j = omega (arith, le) in ap (λ n. n % c) e ∙ mod-eq_of_lt below))
comes_to c w j low below (inr lt) = (
  j + c - w,
  omega (arith, low, below, lt),
  (let e : w + (j + c - w) ≡ j + c = omega (arith, low, lt) in ap (λ n. n % c) e ∙ (add-mod_right j c ∙ mod-eq_of_lt below)),
)

abbrev pub SharesOf : ℕ → List (RowsId × Global) → ℕ → List View → Type 0
SharesOf n deques w views = (k : ℕ) (v : View) → slice_get views k ≡ Some v → IsShare ((w + k) % length deques) (length deques) n v.put

module _ {K : Type 0} where
  pub start_round : (count n : ℕ) (ms : List (Member K)) → Start count n ms → (w : ℕ) (m : Member K) → slice_get ms w ≡ Some m → GoesRound n (own_deques ms) w m
  start_round count n ms start w m at-w =
      let ds = own_deques ms in
      let ways = (start.each w m at-w).ways in
      let deque : Victim K → RowsId × Global = λ l. stealer_deque l.stealer in
      let victims = m.others.items in
      let low : w < length ds = subst (λ c. w < c) (sym (length-map ms (λ (x : Member K). worker_deque x.own))) (slice_get_within ms w m at-w) in
      let long : length ds ≡ count = length-map ms (λ (x : Member K). worker_deque x.own) ∙ start.len in
      let others : length (map deque victims) ≡ length victims = length-map victims deque in
      record {
        place = low;
        all = omega (arith, others, ways.others);
        turn = λ k below.
            elim k as (λ i. i < length ds → slice_get (deques_of m) i ≡ slice_get ds ((w + i) % length ds)) [
              | zero ↦
                  (λ _.
                  let e : (w + zero) % length ds ≡ w = ap (λ n. n % length ds) (omega arith) ∙ mod-eq_of_lt low in
                  let own : slice_get ds w ≡ Some (worker_deque m.own) = slice_get-map (λ (x : Member K). worker_deque x.own) ms w ∙ ap (option_map (λ (x : Member K). worker_deque x.own)) at-w in
                  sym (ap (λ i. slice_get ds i) e ∙ own))
              | suc i ↦
                  (λ more.
                  ⊎_elim
                  (λ (x : (l : Victim K) × (i < length victims) × (slice_get victims i ≡ Some l) × (get_or victims i l ≡ l)).
                  let here : slice_get (map deque victims) i ≡ Some (deque x.0) = slice_get-map deque victims i ∙ ap (option_map deque) x.2 in
                  let there = ways.turn i x.0 x.2 in
                  let e : w + 1 + i ≡ w + suc i = omega arith in
                  here ∙ (sym there ∙ ap (λ n. slice_get ds (n % length ds)) e))
                  (λ x. absurd (omega (arith, more, x.0, ways.others))) (slice_get_cases victims i).1)
            ] below;
        shares = λ k v at.
            elim k as (λ i. slice_get (views_of m) i ≡ Some v → IsShare ((w + i) % length ds) (length ds) n v.put) [
              | zero ↦
                  (λ is.
                  let e : w ≡ (w + zero) % length ds = sym (ap (λ n. n % length ds) (omega arith) ∙ mod-eq_of_lt low) in
                  let same : worker_view m.own ≡ v = cc is in
                  subst (λ (p : ℕ × ℕ × View). IsShare p.0 p.1 n p.2.put) (λ i. (e i, sym long i, same i)) (start.each w m at-w).share.1)
              | suc i ↦
                  (λ is.
                  let f : Victim K → View = λ l. view l.pass in
                  let seen : option_map f (slice_get victims i) ≡ Some v = sym (slice_get-map f victims i) ∙ is in
                  ⊎_elim
                  (λ (x : (l : Victim K) × (i < length victims) × (slice_get victims i ≡ Some l) × (get_or victims i l ≡ l)).
                  let same : f x.0 ≡ v = let e : Some (f x.0) ≡ Some v = sym (ap (option_map f) x.2) ∙ seen in cc e in
                  let e : w + 1 + i ≡ w + suc i = omega arith in
                  subst (λ (p : ℕ × View). IsShare (p.0 % length ds) (length ds) n p.1.put) (λ j. (e j, same j)) (ways.visits i x.0 x.2).1)
                  (λ x. let none : Some v ≡ None = sym seen ∙ ap (option_map f) x.1 in absurd (cc none)) (slice_get_cases victims i).1)
            ] at;
      }

  pub round_same : (n : ℕ) (deques : List (RowsId × Global)) (w : ℕ) (old new : Member K) → deques_of new ≡ deques_of old → SharesOf n deques w (views_of new)
      → GoesRound n deques w old → GoesRound n deques w new
  round_same n deques w old new same shares round = record {
    place = round.place;
    all = ap length same ∙ round.all;
    turn = λ k below. ap (λ l. slice_get l k) same ∙ round.turn k below;
    shares = shares;
  }

  pub round_empty : (E : View → Type 0) (n : ℕ) (deques : List (RowsId × Global)) (w : ℕ) (m : Member K) → GoesRound n deques w m → All E (views_of m) → FoundEmpty E n deques w m
  round_empty E n deques w m round each j q at =
      let c = length deques in
      let step = comes_to c w j round.place (slice_get_within deques j q at) (below_or_not w j) in
      let k = step.0 in let v = get_or (views_of m) k (worker_view m.own) in
      let victims = m.others.items in
      let long : length (map (λ (l : Victim K). view l.pass) victims) ≡ length victims = length-map victims (λ (l : Victim K). view l.pass) in
      let long' : length (map (λ (l : Victim K). stealer_deque l.stealer) victims) ≡ length victims = length-map victims (λ (l : Victim K). stealer_deque l.stealer) in
      let within : k < length (views_of m) = omega (arith, long, long', round.all, step.1) in (
        k,
        v,
        step.2,
        round.turn k step.1 ∙ (ap (λ i. slice_get deques i) step.2 ∙ at),
        slice_get-get_or (views_of m) k (worker_view m.own) within,
        subst (λ p. IsShare p c n v.put) step.2 (round.shares k v (slice_get-get_or (views_of m) k (worker_view m.own) within)),
        All-get_or E (views_of m) k (worker_view m.own) within each,
      )

  -- what a call that gave r tells of a member that goes round these deques
  pub told : (E : View → Type 0) (r : Option ℕ) (n : ℕ) (deques : List (RowsId × Global)) (w : ℕ) (old new : Member K) → deques_of new ≡ deques_of old
      → MatchOption r ((views_of new ≡ views_of old) × All E (views_of old)) (λ i. TookOne E i (views_of old) (views_of new)) → GoesRound n deques w old
      → GoesRound n deques w new × MatchOption r (FoundEmpty E n deques w old) (λ _. ⊤)
  told E None n deques w old new same taken round =
      (round_same n deques w old new same (subst (SharesOf n deques w) (sym taken.0) round.shares) round, round_empty E n deques w old round taken.1)
  told E (Some i) n deques w old new same (k, v, at, is, passed) round =
      let P : ℕ → List ℕ → Type 0 = λ j put. IsShare ((w + j) % length deques) (length deques) n put in
      (round_same n deques w old new same (subst (SharesOf n deques w) (sym is) (put_kept P (views_of old) k v (after_taking v (i ∷ [])) at refl round.shares)) round, tt)
