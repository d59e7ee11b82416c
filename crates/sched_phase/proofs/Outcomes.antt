-- Two phases over one unit that decided each block come to the same.
use Rattle.std.proofs.Common.{◌≡◌, ◌<◌, ℕ, zero, suc, List, [], ◌∷◌, length, Some, slice_get, refl, sym, ap, ◌∙◌, subst, arith}
use Rattle.std.proofs.lemmas.List.{same_lists}
use Rattle.std.proofs.lemmas.List.Sums.{sum_by-cons}
use Rattle.std.proofs.lemmas.Option.{same_Some, none-some, slice_get_within, slice_get-get_or}
use Rattle.std.specs.List.{sum_by}
use Rattle.mblock.specs.Parts.{BlockParts, OrderParts}
use Rattle.image.specs.Images.{CountsOf}
use Rattle.block_validator.specs.Verdicts.{Decision, Decides}
use Rattle.block_validator.specs.Verdicts as decisions
use Rattle.block_validator.proofs.Deciding.{one_decision}
use Rattle.sched_phase.specs.Phases.{Proposals, Kind, same, unclean, differs, full, no_memory, missed, Counts, Suits, MayCome, AreSettled, count_of}
use Rattle.sched_phase.proofs.Settled.{there}
use Rattle.sched_phase.specs.Outcomes.{ProposesOne, EachDecided, OneOutcome}

abbrev kind_decided : Decision → Kind
kind_decided decisions.same = same
kind_decided (decisions.unclean rule) = unclean
kind_decided (decisions.differs place) = differs

-- a kind that is counted as neither full, refused nor missed is that of a decision
decided : (proposes : Proposals) (b : BlockParts) (o : OrderParts) (k : Kind) → Suits proposes b o k → (count_of k).full ≡ 0
    → (count_of k).no_memory ≡ 0 → (count_of k).missed ≡ 0 → (d : Decision) × MayCome proposes b d × (k ≡ kind_decided d)
decided proposes b o same h f n m = (decisions.same, (o, h.0, h.1), refl)
decided proposes b o unclean h f n m = (decisions.unclean h.1.0, h.1.1, refl)
decided proposes b o differs h f n m = (decisions.differs h.1.0, h.1.1, refl)
decided proposes b o full h f n m = absurd (omega (arith, f))
decided proposes b o no_memory h f n m = absurd (omega (arith, n))
decided proposes b o missed h f n m = absurd (omega (arith, m))

one_kind : (proposes : Proposals) → ProposesOne proposes → (b : BlockParts) (j k : Kind) → (d : Decision) × MayCome proposes b d × (j ≡ kind_decided d)
    → (d : Decision) × MayCome proposes b d × (k ≡ kind_decided d) → j ≡ k
one_kind proposes one b j k x y =
    let d = x.0 in
    let u = x.1 in
    let v = y.1 in
    let here : Decides b v.0 d = subst (λ o. Decides b o d) (one b u.0 v.0 u.1 v.1) u.2 in
    x.2 ∙ ap kind_decided (one_decision b v.0 d y.0 here v.2) ∙ sym y.2

one_order : (proposes : Proposals) → ProposesOne proposes → (b : BlockParts) (o p : OrderParts) (k : Kind) → Suits proposes b o k → Suits proposes b p k
    → o ≡ p
one_order proposes one b o p same h g = one b o p h.0 g.0
one_order proposes one b o p unclean h g = h.0 ∙ sym g.0
one_order proposes one b o p differs h g = h.0 ∙ sym g.0
one_order proposes one b o p _ h g = h ∙ sym g

zero_each : (f : Kind → ℕ) (ks : List Kind) → sum_by f ks ≡ 0 → (i : ℕ) (k : Kind) → slice_get ks i ≡ Some k → f k ≡ 0
zero_each f [] h i k at = absurd (none-some k at)
zero_each f (j ∷ ks) h zero k at = subst (λ j. f j ≡ 0) (same_Some j k at) (omega (arith, sum_by-cons f j ks, h))
zero_each f (j ∷ ks) h (suc i) k at = zero_each f ks (omega (arith, sum_by-cons f j ks, h)) i k at

same_each : {X : Type 0} (xs ys : List X) → length xs ≡ length ys
    → ((i : ℕ) (x y : X) → slice_get xs i ≡ Some x → slice_get ys i ≡ Some y → x ≡ y) → xs ≡ ys
same_each xs ys long h =
    same_lists xs ys long (λ k d low. h k _ _ (slice_get-get_or xs k d low) (slice_get-get_or ys k d (subst (λ n. k < n) long low)))

-- the kind of a place is decided
kind_at : (proposes : Proposals) (c : CountsOf) (ks : List Kind) → Counts ks c → EachDecided c → (b : BlockParts) (o : OrderParts) (i : ℕ) (k : Kind)
    → slice_get ks i ≡ Some k → Suits proposes b o k → (d : Decision) × MayCome proposes b d × (k ≡ kind_decided d)
kind_at proposes c ks counts none b o i k at suits =
    decided proposes b o k suits (zero_each (λ k. (count_of k).full) ks (sym counts.full ∙ none.full) i k at)
    (zero_each (λ k. (count_of k).no_memory) ks (sym counts.no_memory ∙ none.no_memory) i k at)
    (zero_each (λ k. (count_of k).missed) ks (sym counts.missed ∙ none.missed) i k at)

module _ (proposes : Proposals) (one : ProposesOne proposes) (blocks : List BlockParts) (os ps : List OrderParts) (c d : CountsOf)
    (h : AreSettled proposes blocks os c) (g : AreSettled proposes blocks ps d) (hs : EachDecided c) (gs : EachDecided d) where
  same_at : (i : ℕ) (o p : OrderParts) → slice_get os i ≡ Some o → slice_get ps i ≡ Some p
      → (j : Kind) × (k : Kind) × (slice_get h.kinds i ≡ Some j) × (slice_get g.kinds i ≡ Some k) × (j ≡ k) × (o ≡ p)
  same_at i o p at to =
      let x = h.each i o at in
      let y = g.each i p to in
      let b : y.0 ≡ x.0 = same_Some y.0 x.0 (sym y.2 ∙ x.2) in
      let suits : Suits proposes x.0 p y.1 = subst (λ b. Suits proposes b p y.1) b y.4 in
      let e : x.1 ≡ y.1 = one_kind proposes one x.0 x.1 y.1 (kind_at proposes c h.kinds h.counted hs x.0 o i x.1 x.3 x.4)
      (kind_at proposes d g.kinds g.counted gs x.0 p i y.1 y.3 suits) in
      (x.1, y.1, x.3, y.3, e, one_order proposes one x.0 o p y.1 (subst (λ k. Suits proposes x.0 o k) e x.4) suits)

  same_orders : length os ≡ length ps → os ≡ ps
  same_orders long = same_each os ps long (λ i o p at to. let w = same_at i o p at to in w.5)

  same_kinds : length os ≡ length ps → h.kinds ≡ g.kinds
  same_kinds long = same_each h.kinds g.kinds (h.long ∙ long ∙ sym g.long) (λ i j k at to.
      let lt : i < length os = subst (λ n. i < n) h.long (slice_get_within h.kinds i j at) in
      let o = there os i lt in
      let p = there ps i (subst (λ n. i < n) long lt) in
      let w = same_at i o.0 p.0 o.1 p.1 in
      same_Some j w.0 (sym at ∙ w.2) ∙ w.4 ∙ sym (same_Some k w.1 (sym to ∙ w.3)))

one_report : (ks js : List Kind) (c d : CountsOf) → ks ≡ js → Counts ks c → Counts js d → c ≡ d
one_report ks js c d e h g =
    let G : Counts ks d = subst (λ ks. Counts ks d) (sym e) g in
    ap (λ n. record c { same = n }) (h.same ∙ sym G.same)
    ∙ ap (λ n. record c { same = d.same; unclean = n }) (h.unclean ∙ sym G.unclean)
    ∙ ap (λ n. record c { same = d.same; unclean = d.unclean; differs = n }) (h.differs ∙ sym G.differs)
    ∙ ap (λ n. record c { same = d.same; unclean = d.unclean; differs = d.differs; full = n }) (h.full ∙ sym G.full)
    ∙ ap (λ n. record d { no_memory = n; missed = c.missed }) (h.no_memory ∙ sym G.no_memory)
    ∙ ap (λ n. record d { missed = n }) (h.missed ∙ sym G.missed)

pub one_outcome : (proposes : Proposals) → OneOutcome proposes
one_outcome proposes one s t S T unit h k hs ks =
    let g : AreSettled proposes s.unit.blocks t.orders t.report = subst (λ u. AreSettled proposes u.blocks t.orders t.report) (sym unit) k in
    let long : length s.orders ≡ length t.orders = S.orders.long ∙ ap (λ u. length u.blocks) unit ∙ sym T.orders.long in (
      same_orders proposes one s.unit.blocks s.orders t.orders s.report t.report h g hs ks long,
      one_report h.kinds g.kinds s.report t.report (same_kinds proposes one s.unit.blocks s.orders t.orders s.report t.report h g hs ks long) h.counted g.counted,
    )
