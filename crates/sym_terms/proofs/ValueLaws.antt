-- Normal forms keep the value.
use Rattle.std.proofs.Common.{◌≡◌, ◌≢◌, ℕ, ◌+◌, ◌%◌, ◌^◌, ◌<◌, Bool, true, false, cond, not, ◌==◌, Option, Some, None}
use Rattle.std.proofs.Common.{refl, sym, ap, ap₂, ◌∙◌, subst, true≢false, eqb-true, leb-true, arith}
use Rattle.std.proofs.lemmas.Bool.{and_parts, eqb-false, not-true}
use Rattle.std.proofs.lemmas.Option.{same_Some, none-some}
use Rattle.words.specs.declared.operator.Operator.{Operator}
use Rattle.words.specs.declared.operator.Operator.TheVariants.{Addu}
use Rattle.words.specs.declared.width.Width.{Width}
use Rattle.words.specs.declared.width.Width.TheVariants.{Word, Byte}
use Rattle.words.specs.Words.{wrap}
use Rattle.words.specs.Operators.{op_value}
use Rattle.words.proofs.Bounds.{op_words}
use Rattle.mips_isa.specs.States.{State, IsWords, AreApart, load_at, store_at}
use Rattle.mips_isa.proofs.Memory.{load-past-store, stores-commute}
use Rattle.mips_isa.proofs.StateWords.{load_below, store_below}
use Rattle.sym_terms.specs.declared.label.Origin.TheVariants.{Register, Hi, Lo, Link}
use Rattle.sym_terms.specs.declared.label.Label.{Label}
use Rattle.sym_terms.specs.declared.label.Label.TheVariants.{Init, Const, Op, Load, Store}
use Rattle.sym_terms.specs.Trees.{Tree, node, none, more, leaf, binary, ternary}
use Rattle.sym_terms.specs.Values.{tree_word, tree_memory, leaf_value, binary_value, ternary_memory}
use Rattle.sym_terms.specs.Sameness.{are_same}
use Rattle.sym_terms.specs.NormalForms.{const_tree, label_constant, constant_of, is_addition, is_sum, Address, sum_address, address_of, tree_plus, sum_tree}
use Rattle.sym_terms.specs.NormalForms.{op_tree, distance, are_disjoint, are_apart, is_passed, is_passed_inward, load_tree, store_tree}
use Rattle.sym_terms.specs.Laws.{OpTreesHaveValues, LoadTreesHaveValues, StoreTreesHaveValues}
use Rattle.sym_terms.proofs.Sameness.{operator-is, same-is}

no : {A : Type 0} → false ≡ true → A
no e = absurd (true≢false (sym e))

-- a sum's label is that of an addition
sum-label : (l : Label) → is_sum l ≡ true → l ≡ Op Addu
sum-label (Op op) h = ap Op (operator-is op Addu h)
sum-label _ h = no h

constant-label : (l : Label) (c : ℕ) → label_constant l ≡ Some c → l ≡ Const c
constant-label (Const w) c h = ap Const (same_Some w c h)
constant-label _ c h = absurd (none-some c h)

constant-is : (t : Tree) (c : ℕ) → constant_of t ≡ Some c → t ≡ const_tree c
constant-is (node l none) c h = ap leaf (constant-label l c h)
constant-is (node l (more x xs)) c h = absurd (none-some c h)

sum-value : (a b : ℕ) → op_value Addu a b ≡ wrap (a + b)
unfolding op_value
sum-value a b = refl

sums : (x o c : ℕ) → wrap (x + wrap (o + c)) ≡ wrap (wrap (x + o) + wrap c)
sums x o c = omega arith

differ : (x a b : ℕ) → a < 2 ^ 32 → b < 2 ^ 32 → a ≢ b → wrap (x + a) ≢ wrap (x + b)
differ x a b la lb n = λ h. n (omega (arith, la, lb, h))

-- what is apart from one base stays so with the base in it
apart-at : (v w : Width) (x a b : ℕ) → a < 2 ^ 32 → b < 2 ^ 32 → are_disjoint v a w b ≡ true → AreApart v (wrap (x + a)) w (wrap (x + b))
apart-at Word Word x a b la lb h =
    differ x a b la lb (eqb-false a b (not-true (a == b) (and_parts (not (a == b)) (distance a b % 4 == 0) h).0))
apart-at Byte Byte x a b la lb h = differ x a b la lb (eqb-false a b (not-true (a == b) h))
apart-at Byte Word x a b la lb h = let far = leb-true 4 (distance a b) h in omega (arith, la, lb, far)
apart-at Word Byte x a b la lb h = let far = leb-true 4 (distance b a) h in omega (arith, la, lb, far)

store-passed : (l : Label) (a : Address) (w : Width) (b : Address) → is_passed l a w b ≡ true → (v : Width) × (l ≡ Store v) × (are_apart v a w b ≡ true)
store-passed (Store v) a w b h = (v, refl, h)
store-passed _ a w b h = no h

module _ (s : State) (link : ℕ) (words : IsWords s) (low : link < 2 ^ 32) where
  leaf-fits : (l : Label) → leaf_value l s link < 2 ^ 32
  leaf-fits (Init (Register r)) = words.regs r
  leaf-fits (Init Hi) = words.hi
  leaf-fits (Init Lo) = words.lo
  leaf-fits (Init Link) = low
  leaf-fits _ = omega arith

  binary-fits : (l : Label) (m : ℕ → ℕ) (a b : ℕ) → ((c : ℕ) → m c < 2 ^ 8) → a < 2 ^ 32 → b < 2 ^ 32 → binary_value l s.mapped m a b < 2 ^ 32
  binary-fits (Op op) m a b h ha hb = op_words op a b ha hb
  binary-fits (Load w) m a b h ha hb = load_below w s.mapped m b h
  binary-fits _ m a b h ha hb = omega arith

  ternary-fits : (l : Label) (m : ℕ → ℕ) (a v : ℕ) → ((c : ℕ) → m c < 2 ^ 8) → (c : ℕ) → ternary_memory l s.mapped m a v c < 2 ^ 8
  ternary-fits (Store w) m a v h c = store_below w s.mapped m a v h c
  ternary-fits _ m a v h c = h c

  mutual
    word-fits : (t : Tree) → tree_word t s link < 2 ^ 32
    word-fits (node l none) = leaf-fits l
    word-fits (node l (more a (more b none))) =
        binary-fits l (tree_memory a s link) (tree_word a s link) (tree_word b s link) (memory-fits a) (word-fits a) (word-fits b)
    word-fits (node l (more a _)) = omega arith

    memory-fits : (t : Tree) (c : ℕ) → tree_memory t s link c < 2 ^ 8
    memory-fits (node l (more a (more b (more v none)))) c =
        ternary-fits l (tree_memory a s link) (tree_word b s link) (tree_word v s link) (memory-fits a) c
    memory-fits (node l _) c = words.memory c

  plain-address : (t : Tree) → tree_word t s link ≡ wrap (tree_word t s link + 0)
  plain-address t = let h = word-fits t in omega (arith, h)

  address-value : (t : Tree) → tree_word t s link ≡ wrap (tree_word (address_of t).base s link + (address_of t).offset)
  address-value (node l none) = plain-address (node l none)
  address-value (node l (more x none)) = plain-address (node l (more x none))
  address-value (node l (more x (more y (more z rest)))) = plain-address (node l (more x (more y (more z rest))))
  address-value (node l (more x (more y none))) = go (is_sum l) (constant_of y) refl refl
    where
      go : (b : Bool) (o : Option ℕ) → is_sum l ≡ b → constant_of y ≡ o → tree_word (binary l x y) s link
          ≡ wrap (tree_word (sum_address b (binary l x y) x o).base s link + (sum_address b (binary l x y) x o).offset)
      go true (Some c) eb eo =
          ap₂ (λ k t. tree_word (binary k x t) s link) (sum-label l eb) (constant-is y c eo) ∙ sum-value (tree_word x s link) (wrap c)
      go true None eb eo = plain-address (binary l x y)
      go false o eb eo = plain-address (binary l x y)

  offset-fits : (t : Tree) → (address_of t).offset < 2 ^ 32
  offset-fits (node l (more x (more y none))) = go (is_sum l) (constant_of y)
    where
      go : (b : Bool) (o : Option ℕ) → (sum_address b (binary l x y) x o).offset < 2 ^ 32
      go true (Some c) = omega arith
      go true None = omega arith
      go false o = omega arith
  offset-fits (node l _) = omega arith

  plus-value : (x : Tree) (c : ℕ) → c < 2 ^ 32 → tree_word (tree_plus x c) s link ≡ wrap (tree_word x s link + c)
  plus-value x c lt = go (c == 0) refl
    where
      go : (b : Bool) → (c == 0) ≡ b → tree_word (cond b x (binary (Op Addu) x (const_tree c))) s link ≡ wrap (tree_word x s link + c)
      go true e = plain-address x ∙ ap (λ n. wrap (tree_word x s link + n)) (sym (eqb-true c 0 e))
      go false e = sum-value (tree_word x s link) (wrap c) ∙ omega arith

  sum-tree-value : (a b : Tree) (o : Option ℕ) → constant_of b ≡ o
      → tree_word (sum_tree a b o) s link ≡ op_value Addu (tree_word a s link) (tree_word b s link)
  sum-tree-value a b None e = refl
  sum-tree-value a b (Some c) e =
      plus-value (address_of a).base (wrap ((address_of a).offset + c)) (omega arith)
      ∙ (sums (tree_word (address_of a).base s link) (address_of a).offset c
      ∙ (ap (λ n. wrap (n + wrap c)) (sym (address-value a))
      ∙ (sym (sum-value (tree_word a s link) (wrap c))
      ∙ ap (λ t. op_value Addu (tree_word a s link) (tree_word t s link)) (sym (constant-is b c e)))))

  op-value : (op : Operator) (a b : Tree) → tree_word (op_tree op a b) s link ≡ op_value op (tree_word a s link) (tree_word b s link)
  unfolding op_tree
  op-value op a b = go (is_addition op) refl
    where
      go : (c : Bool) → is_addition op ≡ c → tree_word (cond c (sum_tree a b (constant_of b)) (binary (Op op) a b)) s link
          ≡ op_value op (tree_word a s link) (tree_word b s link)
      go true e =
          sum-tree-value a b (constant_of b) refl
          ∙ ap (λ p. op_value p (tree_word a s link) (tree_word b s link)) (sym (operator-is op Addu e))
      go false e = refl

  apart-values : (v w : Width) (a b : Tree) → are_apart v (address_of a) w (address_of b) ≡ true
      → AreApart v (tree_word a s link) w (tree_word b s link)
  apart-values v w a b h =
      let parts = and_parts (are_same (address_of a).base (address_of b).base) (are_disjoint v (address_of a).offset w (address_of b).offset) h in
      let one : tree_word (address_of a).base s link ≡ tree_word (address_of b).base s link =
      ap (λ t. tree_word t s link) (same-is (address_of a).base (address_of b).base parts.0) in
      let at = apart-at v w (tree_word (address_of a).base s link) (address_of a).offset (address_of b).offset (offset-fits a) (offset-fits b) parts.1 in
      subst (λ x. AreApart v (tree_word a s link) w x)
      (ap (λ x. wrap (x + (address_of b).offset)) one ∙ sym (address-value b))
      (subst (λ x. AreApart v x w (wrap (tree_word (address_of a).base s link + (address_of b).offset))) (sym (address-value a)) at)

  load-value : (w : Width) (m b : Tree) → tree_word (load_tree w m b) s link ≡ load_at w s.mapped (tree_memory m s link) (tree_word b s link)
  unfolding load_tree
  load-value w (node l (more m (more a (more y none)))) b =
      go (load-value w m b) (is_passed l (address_of a) w (address_of b)) refl
    where
      go : tree_word (load_tree w m b) s link ≡ load_at w s.mapped (tree_memory m s link) (tree_word b s link)
          → (c : Bool) → is_passed l (address_of a) w (address_of b) ≡ c
          → tree_word (cond c (load_tree w m b) (binary (Load w) (ternary l m a y) b)) s link
          ≡ load_at w s.mapped (tree_memory (ternary l m a y) s link) (tree_word b s link)
      go below false e = refl
      go below true e =
          let p = store-passed l (address_of a) w (address_of b) e in
          below
          ∙ (sym (load-past-store p.0 w s.mapped (tree_memory m s link) (tree_word a s link) (tree_word y s link) (tree_word b s link)
          (apart-values p.0 w a b p.2))
          ∙ ap (λ k. load_at w s.mapped (tree_memory (ternary k m a y) s link) (tree_word b s link)) (sym p.1))
  load-value w (node l _) b = refl

  store-value : (w : Width) (m b x : Tree)
      → tree_memory (store_tree w m b x) s link ≡ store_at w s.mapped (tree_memory m s link) (tree_word b s link) (tree_word x s link)
  unfolding store_tree
  store-value w (node l (more m (more a (more y none)))) b x =
      go (store-value w m b x) (is_passed_inward l (address_of a) w (address_of b)) refl
    where
      go : tree_memory (store_tree w m b x) s link ≡ store_at w s.mapped (tree_memory m s link) (tree_word b s link) (tree_word x s link)
          → (c : Bool) → is_passed_inward l (address_of a) w (address_of b) ≡ c
          → tree_memory (cond c (ternary l (store_tree w m b x) a y) (ternary (Store w) (ternary l m a y) b x)) s link
          ≡ store_at w s.mapped (tree_memory (ternary l m a y) s link) (tree_word b s link) (tree_word x s link)
      go below false e = refl
      go below true e =
          let parts = and_parts (is_passed l (address_of a) w (address_of b)) _ e in
          let p = store-passed l (address_of a) w (address_of b) parts.0 in
          let mem = tree_memory m s link in
          let at = tree_word a s link in
          let there = tree_word b s link in
          ap (λ k. ternary_memory l s.mapped k at (tree_word y s link)) below
          ∙ (ap (λ k. ternary_memory k s.mapped (store_at w s.mapped mem there (tree_word x s link)) at (tree_word y s link)) p.1
          ∙ (sym (stores-commute p.0 w s.mapped mem at (tree_word y s link) there (tree_word x s link) (apart-values p.0 w a b p.2))
          ∙ ap (λ k. store_at w s.mapped (ternary_memory k s.mapped mem at (tree_word y s link)) there (tree_word x s link)) (sym p.1)))
  store-value w (node l _) b x = refl

pub op_tree-value : OpTreesHaveValues
op_tree-value op a b s link words low = op-value s link words low op a b

pub load_tree-value : LoadTreesHaveValues
load_tree-value w m a s link words low = load-value s link words low w m a

pub store_tree-value : StoreTreesHaveValues
store_tree-value w m a v s link words low = store-value s link words low w m a v
