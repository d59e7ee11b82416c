-- A block is as it was, or ends with a copy of another; and what is named is there.
use Rattle.std.proofs.Common.{◌≡◌, ℕ, zero, suc, ◌+◌, ◌<◌, ◌≤◌, ◌⊎◌, inl, inr, Bool, true, false, List, [], ◌∷◌, ◌++◌, Option, Some, None}
use Rattle.std.proofs.Common.{length, refl, ap, subst, sym, ◌∙◌, append_assoc, arith}
use Rattle.std.specs.Prelude.{All, slice_get, sum_by, if◌then◌else◌}
use Rattle.std.proofs.lemmas.Option.{same_Some, none-some, slice_get_past, slice_get_within, get_or_from_slice_get}
use Rattle.std.proofs.lemmas.List.Folds.{list_any_at}
use Rattle.std.proofs.lemmas.List.Elements.{All-nil, All-cons, All-head, All-tail, All-append}
use Rattle.std.proofs.lemmas.List.Sums.{sum_by-cons}
use Rattle.runs.proofs.Words.{at-index}
use Rattle.rtl.proofs.Kept.{reached_named}
use Rattle.rtl.specs.declared.limits.TheConstants.{MAX_PARAMETERS, MAX_BLOCKS}
use Rattle.rtl.specs.declared.instruction.RInst.{RInst}
use Rattle.rtl.specs.declared.instruction.RInst.TheVariants.{Const}
use Rattle.rtl.specs.declared.instruction.RExit.{RExit}
use Rattle.rtl.specs.declared.instruction.RExit.TheVariants.{Goto, Branch, Call, Return, Out}
use Rattle.rtl.specs.declared.block.RBlock.{RBlock}
use Rattle.rtl.specs.declared.block.RFunc.{RFunc}
use Rattle.rtl.specs.declared.block.RGlobal.{RGlobal}
use Rattle.rtl.specs.Meaning.{Code, code_of}
use Rattle.rtl.specs.Names.{is_in, goes_to, some_go_to}
use Rattle.rtl.specs.Programs.{IsInst, IsCallee, IsExit, IsBlock, IsFunction, IsProgram, program_of, block_count}
use Rattle.rtl.specs.Tails.{writes_first, constant_of, spare_constant, is_short, again, joined, joined_if, with_tail, tailed_by, tailed, AreTailed, is_reached, shortest, empty_code, AreKept, AreMade, HasTails, HaveTails}

-- a block that may be copied, by way of a constant for d
pub record Spare (block : RBlock) (d : ℕ) : Type 0 where
  pub short : is_short block.insts.items ≡ true
  pub first : writes_first block.insts.items d ≡ true
  pub sets : spare_constant block.insts.items ≡ Some d
  pub same : again block.exit ≡ Some block.exit

-- the code of a block that goes to another of some blocks, with a copy of that one
pub record Tail (bs : List RBlock) (c c' : Code) : Type 0 where
  pub number : ℕ
  pub block : RBlock
  pub d : ℕ
  pub there : slice_get bs number ≡ Some block
  pub goes : c.exit ≡ Goto number
  pub spare : Spare block d
  pub open spare use *
  pub is : c' ≡ joined c d block.insts.items block.exit

abbrev pub Copy : List RBlock → Code → Code → Type 0
Copy bs c c' = (c' ≡ c) ⊎ Tail bs c c'

-- an instruction sets it to a constant, and it is written before it is read
pub constant_holds : (P : RInst → Type 0) (all is : List RInst) (d : ℕ) → All P is → constant_of all is ≡ Some d
    → (w : ℕ) × P (Const d w) × (writes_first all d ≡ true)
constant_holds P all [] d holds e = absurd (none-some d e)
constant_holds P all (Const x w ∷ is) d holds e = by (writes_first all x) refl (λ f. constant_holds P all is d (All-tail P (Const x w) is holds) f) e
  where
    by : (b : Bool) → writes_first all x ≡ b → (constant_of all is ≡ Some d → (w : ℕ) × P (Const d w) × (writes_first all d ≡ true))
        → (if b then Some x else constant_of all is) ≡ Some d → (w : ℕ) × P (Const d w) × (writes_first all d ≡ true)
    by true f rest e = subst (λ d. (w : ℕ) × P (Const d w) × (writes_first all d ≡ true)) (same_Some x d e) (w, All-head P (Const x w) is holds, f)
    by false f rest e = rest e
constant_holds P all (i ∷ is) d holds e = constant_holds P all is d (All-tail P i is holds) e

again_same : (x e : RExit) → again x ≡ Some e → e ≡ x
again_same (Call g xs d next) e is = absurd (none-some e is)
again_same x e is = sym (same_Some x e is)

pub copy_of_code : (bs : List RBlock) (c : Code) → Copy bs c (tailed bs c)
copy_of_code bs c = by c.exit refl
  where
    by : (x : RExit) → c.exit ≡ x → Copy bs c (tailed_by bs c x)
    by (Goto b) goes = at (slice_get bs b) refl
      where
        at : (o : Option RBlock) → slice_get bs b ≡ o → Copy bs c (with_tail c o)
        at None there = inl refl
        at (Some t) there = small (is_short t.insts.items) refl
          where
            small : (s : Bool) → is_short t.insts.items ≡ s
                → Copy bs c (if s then joined_if c t.insts.items (spare_constant t.insts.items) (again t.exit) else c)
            small false short = inl refl
            small true short = first (spare_constant t.insts.items) refl
              where
                first : (o : Option ℕ) → spare_constant t.insts.items ≡ o → Copy bs c (joined_if c t.insts.items o (again t.exit))
                first None target = inl refl
                first (Some d) target = exit (again t.exit) refl
                  where
                    exit : (e : Option RExit) → again t.exit ≡ e → Copy bs c (joined_if c t.insts.items (Some d) e)
                    exit None same = inl refl
                    exit (Some e) same = let is = again_same t.exit e same in inr (record {
                      number = b;
                      block = t;
                      d = d;
                      there = there;
                      goes = goes;
                      spare = record {
                        short = short;
                        first = (constant_holds (λ _. Unit {0}) t.insts.items t.insts.items d (λ k d lt. tt) target).2;
                        sets = target;
                        same = same ∙ ap Some is;
                      };
                      is = ap (joined c d t.insts.items) is;
                    })
    by _ goes = inl refl

-- among more blocks
get_before : {A : Type 0} (xs ys : List A) (i : ℕ) (x : A) → slice_get xs i ≡ Some x → slice_get (xs ++ ys) i ≡ Some x
get_before [] ys i x is = absurd (none-some x is)
get_before (y ∷ xs) ys zero x is = is
get_before (y ∷ xs) ys (suc i) x is = get_before xs ys i x is

wider : (bs more : List RBlock) (c c' : Code) → Copy bs c c' → Copy (bs ++ more) c c'
wider bs more c c' (inl is) = inl is
wider bs more c c' (inr t) = inr (record {
  number = t.number;
  block = t.block;
  d = t.d;
  there = get_before bs more t.number t.block t.there;
  goes = t.goes;
  spare = t.spare;
  is = t.is;
})

-- each block, and that which stands for it
pub record Stands (all new : List RBlock) (i : ℕ) (b : RBlock) : Type 0 where
  pub block : RBlock
  pub there : slice_get new i ≡ Some block
  pub copy : Copy all (code_of b) (code_of block)

stands_from : (before bs new : List RBlock) → AreTailed before bs new → (i : ℕ) (b : RBlock) → slice_get bs i ≡ Some b → Stands (before ++ bs) new i b
stands_from before [] new h i b is = absurd (none-some b is)
stands_from before (a ∷ bs) [] h i b is = absurd h
stands_from before (a ∷ bs) (c ∷ cs) h zero b is = record {
  block = c;
  there = refl;
  copy = subst (λ k. Copy (before ++ a ∷ bs) k (code_of c)) (ap code_of (same_Some a b is))
      (wider before (a ∷ bs) (code_of a) (code_of c) (subst (Copy before (code_of a)) (sym h.0) (copy_of_code before (code_of a))));
}
stands_from before (a ∷ bs) (c ∷ cs) h (suc i) b is =
    let s = stands_from (before ++ a ∷ []) bs cs h.1 i b is in
    record { block = s.block; there = s.there; copy = subst (λ all. Copy all (code_of b) (code_of s.block)) (append_assoc before (a ∷ []) bs) s.copy }

same_length : (before bs new : List RBlock) → AreTailed before bs new → length new ≡ length bs
same_length before [] [] h = refl
same_length before (a ∷ bs) (c ∷ cs) h = ap suc (same_length (before ++ a ∷ []) bs cs h.1)
same_length before _ _ h = absurd h

-- ---- those that nothing goes to are empty

kept_at : (keeps : ℕ → Bool) (n : ℕ) (cs ds : List RBlock) → AreKept keeps n cs ds → (i : ℕ) (c : RBlock) → slice_get cs i ≡ Some c → keeps (n + i) ≡ true
    → (d : RBlock) × (slice_get ds i ≡ Some d) × (code_of d ≡ code_of c)
kept_at keeps n [] ds h i c is keep = absurd (none-some c is)
kept_at keeps n (a ∷ cs) [] h i c is keep = absurd h
kept_at keeps n (a ∷ cs) (d ∷ ds) h zero c is keep =
    let first : keeps n ≡ true = subst (λ k. keeps k ≡ true) (let z : n + 0 ≡ n = omega arith in z) keep in (
      d,
      refl,
      h.0 ∙ ap (λ (b : Bool). if b then code_of a else empty_code a) first ∙ ap code_of (same_Some a c is),
    )
kept_at keeps n (a ∷ cs) (d ∷ ds) h (suc i) c is keep =
    kept_at keeps (suc n) cs ds h.1 i c is (subst (λ k. keeps k ≡ true) (let s : n + suc i ≡ suc n + i = omega arith in s) keep)

kept_length : (keeps : ℕ → Bool) (n : ℕ) (cs ds : List RBlock) → AreKept keeps n cs ds → length ds ≡ length cs
kept_length keeps n [] [] h = refl
kept_length keeps n (c ∷ cs) (d ∷ ds) h = ap suc (kept_length keeps (suc n) cs ds h.1)
kept_length keeps n _ _ h = absurd h

-- an exit of one of these blocks leads to what is reached
pub goes_block : (bs : List RBlock) (b : ℕ) (block : RBlock) → slice_get bs b ≡ Some block → (t : ℕ) → is_in (goes_to block.exit) t ≡ true
    → some_go_to bs t ≡ true
goes_block bs b block e t go =
    list_any_at (λ (k : RBlock). is_in (goes_to k.exit) t) bs b block (slice_get_within bs b block e)
    (ap (λ (k : RBlock). is_in (goes_to k.exit) t) (get_or_from_slice_get bs b block block e) ∙ go)

-- all blocks that an exit goes to are reached
abbrev pub Leads : List RBlock → RExit → Type 0
Leads bs x = (t : ℕ) → is_in (goes_to x) t ≡ true → is_reached bs t ≡ true

pub record Found (bs new with_tails : List RBlock) (i : ℕ) (b : RBlock) : Type 0 where
  pub block : RBlock
  pub there : slice_get new i ≡ Some block
  pub copy : Copy bs (code_of b) (code_of block)
  pub leads : Leads with_tails block.exit

pub found : (bs new : List RBlock) (m : AreMade bs new) (i : ℕ) (b : RBlock) → slice_get bs i ≡ Some b → is_reached m.with_tails i ≡ true
    → Found bs new m.with_tails i b
found bs new m i b is keep =
    let s = stands_from [] bs m.with_tails m.tailed i b is in
    let sum : i ≡ 0 + i = omega arith in
    let k = kept_at (is_reached m.with_tails) 0 m.with_tails new m.kept i s.block s.there (subst (λ n. is_reached m.with_tails n ≡ true) sum keep) in
    record {
      block = k.0;
      there = k.1;
      copy = subst (Copy bs (code_of b)) (sym k.2) s.copy;
      leads = λ t go. reached_named m.with_tails t (goes_block m.with_tails i s.block s.there t
          (sym (ap (λ (c : Code). is_in (goes_to c.exit) t) k.2) ∙ go));
    }

pub as_many : (bs new : List RBlock) → AreMade bs new → length new ≡ length bs
as_many bs new m = kept_length (is_reached m.with_tails) 0 m.with_tails new m.kept ∙ same_length [] bs m.with_tails m.tailed

none_past : (bs : List RBlock) (i : ℕ) → slice_get bs i ≡ None → length bs ≤ i
none_past [] i is = omega arith
none_past (b ∷ bs) zero is = absurd (none-some b (sym is))
none_past (b ∷ bs) (suc i) is = let rest = none_past bs i is in omega (arith, rest)

pub not_found : (bs new : List RBlock) → AreMade bs new → (i : ℕ) → slice_get bs i ≡ None → slice_get new i ≡ None
not_found bs new m i is = let many = as_many bs new m in let past = none_past bs i is in slice_get_past new i (omega (arith, many, past))

-- what holds of blocks with their tails and of an empty one
all_kept : (P : RBlock → Type 0) (keeps : ℕ → Bool) (n : ℕ) (cs ds : List RBlock)
    → ((c d : RBlock) → P c → (code_of d ≡ code_of c) ⊎ (code_of d ≡ empty_code c) → P d) → AreKept keeps n cs ds → All P cs → All P ds
all_kept P keeps n [] [] of h all = All-nil P
all_kept P keeps n (c ∷ cs) (d ∷ ds) of h all =
    All-cons P d ds (of c d (All-head P c cs all) (by (keeps n) h.0)) (all_kept P keeps (suc n) cs ds of h.1 (All-tail P c cs all))
  where
    by : (b : Bool) → code_of d ≡ (if b then code_of c else empty_code c) → (code_of d ≡ code_of c) ⊎ (code_of d ≡ empty_code c)
    by true is = inl is
    by false is = inr is
all_kept P keeps n _ _ of h all = absurd h

-- what holds of each block, or its code with that of one before it, holds behind
all_tailed : (P Q : RBlock → Type 0) → ((before : List RBlock) (b c : RBlock) → All P before → P b → Copy before (code_of b) (code_of c) → Q c)
    → (before bs cs : List RBlock) → All P before → All P bs → AreTailed before bs cs → All Q cs
all_tailed P Q of before [] [] all rest t = All-nil Q
all_tailed P Q of before (b ∷ bs) (c ∷ cs) all rest t =
    let one = All-head P b bs rest in
    All-cons Q c cs (of before b c all one (subst (Copy before (code_of b)) (sym t.0) (copy_of_code before (code_of b))))
    (all_tailed P Q of (before ++ b ∷ []) bs cs (All-append P before (b ∷ []) all (All-cons P b [] one (All-nil P))) (All-tail P b bs rest) t.1)
all_tailed P Q of before _ _ all rest t = absurd t

pub all_made : (P Q : RBlock → Type 0) → ((before : List RBlock) (b c : RBlock) → All P before → P b → Copy before (code_of b) (code_of c) → Q c)
    → ((c d : RBlock) → Q c → (code_of d ≡ code_of c) ⊎ (code_of d ≡ empty_code c) → Q d) → (bs new : List RBlock) → AreMade bs new → All P bs
    → All Q new
all_made P Q copied kept bs new m all =
    all_kept Q (is_reached m.with_tails) 0 m.with_tails new kept m.kept (all_tailed P Q copied [] bs m.with_tails (All-nil P) all m.tailed)

-- ---- what is named is there

pub function_at : (fs new : List RFunc) → HaveTails fs new → (i : ℕ) (f : RFunc) → slice_get fs i ≡ Some f
    → (n : RFunc) × (slice_get new i ≡ Some n) × HasTails f n
function_at [] new h i f is = absurd (none-some f is)
function_at (g ∷ fs) [] h i f is = absurd h
function_at (g ∷ fs) (n ∷ ns) h zero f is = (n, refl, subst (λ f. HasTails f n) (same_Some g f is) h.0)
function_at (g ∷ fs) (n ∷ ns) h (suc i) f is = function_at fs ns h.1 i f is

pub no_function_at : (fs new : List RFunc) → HaveTails fs new → (i : ℕ) → slice_get fs i ≡ None → slice_get new i ≡ None
no_function_at [] [] h i is = is
no_function_at (g ∷ fs) (n ∷ ns) h zero is = absurd (none-some g (sym is))
no_function_at (g ∷ fs) (n ∷ ns) h (suc i) is = no_function_at fs ns h.1 i is
no_function_at _ _ h i is = absurd h

module _ (fs new : List RFunc) (h : HaveTails fs new) (g count : ℕ) where
  callee_fits : (f n : ℕ) → IsCallee fs f n → IsCallee new f n
  callee_fits f n c = let m = function_at fs new h f c.callee c.there in record { callee = m.0; there = m.1; takes = m.2.parameters ∙ c.takes }

  exit_fits : (x : RExit) → IsExit fs count x → IsExit new count x
  exit_fits (Call f xs d next) fits = (callee_fits f (length xs.items) fits.0, fits.1)
  exit_fits _ fits = fits

  fits_code : (c : RBlock) (k : Code) → code_of c ≡ k → All (IsInst g) k.insts → IsExit new count k.exit → IsBlock new g count c
  fits_code c k is insts exit = record {
    insts = subst (λ (k : Code). All (IsInst g) k.insts) (sym is) insts;
    exit = subst (λ (k : Code). IsExit new count k.exit) (sym is) exit;
  }

  block_fits : (before : List RBlock) (b c : RBlock) → All (IsBlock fs g count) before → IsBlock fs g count b → Copy before (code_of b) (code_of c)
      → IsBlock new g count c
  block_fits before b c all fits (inl is) = fits_code c (code_of b) is fits.insts (exit_fits b.exit fits.exit)
  block_fits before b c all fits (inr t) =
      let tail = at-index (IsBlock fs g count) before t.number t.block all t.there in
      let target = (constant_holds (IsInst g) t.block.insts.items t.block.insts.items t.d tail.insts t.sets).1 in
      fits_code c _ t.is (All-append (IsInst g) b.insts.items (Const t.d 0 ∷ t.block.insts.items) fits.insts
      (All-cons (IsInst g) (Const t.d 0) t.block.insts.items target tail.insts)) (exit_fits t.block.exit tail.exit)

  shortest_fits : (x : RExit) → IsExit new count x → IsExit new count (shortest x)
  shortest_fits (Goto b) fits = fits
  shortest_fits (Branch c t e) fits = fits.1.0
  shortest_fits (Call f xs d next) fits = fits.1.1.1
  shortest_fits (Return o) fits = tt
  shortest_fits (Out x next) fits = fits.1

  -- as it was, or empty
  kept_fits : (c d : RBlock) → IsBlock new g count c → (code_of d ≡ code_of c) ⊎ (code_of d ≡ empty_code c) → IsBlock new g count d
  kept_fits c d fits (inl is) = fits_code d (code_of c) is fits.insts fits.exit
  kept_fits c d fits (inr is) = fits_code d (empty_code c) is (All-nil (IsInst g)) (shortest_fits c.exit fits.exit)

module _ (fs new : List RFunc) (h : HaveTails fs new) (g : ℕ) where
  function_fits : (f n : RFunc) → HasTails f n → IsFunction fs g f → IsFunction new g n
  function_fits f n t fits =
      let many = as_many f.blocks.items n.blocks.items t.blocks in
      record {
        parameters = subst (λ k. k ≤ MAX_PARAMETERS) (sym t.parameters) fits.parameters;
        entry = subst (λ k. 0 < k) (sym many) fits.entry;
        blocks = subst (λ k. All (IsBlock new g k) n.blocks.items) (sym many)
            (all_made (IsBlock fs g (length f.blocks.items)) (IsBlock new g (length f.blocks.items)) (block_fits fs new h g (length f.blocks.items))
            (kept_fits fs new h g (length f.blocks.items)) f.blocks.items n.blocks.items t.blocks fits.blocks);
      }

  functions_fit : (xs ys : List RFunc) → HaveTails xs ys → All (IsFunction fs g) xs → All (IsFunction new g) ys
  functions_fit [] [] t all = All-nil (IsFunction new g)
  functions_fit (x ∷ xs) (y ∷ ys) t all =
      All-cons (IsFunction new g) y ys (function_fits x y t.0 (All-head (IsFunction fs g) x xs all))
      (functions_fit xs ys t.1 (All-tail (IsFunction fs g) x xs all))
  functions_fit _ _ t all = absurd t

same_count : (xs ys : List RFunc) → HaveTails xs ys → sum_by block_count ys ≡ sum_by block_count xs
same_count [] [] t = refl
same_count (x ∷ xs) (y ∷ ys) t =
    let one = as_many x.blocks.items y.blocks.items t.0.blocks in
    let rest = same_count xs ys t.1 in
    let a = sum_by-cons block_count x xs in
    let b = sum_by-cons block_count y ys in
    omega (arith, one, rest, a, b)
same_count _ _ t = absurd t

pub program_fits : (fs new : List RFunc) (globals : List RGlobal) (main : ℕ) → HaveTails fs new → IsProgram (program_of fs globals main)
    → IsProgram (program_of new globals main)
program_fits fs new globals main h is = record {
  functions = functions_fit fs new h (length globals) fs new h is.functions;
  globals = is.globals;
  main = callee_fits fs new h 0 0 main 0 is.main;
  blocks_fit = subst (λ n. n ≤ MAX_BLOCKS) (sym (same_count fs new h)) is.blocks_fit;
  words_fit = is.words_fit;
}
