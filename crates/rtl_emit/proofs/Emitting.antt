-- What the call for an expression promises (`Emits`), from what the calls for its parts did: one lemma for each kind. The same for what branches:
-- both sides of `?:`, conditions, and the operands of a list.
use Rattle.std.proofs.Common.{◌≡◌, ◌≢◌, ℕ, ◌+◌, ◌<◌, ◌≤◌, max, Bool, true, false, List, length, Ok, Err, Result, refl, sym, ◌∙◌, ap, subst, arith, ◌∷◌}
use Rattle.std.proofs.Common.{nat_eq}
use Rattle.std.specs.Prelude.{IfOk, IfErr, OnOk, if◌then◌else◌, not}
use Rattle.words.specs.Words.{wrap}
use Rattle.c_tokens.specs.declared.token.IntegerType.{IntegerType}
use Rattle.c_tokens.specs.declared.token.Literal.{Literal}
use Rattle.c_tree.specs.declared.tree.BinaryOp.{BinaryOp}
use Rattle.c_tree.specs.declared.tree.BinaryOp.TheVariants as B
use Rattle.c_tree.specs.declared.tree.UnaryOp.{UnaryOp}
use Rattle.c_tree.specs.declared.tree.UnaryOp.TheVariants as U
use Rattle.c_typed.specs.Values.{sign_of}
use Rattle.c_typed.specs.Trees.{TypedExpression, constant, local, global, element, unary, binary, conditional}
use Rattle.rtl.specs.declared.block.RBlock.{RBlock}
use Rattle.rtl.specs.declared.instruction.RInst.TheVariants as I
use Rattle.rtl.specs.Meaning.{Code}
use Rattle.rtl.specs.declared.limits.TheConstants.{MAX_REGISTERS, MAX_BLOCKS}
use Rattle.rtl.specs.declared.instruction.RExit.TheVariants as X
use Rattle.rtl_emit.specs.Blocks.{open_code, first, line_of, insts_of, insts_at, insts_in, Spot, Grows, At, exit_code, goto, Line, Lands, Adds}
use Rattle.rtl_emit.specs.Emits.{Size, Description, Emits, condition_size, value, operand, two_operands, branch, condition_branch, own_branch, left_targets}
use Rattle.rtl_emit.specs.Emits.{KeepsCode, Covers, value_size, operands, value_branch, own_block, own_value}
use Rattle.rtl_emit.specs.Expressions.{IsPlace, IsTruth, Decides, Evaluates, Fetches, Gives, at_constant, ArePlaces}
use Rattle.rtl_emit.specs.Operations.{IsPrefix, Computes, inst_of, ComputesContrary}
use Rattle.rtl_emit.specs.Sizes.{spare_registers, both_registers, logical_of, joint, Beyond, by_branches, is_logical, place_registers, next_free}
use Rattle.rtl_emit.specs.Sizes.{value_registers, value_blocks, condition_registers, condition_blocks, combined_registers, test_registers, has_contrary}
use Rattle.rtl_emit.specs.Sizes.{operands_registers, value_insts, condition_insts, tested_registers, arguments_blocks, values_registers, places_registers}
use Rattle.rtl_emit.specs.Sound.{Scope, IsSound, IsSoundSpot, KeepsSound}
use Rattle.rtl_emit.specs.declared.block.OpenBlock.{OpenBlock}
use Rattle.rtl_emit.specs.declared.fault.LowerFault.{LowerFault}
use Rattle.rtl_emit.specs.declared.fault.LowerFault.TheVariants.{Limit}
use Rattle.rtl_emit.specs.declared.operation.Combination.{Combination}
use Rattle.rtl_emit.specs.declared.operation.Operation.{Operation}
use Rattle.rtl_emit.specs.declared.operation.Prefix.TheVariants as P
use Rattle.rtl_emit.specs.declared.targets.Targets.{Targets}
use Rattle.rtl_emit.specs.declared.waiting.Waiting.{Waiting}
use Rattle.rtl_emit.specs.declared.waiting.WaitingForTwo.{WaitingForTwo}
use Rattle.rtl_emit.proofs.Blocks.{grows_then, within, line_insts, split2, split3}
use Rattle.rtl_emit.proofs.Values.{not_decides, and_decides, or_decides, not_tests, and_tests, or_tests, IsTest, told, constant_decides, contrary_decides}
use Rattle.rtl_emit.proofs.Values.{conditional_decides, conditional_value, number, local_value, global_value, element_value, prefix_value, identity_value}
use Rattle.rtl_emit.proofs.Values.{operates, operator_value, fetched}
use Rattle.rtl_emit.proofs.Emitted.{gives_from, finds_to, Over, unary_is}
use Rattle.rtl_emit.proofs.Sound.{sound_along, sound_first, sound_line, sound_exit}
use Rattle.rtl_emit.specs.declared.place.Place.{Place}

pub grows_same : (bs : List RBlock) → Grows bs bs
grows_same bs = record { longer = omega arith; kept = λ i lt. refl }

-- sizes

-- the blocks that were there stay, and a size is beyond a limit or memory was refused
pub stopped : {A : Type 0} {d : Description A} {old new : List RBlock} {r : Result A LowerFault} (f : LowerFault) → r ≡ Err f → Grows old new
    → (f ≡ Limit → Beyond d.size.registers (length old + d.size.blocks) d.size.globals) → Emits d old new r
stopped f is g limit = rw is (record { grows = g; count = tt; room = tt; limit = limit; sound = tt; does = tt })

-- the same where nothing was added
pub refused : {A : Type 0} {d : Description A} {old new : List RBlock} {r : Result A LowerFault} (f : LowerFault) → r ≡ Err f → new ≡ old
    → (f ≡ Limit → Beyond d.size.registers (length old + d.size.blocks) d.size.globals) → Emits d old new r
refused {old = old} f is same limit = stopped f is (rw same (grows_same old)) limit

-- a part that comes behind k blocks is refused, and with it the whole
pub part_refused : {A B : Type 0} {part : Description A} {whole : Description B} {old mid new : List RBlock} {f : LowerFault}
    {r : Result B LowerFault} (k : ℕ) → Emits part mid new (Err f) → r ≡ Err f → part.size.registers ≤ whole.size.registers
    → k + part.size.blocks ≤ whole.size.blocks → part.size.globals ≤ whole.size.globals → Grows old mid → length mid ≡ length old + k
    → Emits whole old new r
part_refused {A} {B} {part} {whole} {old} {mid} {new} {f} k e is lr lb lg g n =
    stopped f is (grows_then old mid new g e.grows) (λ l. omega (arith, lr, lb, lg, n, e.limit l))

-- what is emitted last, behind k blocks, makes a whole of this size
pub record Ends (last whole : Size) (k : ℕ) : Type 0 where
  pub blocks : whole.blocks ≡ k + last.blocks
  pub registers : last.registers ≤ whole.registers
  pub room : last.registers ≤ MAX_REGISTERS → whole.registers ≤ MAX_REGISTERS
  pub globals : last.globals ≤ whole.globals

pub ended : {A : Type 0} {last whole : Description A} {old mid new : List RBlock} {r : Result A LowerFault} (k : ℕ) → Emits last mid new r
    → Ends last.size whole.size k → Grows old mid → length mid ≡ length old + k
    → ((x : A) → last.Keeps mid new x → whole.Keeps old new x) → ((x : A) → Over mid new (last.Does x) → Over old new (whole.Does x))
    → Emits whole old new r
ended {A} {last} {whole} {old} {mid} {new} {r} k emits sizes g n keeps does = by r emits
  where
    by : (r : Result A LowerFault) → Emits last mid new r → Emits whole old new r
    by (Ok x) e = record {
      grows = grows_then old mid new g e.grows;
      count = let c : length new ≡ length mid + last.size.blocks = e.count in omega (arith, c, n, sizes.blocks);
      room = sizes.room e.room;
      limit = tt;
      sound = keeps x e.sound;
      does = does x e.does;
    }
    by (Err f) e = part_refused k e refl sizes.registers (omega (arith, sizes.blocks)) sizes.globals g n

-- sizes of tests

pub test_size_is : (b : Bool) (free p n v : ℕ) → test_registers b free p n v ≡ max (test_registers b free p n 0) v
test_size_is true free p n v = omega arith
test_size_is false free p n v = omega arith

pub test_names : (b : Bool) (free p n v m : ℕ) → test_registers b free p n v ≤ m → (p ≤ m) × ((v ≤ m) × (test_registers b free p n 0 ≤ m))
test_names true free p n v m le = (omega (arith, le), (omega (arith, le), omega (arith, le)))
test_names false free p n v m le = (omega (arith, le), (omega (arith, le), omega (arith, le)))

pub contrary_test_names : (b : Bool) (free p n m : ℕ) → b ≡ false → test_registers b free p n 0 ≤ m → (free < m) × (max p (n + 1) ≤ m)
contrary_test_names true free p n m is le = absurd (cc)
contrary_test_names false free p n m is le = (omega (arith, le), omega (arith, le))

pub held_names : (l r : TypedExpression) (free p next q last n : ℕ) → IsPlace l free p next → IsPlace r next q last
    → operands_registers (place_registers l free) (place_registers r (next_free l free)) (value_registers l free) (value_registers r (next_free l free)) ≤ n
    → (p < n) × ((q < n) × ((max (value_registers r next) (value_registers l free) ≤ n)
    × (both_registers l r free ≤ n)))
held_names l r free p next q last n pl pr le =
    let qe = ap (place_registers r) pl.next_is in
    let ve = ap (value_registers r) pl.next_is in
    (omega (arith, pl.counted, le), (omega (arith, pr.counted, qe, le), (omega (arith, ve, le), omega (arith, le))))

-- the registers of a contrary comparison: the one that is tested, and those of its operands
pub contrary_registers : (o : BinaryOp) (k : IntegerType) (l r : TypedExpression) (likely : Bool) (free : ℕ) → is_logical o ≡ false
    → has_contrary o ≡ true → likely ≡ false → condition_registers (binary o k l r) likely free ≡ max (free + 1) (operands_registers
    (place_registers l free) (place_registers r (next_free l free)) (value_registers l free) (value_registers r (next_free l free)))
contrary_registers o k l r likely free plain has unlikely = rw (plain, has, unlikely) refl

-- values

pub number_emits : (old : List RBlock) (c : Literal) (d free : ℕ) (from : OpenBlock) (after : Spot)
    → open_code from ≡ first (I.Const d c.value) (line_of after) → Emits (value (constant c) d free after) old old (Ok from)
number_emits old c d free from after fe = record {
  grows = grows_same old;
  count = omega arith;
  room = omega arith;
  limit = tt;
  sound = ((λ s n g h. (g, sound_first _ fe h.0 (sound_line _ h.1.1))), omega (arith, ap insts_of fe, line_insts after));
  does = λ bs h. gives_from fe (number bs c d free (line_of after));
}

pub local_emits : (old : List RBlock) (x x' : ℕ) (k : IntegerType) (d free : ℕ) (from : OpenBlock) (after : Spot) → x' ≡ x → x' < MAX_REGISTERS
    → open_code from ≡ first (I.Move d x') (line_of after) → Emits (value (local x k) d free after) old old (Ok from)
local_emits old x x' k d free from after ix lt fe = subst (λ x. Emits (value (local x k) d free after) old old (Ok from)) ix (record {
  grows = grows_same old;
  count = omega arith;
  room = omega (arith, lt);
  limit = tt;
  sound = ((λ s n g h. (g, sound_first _ fe (h.0, omega (arith, h.1.0.0)) (sound_line _ h.1.1))), omega (arith, ap insts_of fe, line_insts after));
  does = λ bs h. gives_from fe (local_value bs x' k d free (line_of after));
})

pub global_emits : (old : List RBlock) (a a' : ℕ) (k : IntegerType) (d free z : ℕ) (load from : OpenBlock) (after : Spot)
    → a' ≡ a → z ≡ free → z < MAX_REGISTERS → open_code load ≡ first (I.Load d a' z) (line_of after)
    → open_code from ≡ first (I.Const z 0) (open_code load) → Emits (value (global a k) d free after) old old (Ok from)
global_emits old a a' k d free z load from after ia iz lt fl fe = record {
  grows = grows_same old;
  count = omega arith;
  room = omega (arith, iz, lt);
  limit = tt;
  sound = (
    λ s n g h.
        let there : a' < s.globals = omega (arith, ia, h.1.0.1) in
        let spare : z < s.registers = omega (arith, iz, h.1.0.0) in
        (g, sound_first _ fe spare (sound_first _ fl (h.0, (there, spare)) (sound_line _ h.1.1))),
    (let n = ap insts_of fe in let m = ap insts_of fl in let l = line_insts after in omega (arith, n, m, l)),
  );
  does = λ bs h.
      subst (λ a. Evaluates bs (global a k) free d (open_code from) (line_of after)) ia (gives_from (fe ∙ ap (first (I.Const z 0)) fl)
      (global_value bs a' k d z free (line_of after) (omega (arith, iz))));
}

pub element_emits : (old new : List RBlock) (a : ℕ) (k : IntegerType) (i : TypedExpression) (d free : ℕ) (after : Spot) (w : Result Waiting LowerFault)
    (r : Result OpenBlock LowerFault) → IfOk w (λ w. IsPlace i free w.place.register w.place.free)
    → IfOk w (λ w. open_code w.code ≡ first (I.Load d a w.place.register) (line_of after)) → OnOk w (place_registers i free ≤ MAX_REGISTERS)
    → IfErr w (λ f. f ≡ Limit → Beyond (place_registers i free) 0 (a + 1)) → IfOk w (λ w. Emits (operand i w.place.register free w.code) old new r)
    → IfErr w (λ f. (r ≡ Err f) × (new ≡ old)) → Emits (value (element a k i) d free after) old new r
element_emits old new a k i d free after (Ok w) r pl fe room limit o err =
    ended 0 o
    (record { blocks = omega arith; registers = omega arith; room = λ le. omega (arith, le, room); globals = omega arith })
    (grows_same old) (omega arith)
    (λ from keeps. (
      λ s n g h.
          let held : w.place.register < s.registers = (let p = pl.counted in omega (arith, p, h.1.0.0)) in
          let code = sound_first _ fe (h.0, (omega (arith, h.1.0.1), held)) (sound_line _ h.1.1) in
          keeps.0 s n g (held, ((omega (arith, h.1.0.0), omega (arith, h.1.0.1)), code)),
      (let m = keeps.1 in let n = ap insts_of fe in let l = line_insts after in omega (arith, m, n, l)),
    ))
    (λ from does bs h. element_value bs a k i d free w.place.register w.place.free (open_code from) (line_of after) pl (finds_to fe (does bs h)))
element_emits old new a k i d free after (Err f) r pl fe room limit o err =
    refused f err.0 err.1 (λ is. omega (arith, limit is))

-- the size of a prefix operator that is computed by one operation
prefix_size : (o : UnaryOp) (k : IntegerType) (a : TypedExpression) (free n : ℕ) → o ≢ U.Identity → (o ≡ U.Not → by_branches a ≡ false)
    → (value_registers (unary o k a) free ≡ combined_registers (place_registers a free) (next_free a free) (value_registers a free))
    × ((value_blocks (unary o k a) n ≡ value_blocks a 1) × (value_insts (unary o k a) ≡ value_insts a + 2))
prefix_size U.Identity k a free n ne plain = absurd (ne refl)
prefix_size U.Not k a free n ne plain = rw (plain refl) (refl, (refl, refl))
prefix_size _ k a free n ne plain = (refl, (refl, refl))

pub prefix_emits : (old new : List RBlock) (o : UnaryOp) (with : Combination) (k : IntegerType) (a : TypedExpression)
    (b : Bool) (d free : ℕ) (opened : OpenBlock) (after : Spot) (w : Result Waiting LowerFault) (x : Result OpenBlock LowerFault)
    → IsPrefix o b (P.Combined with) → b ≡ by_branches a → open_code opened ≡ line_of after
    → IfOk w (λ w. IsPlace a free w.place.register w.place.free)
    → OnOk w (spare_registers a free ≤ MAX_REGISTERS)
    → IfOk w (λ w. (bs : List RBlock) (from : Code) → Fetches bs a free w.place.register from (open_code w.code)
    → Gives bs (at_constant with.operation a with.word) free d from (open_code opened))
    → IfOk w (λ w. insts_of (open_code w.code) ≡ insts_of (open_code opened) + 2)
    → IfOk w (λ w. (s : Scope) → d < s.registers → spare_registers a free ≤ s.registers
    → IsSound s (open_code opened) → IsSound s (open_code w.code))
    → IfErr w (λ f. f ≡ Limit → MAX_REGISTERS < spare_registers a free)
    → IfOk w (λ w. Emits (operand a w.place.register free w.code) old new x) → IfErr w (λ f. (x ≡ Err f) × (new ≡ old))
    → Emits (value (unary o k a) d free after) old new x
prefix_emits old new o with k a b d free opened after (Ok w) x prefix ib fe pl room does insts sound limit v err =
    let size = prefix_size o k a free (joint after) prefix.0 (λ io. sym ib ∙ prefix.1.0 io) in
    ended 0 v
    (record { blocks = omega (arith, size.1.0); registers = omega (arith, size.0); room = λ le. omega (arith, size.0, le, room); globals = omega arith })
    (grows_same old) (omega arith)
    (λ from keeps. (
      λ s n g h.
          let spare : spare_registers a free ≤ s.registers = omega (arith, size.0, h.1.0.0) in
          let held : w.place.register < s.registers = omega (arith, pl.counted, spare) in
          keeps.0 s n g (held, ((omega (arith, size.0, h.1.0.0), h.1.0.1), sound s h.0 spare (sound_along fe (sound_line _ h.1.1)))),
      omega (arith, keeps.1, size.1.1, insts, ap insts_of fe, line_insts after),
    ))
    (λ from made bs h. prefix_value bs o k with a d free (open_code from) (line_of after) prefix.1.1
    (subst (λ c. Gives bs (at_constant with.operation a with.word) free d (open_code from) c) fe (does bs (open_code from) (made bs h))))
prefix_emits old new o with k a b d free opened after (Err f) x prefix ib fe pl room does insts sound limit v err =
    let size = prefix_size o k a free (joint after) prefix.0 (λ io. sym ib ∙ prefix.1.0 io) in
    refused f err.0 err.1 (λ is. omega (arith, size.0, limit is))

pub identity_emits : (old new : List RBlock) (o : UnaryOp) (k : IntegerType) (a : TypedExpression) (d free : ℕ) (after : Spot)
    (x : Result OpenBlock LowerFault) → o ≡ U.Identity → Emits (value a d free after) old new x → Emits (value (unary o k a) d free after) old new x
identity_emits old new o k a d free after x io v =
    subst (λ o. Emits (value (unary o k a) d free after) old new x) (sym io)
    (ended 0 v
    (record { blocks = omega arith; registers = omega arith; room = λ le. le; globals = omega arith })
    (grows_same old) (omega arith)
    (λ from keeps. keeps)
    (λ from does bs h. identity_value bs k a d free (open_code from) (line_of after) (does bs h)))

-- the two blocks of a truth value
pub record Truth (old new : List RBlock) (d : ℕ) (t : Targets) (after : Spot) : Type 0 where
  pub grows : Grows old new
  pub count : length new ≡ length old + (joint after + 2)
  pub insts : insts_in new ≡ insts_in old + (insts_at after + 2)
  pub sound : KeepsSound old new (λ s. (d < s.registers) × IsSoundSpot s after) (λ s. (t.yes < s.blocks) × (t.no < s.blocks))
  pub likely : t.likely ≡ true
  pub truth : Over old new (λ bs. IsTruth bs d t.yes t.no after)

pub not_emits : (old mid new : List RBlock) (o : UnaryOp) (k : IntegerType) (a : TypedExpression) (b : Bool) (d free : ℕ) (tr t : Targets) (after : Spot)
    (r : Result OpenBlock LowerFault) → IsPrefix o b P.Branches → b ≡ by_branches a → t ≡ record { yes = tr.no; no = tr.yes; likely = true }
    → Truth old mid d tr after → Emits (condition_branch a t free) mid new r → Emits (value (unary o k a) d free after) old new r
not_emits old mid new o k a b d free tr t after r prefix ib it truth last =
    let by : by_branches a ≡ true = sym ib ∙ prefix.1 in
    let last' = subst (λ t. Emits (condition_branch a t free) mid new r) it last in
    subst (λ o. Emits (value (unary o k a) d free after) old new r) (sym prefix.0)
    (ended (joint after + 2) last'
    (record { blocks = rw by refl; registers = rw by (omega arith); room = rw by (λ le. le); globals = omega arith })
    truth.grows truth.count
    (λ from keeps. (
      λ s l gs h.
          let m = truth.sound s (within last'.grows l) gs (h.0, h.1.1) in
          let is : value_registers (unary U.Not k a) free ≡ condition_registers a true free = rw by refl in
          keeps.0 s l m.0 ((omega (arith, is, h.1.0.0), h.1.0.1), (m.1.1, m.1.0)),
      (let n : value_insts (unary U.Not k a) ≡ condition_insts a + 2 = rw by refl in omega (arith, keeps.1, n, truth.insts)),
    ))
    (λ from does bs h.
    let p = split2 bs old mid new truth.grows last'.grows h in
    told bs (unary U.Not k a) d tr.yes tr.no free (open_code from) after (not_tests k a) (truth.truth bs p.0)
    (not_decides bs k a tr.yes tr.no free (open_code from) (does bs p.1))))

pub logical_is : (both : Bool) → is_logical (logical_of both) ≡ true
logical_is true = refl
logical_is false = refl

left_likely : (both : Bool) (t : Targets) (block : ℕ) → (left_targets both t block).likely ≡ t.likely
left_likely true t block = refl
left_likely false t block = refl

left_within : (both : Bool) (t : Targets) (block blocks : ℕ) → block < blocks → (t.yes < blocks) × (t.no < blocks)
    → ((left_targets both t block).yes < blocks) × ((left_targets both t block).no < blocks)
left_within true t block blocks b h = (b, h.1)
left_within false t block blocks b h = (h.0, b)

logical_decides : (both : Bool) (bs : List RBlock) (k : IntegerType) (l r : TypedExpression) (t : Targets) (block free : ℕ) (from block_code : Code)
    → Decides bs l free (left_targets both t block).yes (left_targets both t block).no from → At bs block block_code
    → Decides bs r free t.yes t.no block_code → Decides bs (binary (logical_of both) k l r) free t.yes t.no from
logical_decides true bs k l r t block free from block_code first at second = and_decides bs k l r t.yes t.no block free from block_code first at second
logical_decides false bs k l r t block free from block_code first at second = or_decides bs k l r t.yes t.no block free from block_code first at second

-- the branches of `&&` and `||`, the right operand of which is a block of its own
pub logical_branches : (both : Bool) (b0 b1 new : List RBlock) (k : IntegerType) (l r : TypedExpression) (t t' : Targets) (free block : ℕ)
    (x : Result OpenBlock LowerFault) → t' ≡ left_targets both t block → Emits (own_branch r t free) b0 b1 (Ok block)
    → Emits (condition_branch l t' free) b1 new x
    → Emits (condition_branch (binary (logical_of both) k l r) t free) b0 new x
logical_branches both b0 b1 new k l r t t' free block x it second last' =
    let last = subst (λ t. Emits (condition_branch l t free) b1 new x) it last' in
    let size : condition_registers (binary (logical_of both) k l r) t.likely free ≡ max (condition_registers r t.likely free)
    (condition_registers l (left_targets both t block).likely free) = rw (logical_is both, left_likely both t block) refl in
    ended ((condition_size r t.likely free).blocks + 1) last
    (record {
      blocks = rw (logical_is both) (omega arith);
      registers = omega (arith, size);
      room = λ le. omega (arith, size, le, second.room);
      globals = omega arith;
    })
    second.grows second.count
    (λ from keeps. (
      λ s n g h.
          let b = second.sound.0 s (within last.grows n) g ((omega (arith, size, h.0.0), omega (arith, h.0.1)), h.1) in
          keeps.0 s n b.0 ((omega (arith, size, h.0.0), omega (arith, h.0.1)), left_within both t block s.blocks b.1 h.1),
      (let all : condition_insts (binary (logical_of both) k l r) ≡ condition_insts r + condition_insts l = rw (logical_is both) refl in
          omega (arith, keeps.1, second.sound.1, all)),
    ))
    (λ from does bs h.
    let p = split2 bs b0 b1 new second.grows last.grows h in
    let d = second.does bs p.0 in
    logical_decides both bs k l r t block free (open_code from) d.0 (does bs p.1) d.1 d.2)

-- a value that branches tell
told_value : (old b0 new : List RBlock) (e : TypedExpression) (t : Targets) (d free : ℕ) (after : Spot) (x : Result OpenBlock LowerFault)
    → Truth old b0 d t after → IsTest e → value_registers e free ≡ condition_registers e true free
    → value_blocks e (joint after) ≡ joint after + 2 + condition_blocks e → value_insts e ≡ condition_insts e + 2
    → Emits (condition_branch e t free) b0 new x → Emits (value e d free after) old new x
told_value old b0 new e t d free after x tr tests registers blocks insts last =
    let last' = subst (λ b. Emits (branch (condition_size e b free) e t free) b0 new x) tr.likely last in
    ended (joint after + 2) last'
    (record { blocks = blocks; registers = omega (arith, registers); room = λ le. omega (arith, registers, le); globals = omega arith })
    tr.grows tr.count
    (λ from keeps. (
      λ s n g h.
          let m = tr.sound s (within last.grows n) g (h.0, h.1.1) in
          keeps.0 s n m.0 ((omega (arith, registers, h.1.0.0), h.1.0.1), m.1),
      omega (arith, keeps.1, insts, tr.insts),
    ))
    (λ from does bs h.
    let p = split2 bs old b0 new tr.grows last.grows h in
    told bs e d t.yes t.no free (open_code from) after tests (tr.truth bs p.0) (does bs p.1))

pub told_emits : (both : Bool) (old b0 new : List RBlock) (k : IntegerType) (l r : TypedExpression) (t : Targets) (d free : ℕ) (after : Spot)
    (x : Result OpenBlock LowerFault) → Truth old b0 d t after
    → Emits (condition_branch (binary (logical_of both) k l r) t free) b0 new x
    → Emits (value (binary (logical_of both) k l r) d free after) old new x
told_emits true old b0 new k l r t d free after x tr last =
    told_value old b0 new (binary B.LogicalAnd k l r) t d free after x tr (and_tests k l r) refl (omega arith) refl last
told_emits false old b0 new k l r t d free after x tr last =
    told_value old b0 new (binary B.LogicalOr k l r) t d free after x tr (or_tests k l r) refl (omega arith) refl last

-- two operands
pub both_emits : (old mid new : List RBlock) (l r : TypedExpression) (free : ℕ) (w : WaitingForTwo) (middle : OpenBlock) (x : Result OpenBlock LowerFault)
    → Emits (operand r w.second.register w.first.free w.code) old mid (Ok middle) → Emits (operand l w.first.register free middle) mid new x
    → Emits (two_operands l r free w) old new x
both_emits old mid new l r free w middle x second left =
    ended (value_blocks r 1) left
    (record { blocks = omega arith; registers = omega arith; room = λ le. omega (arith, le, second.room); globals = omega arith })
    second.grows second.count
    (λ from keeps. (
      λ s n g h.
          let m = second.sound.0 s (within left.grows n) g (h.1.0, ((omega (arith, h.1.1.0.0), omega (arith, h.1.1.0.1)), h.1.1.1)) in
          keeps.0 s n m.0 (h.0, ((omega (arith, h.1.1.0.0), omega (arith, h.1.1.0.1)), m.1)),
      (let m = keeps.1 in let n = second.sound.1 in omega (arith, m, n)),
    ))
    (λ from does bs h.
    let parts = split2 bs old mid new second.grows left.grows h in
    (open_code middle, does bs parts.1, second.does bs parts.0))

-- the registers of an operator: those of its operands
operator_registers : (o : BinaryOp) (k : IntegerType) (l r : TypedExpression) (free : ℕ) → is_logical o ≡ false → value_registers (binary o k l r) free
    ≡ operands_registers (place_registers l free) (place_registers r (next_free l free)) (value_registers l free) (value_registers r (next_free l free))
operator_registers o k l r free plain = rw plain refl

pub operator_emits : (old new : List RBlock) (o : BinaryOp) (k : IntegerType) (op : Operation) (l r : TypedExpression)
    (d free : ℕ) (code : OpenBlock) (after : Spot) (w : Result WaitingForTwo LowerFault) (x : Result OpenBlock LowerFault)
    → Computes o (sign_of k) op → is_logical o ≡ false → open_code code ≡ line_of after
    → IfOk w (λ w. IsPlace l free w.first.register w.first.free) → IfOk w (λ w. IsPlace r w.first.free w.second.register w.second.free)
    → IfOk w (λ w. open_code w.code ≡ first (inst_of op d w.first.register w.second.register) (open_code code))
    → IfOk w (λ w. (s : Scope) → d < s.registers → both_registers l r free ≤ s.registers
    → IsSound s (open_code code) → IsSound s (open_code w.code))
    → OnOk w (both_registers l r free ≤ MAX_REGISTERS)
    → IfErr w (λ f. f ≡ Limit → MAX_REGISTERS < both_registers l r free)
    → IfOk w (λ w. Emits (two_operands l r free w) old new x)
    → IfErr w (λ f. (x ≡ Err f) × (new ≡ old)) → Emits (value (binary o k l r) d free after) old new x
operator_emits old new o k op l r d free code after (Ok w) x computes plain fe pl pr fw sound room limit two err =
    let size = operator_registers o k l r free plain in
    let ve = ap (value_registers r) pl.next_is in
    ended 0 two
    (record { blocks = rw plain (omega arith); registers = omega (arith, size, ve); room = λ le. omega (arith, size, ve, room, le); globals = omega arith })
    (grows_same old) (omega arith)
    (λ from keeps. (
      λ s n g h.
          let few = held_names l r free _ _ _ _ s.registers pl pr (omega (arith, size, h.1.0.0)) in
          keeps.0 s n g (few.0, (few.1.0, ((few.1.1.0, h.1.0.1), sound s h.0 few.1.1.1 (sound_along fe (sound_line _ h.1.1))))),
      (let all : value_insts (binary o k l r) ≡ value_insts r + value_insts l + 1 = rw plain refl in
          omega (arith, keeps.1, all, ap insts_of fw, ap insts_of fe, line_insts after)),
    ))
    (λ from does bs h.
    let m = does bs h in
    operator_value bs o k op l r d free (open_code from) (line_of after) computes
    (operates bs op l r d free w.first.register w.first.free w.second.register w.second.free (open_code from) m.0 (line_of after) pl pr m.1
    (finds_to (fw ∙ ap (first (inst_of op d w.first.register w.second.register)) fe) m.2)))
operator_emits old new o k op l r d free code after (Err f) x computes plain fe pl pr fw sound room limit two err =
    refused f err.0 err.1 (λ is. omega (arith, operator_registers o k l r free plain, limit is))

-- code as a block of its own
pub block_emits : (old mid new : List RBlock) (size : Size) (Needs Needs' : Scope → Type 0) (Is : List RBlock → Code → Type 0) (code : OpenBlock)
    (x : Result ℕ LowerFault)
    → Emits (record { size = size; Keeps = KeepsCode Needs' 0 size.insts; Does = λ from bs. Is bs (open_code from) }) old mid (Ok code)
    → ((s : Scope) → Covers size s → Needs s → Needs' s)
    → Grows mid new → OnOk x (length new ≡ length mid + 1) → OnOk x (insts_in new ≡ insts_in mid + insts_of (open_code code))
    → IfErr x (λ f. f ≡ Limit → MAX_BLOCKS < length mid + 1)
    → IfOk x (λ b. KeepsSound mid new (λ s. IsSound s (open_code code)) (λ s. b < s.blocks))
    → IfOk x (λ b. Over mid new (λ bs. At bs b (open_code code))) → Emits (own_block size Needs Is) old new x
block_emits old mid new size Needs Needs' Is code (Ok b) e needs g n insts limit sound ats =
    let c : length mid ≡ length old + size.blocks = e.count in
    record {
      grows = grows_then old mid new e.grows g;
      count = omega (arith, c, n);
      room = e.room;
      limit = tt;
      sound = (
        λ s l gs h.
            let m = e.sound.0 s (within g l) gs (needs s h.0 h.1) in
            sound s l m.0 m.1,
        (let a = e.sound.1 in omega (arith, a, insts)),
      );
      does = λ bs h.
          let p = split2 bs old mid new e.grows g h in
          (open_code code, ats bs p.1, e.does bs p.0);
    }
block_emits old mid new size Needs Needs' Is code (Err f) e needs g n insts limit sound ats =
    stopped f refl (grows_then old mid new e.grows g) (λ is. omega (arith, e.count, limit is))

-- both sides of `?:` as blocks of their own
record Sides (b0 b2 : List RBlock) (registers blocks insts globals : ℕ) (Needs : Scope → Type 0) (IsYes IsNo : List RBlock → Code → Type 0)
    (yes_block no_block : ℕ) : Type 0 where
  grows : Grows b0 b2
  count : length b2 ≡ length b0 + (blocks + 2)
  room : registers ≤ MAX_REGISTERS
  sound : KeepsSound b0 b2 (λ s. ((registers ≤ s.registers) × (globals ≤ s.globals)) × Needs s) (λ s. (yes_block < s.blocks) × (no_block < s.blocks))
  adds : Adds b0 b2 0 0 insts
  does : Over b0 b2 (λ bs. ((from : Code) × At bs yes_block from × IsYes bs from) × ((from : Code) × At bs no_block from × IsNo bs from))

sides : (b0 b1 b2 : List RBlock) (s1 s2 : Size) (Needs : Scope → Type 0) (IsYes IsNo : List RBlock → Code → Type 0) (yes_block no_block : ℕ)
    → Emits (own_block s1 Needs IsYes) b0 b1 (Ok yes_block) → Emits (own_block s2 Needs IsNo) b1 b2 (Ok no_block)
    → Sides b0 b2 (max s1.registers s2.registers) (s1.blocks + s2.blocks) (s1.insts + s2.insts) (max s1.globals s2.globals) Needs IsYes IsNo
    yes_block no_block
sides b0 b1 b2 s1 s2 Needs IsYes IsNo yes_block no_block e1 e2 =
    record {
      grows = grows_then b0 b1 b2 e1.grows e2.grows;
      count = omega (arith, e1.count, e2.count);
      room = omega (arith, e1.room, e2.room);
      sound = λ s n g h.
          let a = e1.sound.0 s (within e2.grows n) g ((omega (arith, h.0.0), omega (arith, h.0.1)), h.1) in
          let b = e2.sound.0 s n a.0 ((omega (arith, h.0.0), omega (arith, h.0.1)), h.1) in
          (b.0, (a.1, b.1));
      adds = (let a = e1.sound.1 in let b = e2.sound.1 in omega (arith, a, b));
      does = λ bs h.
          let p = split2 bs b0 b1 b2 e1.grows e2.grows h in
          (e1.does bs p.0, e2.does bs p.1);
    }

pub conditional_branches : (b0 b1 b2 new : List RBlock) (k : IntegerType) (c a b : TypedExpression) (t t' : Targets) (free yes_block no_block : ℕ)
    (x : Result OpenBlock LowerFault) → t' ≡ record { yes = yes_block; no = no_block; likely = true }
    → Emits (own_branch a t free) b0 b1 (Ok yes_block) → Emits (own_branch b t free) b1 b2 (Ok no_block)
    → Emits (condition_branch c t' free) b2 new x
    → Emits (condition_branch (conditional k c a b) t free) b0 new x
conditional_branches b0 b1 b2 new k c a b t t' free yes_block no_block x it yes_side no_side last =
    let two = sides b0 b1 b2 (condition_size a t.likely free) (condition_size b t.likely free) (λ s. (t.yes < s.blocks) × (t.no < s.blocks))
    (λ bs from. Decides bs a free t.yes t.no from) (λ bs from. Decides bs b free t.yes t.no from) yes_block no_block yes_side no_side in
    let last' = subst (λ t. Emits (condition_branch c t free) b2 new x) it last in
    ended ((condition_size a t.likely free).blocks + (condition_size b t.likely free).blocks + 2) last'
    (record { blocks = omega arith; registers = omega arith; room = λ le. omega (arith, le, two.room); globals = omega arith })
    two.grows two.count
    (λ from keeps. (
      λ s n g h.
          let m = two.sound s (within last'.grows n) g ((omega (arith, h.0.0), omega (arith, h.0.1)), h.1) in
          keeps.0 s n m.0 ((omega (arith, h.0.0), omega (arith, h.0.1)), m.1),
      (let m = keeps.1 in let n = two.adds in omega (arith, m, n)),
    ))
    (λ from does bs h.
    let p = split2 bs b0 b2 new two.grows last'.grows h in
    let d = two.does bs p.0 in
    conditional_decides bs k c a b t.yes t.no yes_block no_block free (open_code from) d.0.0 d.1.0 (does bs p.1)
    d.0.1 d.1.1 d.0.2 d.1.2)

-- where a value goes on, as a block
pub record Joined (old new : List RBlock) (after : Spot) (join : ℕ) : Type 0 where
  pub grows : Grows old new
  pub count : length new ≡ length old + joint after
  pub insts : insts_in new ≡ insts_in old + insts_at after
  pub sound : KeepsSound old new (λ s. IsSoundSpot s after) (λ s. join < s.blocks)
  pub lands : Over old new (λ bs. Lands bs join after)

pub conditional_emits : (old b0 b1 b2 new : List RBlock) (k : IntegerType) (c a b : TypedExpression) (t' : Targets) (d free join yes_block no_block : ℕ)
    (after : Spot) (x : Result OpenBlock LowerFault) → t' ≡ record { yes = yes_block; no = no_block; likely = true } → Joined old b0 after join
    → Emits (own_value a d free join) b0 b1 (Ok yes_block) → Emits (own_value b d free join) b1 b2 (Ok no_block)
    → Emits (condition_branch c t' free) b2 new x → Emits (value (conditional k c a b) d free after) old new x
conditional_emits old b0 b1 b2 new k c a b t' d free join yes_block no_block after x it j yes_side no_side last =
    let two = sides b0 b1 b2 (value_size a free 0) (value_size b free 0) (λ s. (d < s.registers) × (join < s.blocks))
    (λ bs from. Evaluates bs a free d from (goto join)) (λ bs from. Evaluates bs b free d from (goto join)) yes_block no_block yes_side no_side in
    let last' = subst (λ t. Emits (condition_branch c t free) b2 new x) it last in
    ended (joint after + (value_blocks a 0 + value_blocks b 0 + 2)) last'
    (record { blocks = omega arith; registers = omega arith; room = λ le. omega (arith, le, two.room); globals = omega arith })
    (grows_then old b0 b2 j.grows two.grows) (omega (arith, j.count, two.count))
    (λ from keeps. (
      λ s n g h.
          let n2 = within last'.grows n in
          let at = j.sound s (within two.grows n2) g h.1.1 in
          let m = two.sound s n2 at.0 ((omega (arith, h.1.0.0), omega (arith, h.1.0.1)), (h.0, at.1)) in
          keeps.0 s n m.0 ((omega (arith, h.1.0.0), omega (arith, h.1.0.1)), m.1),
      (let m = keeps.1 in let n = two.adds in omega (arith, m, n, j.insts)),
    ))
    (λ from does bs h.
    let p = split3 bs old b0 b2 new j.grows two.grows last'.grows h in
    let m = two.does bs p.1 in
    conditional_value bs k c a b d join yes_block no_block free (open_code from) after m.0.0 m.1.0 (j.lands bs p.0)
    m.0.1 m.1.1 (does bs p.2) m.0.2 m.1.2)

-- conditions

pub constant_emits : (old : List RBlock) (e : TypedExpression) (c : Literal) (word : ℕ) (t : Targets) (free : ℕ) (from : OpenBlock) → e ≡ constant c
    → word ≡ wrap c.value → open_code from ≡ goto (if nat_eq word 0 then t.no else t.yes)
    → Emits (condition_branch e t free) old old (Ok from)
constant_emits old e c word t free from is iw fe =
    subst (λ e. Emits (condition_branch e t free) old old (Ok from)) (sym is) (record {
      grows = grows_same old;
      count = omega arith;
      room = omega arith;
      limit = tt;
      sound = ((λ s n g h. (g, sound_exit _ fe (either (nat_eq word 0) t.no t.yes s.blocks h.1.1 h.1.0))), omega (arith, ap insts_of fe));
      does = λ bs h. subst (λ f. Decides bs (constant c) free t.yes t.no f) (sym fe)
          (constant_decides bs c _ t.yes t.no free (ap (λ x. if nat_eq x 0 then t.no else t.yes) iw));
    })
  where
    either : (b : Bool) (n y m : ℕ) → n < m → y < m → (if b then n else y) < m
    either true n y m ln ly = ln
    either false n y m ln ly = ly

pub not_branches : (old new : List RBlock) (e : TypedExpression) (o : UnaryOp) (k : IntegerType) (a a' : TypedExpression) (t t' : Targets) (free : ℕ)
    (x : Result OpenBlock LowerFault) → e ≡ unary o k a → o ≡ U.Not → a' ≡ a → t' ≡ record { yes = t.no; no = t.yes; likely = not t.likely }
    → Emits (condition_branch a' t' free) old new x → Emits (condition_branch e t free) old new x
not_branches old new e o k a a' t t' free x is io ia it v =
    let v' = subst (λ t. Emits (condition_branch a' t free) old new x) it v in
    subst (λ e. Emits (condition_branch e t free) old new x) (sym (unary_is o U.Not k a a' is io ia))
    (ended 0 v'
    (record { blocks = omega arith; registers = omega arith; room = λ le. le; globals = omega arith })
    (grows_same old) (omega arith)
    (λ from keeps. (λ s n g h. keeps.0 s n g (h.0, (h.1.1, h.1.0)), keeps.1))
    (λ from does bs h. not_decides bs k a' t.yes t.no free (open_code from) (does bs h)))

pub contrary_emits : (old new : List RBlock) (o : BinaryOp) (k : IntegerType) (op : Operation) (l r : TypedExpression) (t : Targets) (free : ℕ)
    (w : Result WaitingForTwo LowerFault) (x : Result OpenBlock LowerFault)
    → ComputesContrary o (sign_of k) op → is_logical o ≡ false → has_contrary o ≡ true → t.likely ≡ false
    → IfOk w (λ w. IsPlace l free w.first.register w.first.free) → IfOk w (λ w. IsPlace r w.first.free w.second.register w.second.free)
    → IfOk w (λ w. open_code w.code ≡ first (inst_of op free w.first.register w.second.register) (exit_code (X.Branch free t.no t.yes)))
    → IfOk w (λ w. (s : Scope) → max (free + 1) (both_registers l r free) ≤ s.registers
    → t.yes < s.blocks → t.no < s.blocks → IsSound s (open_code w.code))
    → OnOk w (max (free + 1) (both_registers l r free) ≤ MAX_REGISTERS)
    → IfErr w (λ f. f ≡ Limit → MAX_REGISTERS < max (free + 1) (both_registers l r free))
    → IfOk w (λ w. Emits (two_operands l r free w) old new x)
    → IfErr w (λ f. (x ≡ Err f) × (new ≡ old)) → Emits (condition_branch (binary o k l r) t free) old new x
contrary_emits old new o k op l r t free (Ok w) x tests plain has unlikely pl pr fw sound room limit two err =
    let size = contrary_registers o k l r t.likely free plain has unlikely in
    let ve = ap (value_registers r) pl.next_is in
    ended 0 two
    (record { blocks = rw plain (omega arith); registers = omega (arith, size, ve); room = λ le. omega (arith, size, ve, room, le); globals = omega arith })
    (grows_same old) (omega arith)
    (λ from keeps. (
      λ s n g h.
          let few = held_names l r free _ _ _ _ s.registers pl pr (omega (arith, size, h.0.0)) in
          keeps.0 s n g (few.0, (few.1.0, ((few.1.1.0, h.0.1), sound s (omega (arith, size, h.0.0)) h.1.0 h.1.1))),
      (let all : condition_insts (binary o k l r) ≡ value_insts r + value_insts l + 1 + 2 = rw plain refl in
          omega (arith, keeps.1, all, ap insts_of fw)),
    ))
    (λ from does bs h.
    let m = does bs h in
    contrary_decides bs o k op l r free t.yes t.no free (open_code from) tests (omega arith)
    (operates bs op l r free free w.first.register w.first.free w.second.register w.second.free (open_code from) m.0 _ pl pr m.1 (finds_to fw m.2)))
contrary_emits old new o k op l r t free (Err f) x tests plain has unlikely pl pr fw sound room limit two err =
    refused f err.0 err.1 (λ is. omega (arith, contrary_registers o k l r t.likely free plain has unlikely, limit is))

pub test_emits : (old new : List RBlock) (e : TypedExpression) (t : Targets) (free : ℕ) (w : Result Waiting LowerFault) (x : Result OpenBlock LowerFault)
    → IfOk w (λ w. IsPlace e free w.place.register w.place.free)
    → OnOk w (tested_registers t.likely e free ≤ MAX_REGISTERS)
    → IfOk w (λ w. (bs : List RBlock) (from : Code) → Fetches bs e free w.place.register from (open_code w.code) → Decides bs e free t.yes t.no from)
    → IfOk w (λ w. insts_of (open_code w.code) ≤ 2)
    → IfOk w (λ w. (s : Scope) → tested_registers t.likely e free ≤ s.registers
    → t.yes < s.blocks → t.no < s.blocks → IsSound s (open_code w.code))
    → IfErr w (λ f. f ≡ Limit → MAX_REGISTERS < tested_registers t.likely e free)
    → IfOk w (λ w. Emits (operand e w.place.register free w.code) old new x) → IfErr w (λ f. (x ≡ Err f) × (new ≡ old))
    → Emits (value_branch e t free) old new x
test_emits old new e t free (Ok w) x pl room does insts sound limit v err =
    let size = test_size_is t.likely free (place_registers e free) (next_free e free) (value_registers e free) in
    ended 0 v
    (record { blocks = omega arith; registers = omega (arith, size); room = λ le. omega (arith, size, room, le); globals = omega arith })
    (grows_same old) (omega arith)
    (λ from keeps. (
      λ s n g h.
          let few = test_names t.likely free (place_registers e free) (next_free e free) (value_registers e free) s.registers h.0.0 in
          let held : w.place.register < s.registers = (let p = pl.counted in let q = few.0 in omega (arith, p, q)) in
          keeps.0 s n g (held, ((few.1.0, h.0.1), sound s few.1.1 h.1.0 h.1.1)),
      (let m = keeps.1 in omega (arith, m, insts)),
    ))
    (λ from made bs h. does bs (open_code from) (made bs h))
test_emits old new e t free (Err f) x pl room does insts sound limit v err =
    let size = test_size_is t.likely free (place_registers e free) (next_free e free) (value_registers e free) in
    refused f err.0 err.1 (λ is. omega (arith, size, limit is))

pub operand_emits : (old new : List RBlock) (e : TypedExpression) (p free : ℕ) (after : OpenBlock) (x : Result OpenBlock LowerFault)
    → Emits (value e p free (Line (open_code after))) old new x → Emits (operand e p free after) old new x
operand_emits old new e p free after x v =
    ended 0 v
    (record { blocks = omega arith; registers = omega arith; room = λ le. le; globals = omega arith })
    (grows_same old) (omega arith)
    (λ from keeps. keeps)
    (λ from does bs h. fetched bs e free p (open_code from) (open_code after) (does bs h))

-- the operands of a list
pub operands_emits : (old mid new : List RBlock) (all es : List TypedExpression) (e : TypedExpression) (ps ps2 : List Place) (p : Place) (free : ℕ)
    (after middle : OpenBlock) (x : Result OpenBlock LowerFault) → all ≡ e ∷ es → ps ≡ p ∷ ps2 → ArePlaces all free ps
    → Emits (operands es ps2 p.free after) old mid (Ok middle) → Emits (operand e p.register free middle) mid new x
    → Emits (operands all ps free after) old new x
operands_emits old mid new all es e ps ps2 p free after middle x ia ip are rest one =
    let both : ArePlaces (e ∷ es) free (p ∷ ps2) = subst (λ ps. ArePlaces (e ∷ es) free ps) ip (subst (λ all. ArePlaces all free ps) ia are) in
    let room : values_registers es (next_free e free) ≤ MAX_REGISTERS = subst (λ n. values_registers es n ≤ MAX_REGISTERS) both.0.next_is rest.room in
    subst (λ all. Emits (operands all ps free after) old new x) (sym ia) (subst (λ ps. Emits (operands (e ∷ es) ps free after) old new x) (sym ip)
    (ended (arguments_blocks es) one
    (record { blocks = omega arith; registers = omega arith; room = λ le. omega (arith, le, room); globals = omega arith })
    rest.grows rest.count
    (λ from keeps. (
      λ s n g h.
          let pw = both.0.counted in
          let pe = ap (places_registers es) both.0.next_is in
          let ve = ap (values_registers es) both.0.next_is in
          let m = rest.sound.0 s (within one.grows n) g (omega (arith, pe, h.0), ((omega (arith, ve, h.1.0.0), omega (arith, h.1.0.1)), h.1.1)) in
          keeps.0 s n m.0 (omega (arith, pw, h.0), ((omega (arith, h.1.0.0), omega (arith, h.1.0.1)), m.1)),
      (let m = keeps.1 in let n = rest.sound.1 in omega (arith, m, n)),
    ))
    (λ from does bs h.
    let t = split2 bs old mid new rest.grows one.grows h in
    (open_code middle, does bs t.1, rest.does bs t.0))))
