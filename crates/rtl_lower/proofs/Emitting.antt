-- What the call for a statement promises (`Emits`), from what the calls for its parts did: one lemma for each kind.
use Rattle.std.proofs.Common.{Vec, Global, ◌≡◌, ◌≢◌, ℕ, ◌+◌, ◌<◌, ◌≤◌, Bool, true, false, List, [], ◌++◌, Option, Some, ◌⊎◌, inl, inr, Ok, Err}
use Rattle.std.proofs.Common.{Result, refl, sym, ◌∙◌, ap, subst, arith, length, drop}
use Rattle.std.specs.Prelude.{slice_get, ◌&&◌, not, IfOk, IfErr, OnOk, map, if◌then◌else◌}
use Rattle.c_typed.specs.declared.tree.Destination.{Destination}
use Rattle.c_typed.specs.declared.tree.Destination.TheVariants.{Local, Global as Variable}
use Rattle.c_typed.specs.declared.tree.TypedStatement as Tree
use Rattle.c_typed.specs.Shape.{statements_of}
use Rattle.c_typed.specs.Trees.{TypedExpression, TypedStatement, TypedStatements, assign, store, call, output, if_else, loop}
use Rattle.c_typed.specs.Trees.{return_with, more_statements}
use Rattle.rtl.specs.declared.instruction.RInst.TheVariants as I
use Rattle.rtl.specs.declared.instruction.RExit.TheVariants as X
use Rattle.rtl.specs.declared.block.RBlock.{RBlock}
use Rattle.rtl.specs.declared.limits.TheConstants.{MAX_REGISTERS, MAX_BLOCKS}
use Rattle.runs.specs.Runs.{with_value}
use Rattle.rtl.specs.Meaning.{Code, activation, around_callee, code_of, words_in, state_after_call}
use Rattle.rtl_emit.specs.Blocks.{At, Spot, Block, Line, Lands, Grows, Has, Reserves, Fills, open_code, exit_code, first, spot, line_of}
use Rattle.rtl_emit.specs.Blocks.{insts_of, insts_at, insts_in}
use Rattle.rtl_emit.specs.Emits.{Description, Emits, value, operand, operands, condition_branch}
use Rattle.rtl_emit.specs.Expressions.{IsPlace, Fetches, AddPlaces}
use Rattle.rtl_emit.specs.Sizes.{joint, place_registers, places_registers, next_free, value_registers, value_blocks, condition_blocks}
use Rattle.rtl_emit.specs.Sound.{Scope, IsSound, IsSoundSpot, AreSound, KeepsSound}
use Rattle.rtl_emit.specs.declared.block.OpenBlock.{OpenBlock}
use Rattle.rtl_emit.specs.declared.block.Continuation.{Continuation}
use Rattle.rtl_emit.specs.declared.block.Continuation.TheVariants.{Jump, Made}
use Rattle.rtl_emit.specs.declared.fault.LowerFault.{LowerFault}
use Rattle.rtl_emit.specs.declared.fault.LowerFault.TheVariants.{Limit}
use Rattle.rtl_emit.specs.declared.place.Place.{Place}
use Rattle.rtl_emit.specs.declared.targets.Targets.{Targets}
use Rattle.rtl_emit.proofs.Blocks.{grows_then, within, line_insts, split2, split3, split4}
use Rattle.rtl_emit.proofs.Emitted.{Over, Joins, finds_to}
use Rattle.rtl_emit.proofs.Emitting.{Ends, ended, part_refused, grows_same}
use Rattle.rtl_emit.proofs.Sound.{sound_along, sound_first, sound_exit, sound_line}
use Rattle.rtl_lower.specs.Emits.{simple_code, statement_code, statements_code, made_of, side_code}
use Rattle.rtl_lower.specs.Emits.{receiver, IsEnd, end_of_turn, last_code}
use Rattle.rtl_lower.specs.Sizes.{stays, is_equality, continues, receiver_blocks, statement_joint, statements_joint}
use Rattle.rtl_lower.specs.Sizes.{statement_blocks, statements_blocks, statements_registers, numbers_named_in}
use Rattle.rtl_lower.specs.Coded.{enclosing, FetchesFirst}
use Rattle.rtl_lower.specs.declared.context.Context.{Context}
use Rattle.rtl_lower.specs.declared.simple.Receiver.{Receiver}
use Rattle.rtl_lower.specs.declared.statement.Turn.{Turn}
use Rattle.rtl_lower.proofs.Sizes.{rest_within}
use Rattle.rtl_lower.proofs.Sound.{fewer, named, named_all, in_scope, callee_sound, place_registers_sound}
use Rattle.rtl_lower.proofs.Follows.{comes_join}

-- the same size, and less told
meant : {A : Type 0} {part whole : Description A} {old new : List RBlock} {r : Result A LowerFault} → Emits part old new r
    → Ends part.size whole.size 0 → ((x : A) → part.Keeps old new x → whole.Keeps old new x)
    → ((x : A) → Over old new (part.Does x) → Over old new (whole.Does x)) → Emits whole old new r
meant {old = old} e sizes keeps does = ended 0 e sizes (grows_same old) (omega arith) keeps does

-- what an Ok promises
pub emitted : {A : Type 0} {d : Description A} {old new : List RBlock} (x : A) → Grows old new → length new ≡ length old + d.size.blocks
    → d.size.registers ≤ MAX_REGISTERS → d.Keeps old new x → Over old new (d.Does x) → Emits d old new (Ok x)
emitted x grows count room keeps does = record { grows = grows; count = count; room = room; limit = tt; sound = keeps; does = does }

-- the blocks that were there before one of these was filled
has_beside : {b0 b5 b6 : List RBlock} {head : ℕ} {c : Code} (bs a b : List RBlock) → Fills b5 b6 head c → Has bs b0 b6 → Grows b b5
    → length b0 ≤ length a → (head < length a) ⊎ (length b ≤ head) → Has bs a b
has_beside {head = head} bs a b f h g low beside = record {
  by = λ i from to.
      let ne : i ≢ head = omega arith in
      h.by i (omega arith) (omega (arith, f.same_length, g.longer)) ∙ f.others i ne ∙ g.kept i to;
}

-- code as what other code goes on at
abbrev made : Description Continuation → Description OpenBlock
made d = record { size = d.size; Keeps = λ old new from. d.Keeps old new (Made from); Does = λ from. d.Does (Made from) }

made_emits : (d : Description Continuation) (old new : List RBlock) (r : Result OpenBlock LowerFault) → Emits (made d) old new r
    → Emits d old new (made_of r)
made_emits d old new (Ok from) e = emitted (Made from) e.grows e.count e.room e.sound e.does
made_emits d old new (Err f) e = part_refused 0 e refl (omega arith) (omega arith) (omega arith) (grows_same old) (omega arith)

-- a block that was sealed
pub record Sealing (old new : List RBlock) (block : ℕ) (after : Spot) : Type 0 where
  pub grows : Grows old new
  pub count : length new ≡ length old + joint after
  pub insts : insts_in new ≡ insts_in old + insts_at after
  pub sound : KeepsSound old new (λ s. IsSoundSpot s after) (λ s. block < s.blocks)
  pub lands : Joins old new block after

pub sealed : {old new : List RBlock} {block : ℕ} (after : Spot) → Grows old new → length new ≡ length old + joint after
    → insts_in new ≡ insts_in old + insts_at after → KeepsSound old new (λ s. IsSoundSpot s after) (λ s. block < s.blocks) → Joins old new block after
    → Sealing old new block after
sealed after grows count insts sound lands = record { grows = grows; count = count; insts = insts; sound = sound; lands = lands }

-- code that first has a value in its place
abbrev fetches_first : {bs : List RBlock} {free p next : ℕ} {e : TypedExpression} {rest : ℕ → Code} (from : OpenBlock) → IsPlace e free p next
    → Fetches bs e free p (open_code from) (rest p) → FetchesFirst (enclosing bs free) e (Line (open_code from)) rest
fetches_first {p = p} {next = next} from is_place value = record { code = open_code from; is = refl; p = p; next = next; is_place = is_place; value = value }

-- statements that go on behind themselves alone

pub simple_emits : {old new : List RBlock} {s s' : TypedStatement} {code : Result OpenBlock LowerFault} {r : Result Continuation LowerFault}
    (c : Context) (after : Spot) → s ≡ s' → ((n : ℕ) → statement_joint s' n ≡ 1) → r ≡ made_of code → Emits (simple_code s' c.free after) old new code
    → Emits (statement_code s c after) old new r
simple_emits {old} {new} {s} {s'} {code} c after is one ir e =
    rw (ir, is) (made_emits (statement_code s' c after) old new code
    (meant e (omega arith)
    (λ from keeps. (sym (one (joint after)), λ p n gives inside f s l g h. keeps.0 p n gives inside f s l g (h.0, h.1.1.1), keeps.1))
    (λ from does bs h. does bs h c.leave c.next)))

pub local_emits : (old new : List RBlock) (to : Destination) (x local : ℕ) (e : TypedExpression) (free : ℕ) (after : Spot)
    (r : Result OpenBlock LowerFault) → to ≡ Local x → local ≡ x → local < MAX_REGISTERS → Emits (value e local free after) old new r
    → Emits (simple_code (assign to e) free after) old new r
local_emits old new to x local e free after r it il lt v =
    rw (it, ← il) (meant v (omega (arith, lt))
    (λ from keeps. (
      λ p n gives inside f s l g h. keeps.0 s l g (omega (arith, h.0.registers_fit), ((omega (arith, h.0.registers_fit), named p s n e h.0 f.1), h.1)),
      keeps.1,
    ))
    (λ from does bs h leave next. record { code = open_code from; is = refl; value = does bs h }))

pub variable_emits : (old new : List RBlock) (to : Destination) (x g : ℕ) (e : TypedExpression) (free p next z : ℕ) (last middle : OpenBlock)
    (after : Spot) (r : Result OpenBlock LowerFault) → to ≡ Variable x → g ≡ x → IsPlace e free p next → place_registers e free ≤ MAX_REGISTERS
    → z ≡ next → z < MAX_REGISTERS → open_code last ≡ first (I.Store g z p) (line_of after) → open_code middle ≡ first (I.Const z 0) (open_code last)
    → Emits (operand e p free middle) old new r → Emits (simple_code (assign to e) free after) old new r
variable_emits old new to x g e free p next z last middle after r it ig pl room iz lt fl fm o =
    let next_is : z ≡ next_free e free = iz ∙ pl.next_is in
    let code : open_code middle ≡ first (I.Const z 0) (first (I.Store g z p) (line_of after)) = fm ∙ ap (first (I.Const z 0)) fl in
    rw (it, ← ig) (meant o (omega (arith, room, lt, next_is))
    (λ from keeps. (
      λ p' n gives inside f s l g' h.
          let there = in_scope p' s _ _ h.0 refl f.0 in
          let held : p < s.registers = omega (arith, h.0.registers_fit, pl.counted) in
          let spare : z < s.registers = omega (arith, h.0.registers_fit, next_is) in
          let few : value_registers e free ≤ s.registers = omega (arith, h.0.registers_fit) in
          keeps.0 s l g' (held, ((few, named p' s n e h.0 f.1), sound_first _ fm spare (sound_first _ fl (there, (spare, held)) (sound_line _ h.1)))),
      omega (arith, keeps.1, ap insts_of code, line_insts after),
    ))
    (λ from does bs h leave next'. record { z = z; fetches = fetches_first from pl (finds_to code (does bs h)); spare = omega (arith, iz) }))

pub store_emits : (old mid new : List RBlock) (a a' : ℕ) (i e : TypedExpression) (free p next q last : ℕ) (code middle : OpenBlock) (after : Spot)
    (r : Result OpenBlock LowerFault) → a' ≡ a → IsPlace i free p next → place_registers i free ≤ MAX_REGISTERS → IsPlace e next q last
    → place_registers e next ≤ MAX_REGISTERS → open_code code ≡ first (I.Store a' p q) (line_of after)
    → Emits (operand e q next code) old mid (Ok middle) → Emits (operand i p free middle) mid new r → Emits (simple_code (store a i e) free after) old new r
store_emits old mid new a a' i e free p next q last code middle after r ia pi ri pe re fe second one =
    let values = rw pi.next_is at second.room in
    let places = rw pi.next_is at re in
    rw (← ia) (ended (value_blocks e 1) one (omega (arith, ri, places, values)) second.grows second.count
    (λ from keeps. (
      λ p' n gives inside f s l g h.
          let at_index : p < s.registers = omega (arith, h.0.registers_fit, pi.counted) in
          let at_value : q < s.registers = omega (arith, h.0.registers_fit, pe.counted, ap (place_registers e) pi.next_is) in
          let in_value : value_registers e next ≤ s.registers = omega (arith, h.0.registers_fit, ap (value_registers e) pi.next_is) in
          let in_index : value_registers i free ≤ s.registers = omega (arith, h.0.registers_fit) in
          let end = sound_first _ fe (in_scope p' s _ _ h.0 refl f.0, (at_index, at_value)) (sound_line _ h.1) in
          let m = second.sound.0 s (within one.grows l) g (at_value, ((in_value, named p' s n e h.0 f.1.1), end)) in
          keeps.0 s l m.0 (at_index, ((in_index, named p' s n i h.0 f.1.0), m.1)),
      omega (arith, keeps.1, second.sound.1, ap insts_of fe, line_insts after),
    ))
    (λ from does bs h leave next'.
    let sp = split2 bs old mid new second.grows one.grows h in
    record {
      code = open_code from;
      is = refl;
      p = p;
      q = q;
      next = next;
      last = last;
      index_place = pi;
      value_place = pe;
      middle = open_code middle;
      index = does bs sp.1;
      value = finds_to fe (second.does bs sp.0);
    }))

pub output_emits : (old mid new : List RBlock) (e : TypedExpression) (free b p next : ℕ) (end : OpenBlock) (after : Spot)
    (r : Result OpenBlock LowerFault) → Sealing old mid b after → IsPlace e free p next → place_registers e free ≤ MAX_REGISTERS
    → open_code end ≡ exit_code (X.Out p b) → Emits (operand e p free end) mid new r → Emits (simple_code (output e) free after) old new r
output_emits old mid new e free b p next end after r sealing pl room fe o =
    ended (joint after) o (omega (arith, room)) sealing.grows sealing.count
    (λ from keeps. (
      λ p' n gives inside f s l g h.
          let j = sealing.sound s (within o.grows l) g h.1 in
          let held : p < s.registers = omega (arith, h.0.registers_fit, pl.counted) in
          keeps.0 s l j.0 (held, ((omega (arith, h.0.registers_fit), named p' s n e h.0 f), sound_exit _ fe (held, j.1))),
      omega (arith, keeps.1, ap insts_of fe, sealing.insts),
    ))
    (λ from does bs h leave next'.
    let sp = split2 bs old mid new sealing.grows o.grows h in
    record { block = b; lands = sealing.lands bs sp.0; leaves = fetches_first from pl (finds_to fe (does bs sp.1)) })

-- calls

pub to_variable_emits : {old new : List RBlock} {to : Option Destination} {x g t z b : ℕ} (free : ℕ) (last code : OpenBlock) (after : Spot)
    → to ≡ Some (Variable x) → g ≡ x → t ≡ free → t < MAX_REGISTERS → z ≡ t + 1 → z < MAX_REGISTERS
    → open_code last ≡ first (I.Store g z t) (line_of after)
    → open_code code ≡ first (I.Const z 0) (open_code last) → Sealing old new b (Line (open_code code))
    → Emits (receiver to free after) old new (Ok (record { to = Some t; block = b }))
to_variable_emits {g = g} {t = t} {z = z} {b = b} free last code after it ig ift lt iz ltz fl fc sealing =
    let both : open_code code ≡ first (I.Const z 0) (first (I.Store g z t) (line_of after)) = fc ∙ ap (first (I.Const z 0)) fl in
    rw (it, ← ig) (emitted _ sealing.grows sealing.count (omega (arith, ltz, iz, ift)) (
      λ p n f s l g' h.
          let there = in_scope p s _ _ h.0 refl f in
          let of_result : t < s.registers = omega (arith, h.0.registers_fit, ift) in
          let of_index : z < s.registers = omega (arith, h.0.registers_fit, ift, iz) in
          let j = sealing.sound s l g' (sound_first _ fc of_index (sound_first _ fl (there, (of_index, of_result)) (sound_line _ h.1))) in
          (j.0, (of_result, j.1)),
      omega (arith, ap insts_of both, line_insts after, sealing.insts),
    )
    (λ bs h.
    let there = rw both at (sealing.lands bs h) in
    record { t = t; z = z; is = refl; low = omega (arith, ift); apart = omega (arith, iz); there = there }))

pub call_emits : (old mid new : List RBlock) (to : Option Destination) (f f' : ℕ) (es : List TypedExpression) (free : ℕ) (x : Receiver)
    (places0 places ps1 ps2 : List Place) (args : Vec ℕ Global) (end : OpenBlock) (after : Spot) (r : Result OpenBlock LowerFault)
    → f' ≡ f → Emits (receiver to free after) old mid (Ok x) → places0 ≡ [] → AddPlaces es free places0 places → places_registers es free ≤ MAX_REGISTERS
    → ps1 ≡ places → ps2 ≡ places → args.items ≡ map (λ p. p.register) ps1 → open_code end ≡ exit_code (X.Call f' args x.to x.block)
    → Emits (operands es ps2 free end) mid new r → Emits (simple_code (call to f es) free after) old new r
call_emits old mid new to f f' es free x places0 places ps1 ps2 args end after r ig receiver i0 add room i1 i2 ia fe values =
    let all : places ≡ add.0 = add.1 ∙ ap (λ l. l ++ add.0) i0 in
    let registers : args.items ≡ map (λ p. p.register) add.0 = ia ∙ ap (map (λ p. p.register)) (i1 ∙ all) in
    rw (← ig) (ended (receiver_blocks to (joint after)) values (omega (arith, room, receiver.room)) receiver.grows receiver.count
    (λ from keeps. (
      λ p n gives inside fits s l g h.
          let j = receiver.sound.0 p n fits.0 s (within values.grows l) g (fewer h.0 (omega arith), h.1) in
          let in_places : places_registers es free ≤ s.registers = omega (arith, h.0.registers_fit) in
          let named_call = fits.1.0 in
          let callee = callee_sound p s _ _ named_call.callee _ _ _ _ h.0 refl named_call.there named_call.count registers add.2 in
          let exit = sound_exit _ fe (callee, (rw registers (place_registers_sound s.registers es free add.0 add.2 in_places), j.1)) in
          keeps.0 s l j.0 (in_places, ((omega (arith, h.0.registers_fit), named_all p s n es h.0 fits.1.1), exit)),
      omega (arith, keeps.1, receiver.sound.1, ap insts_of fe),
    ))
    (λ from does bs h leave next.
    let sp = split2 bs old mid new receiver.grows values.grows h in
    let exit = X.Call f' args x.to x.block in
    record {
      code = open_code from;
      is = refl;
      to = x.to;
      block = x.block;
      receives = receiver.does bs sp.0;
      places = add.0;
      are_places = add.2;
      exit = exit;
      leaves = λ w r. ap (λ l. with_value (words_in r l) w.output (λ vs. with_value (slice_get bs x.block) w.output (λ b.
          state_after_call (around_callee w (activation w bs r (code_of b)) x.to) f' vs))) registers;
      values = rw (i2 ∙ all, fe) at (does bs sp.1);
    }))

-- returns

pub value_returned : (old new : List RBlock) (given : Option TypedExpression) (e : TypedExpression) (free p next : ℕ) (end : OpenBlock) (after : Spot)
    (r : Result OpenBlock LowerFault) → given ≡ Some e → IsPlace e free p next → place_registers e free ≤ MAX_REGISTERS
    → open_code end ≡ exit_code (X.Return (Some p)) → Emits (operand e p free end) old new r → Emits (simple_code (return_with given) free after) old new r
value_returned old new given e free p next end after r ig pl room fe o = rw ig (meant o (omega (arith, room))
    (λ from keeps. (
      λ p' n gives inside f s l g h.
          let held : p < s.registers = omega (arith, h.0.registers_fit, pl.counted) in
          keeps.0 s l g (held, ((omega (arith, h.0.registers_fit), named p' s n e h.0 f.1), sound_exit _ fe held)),
      omega (arith, keeps.1, ap insts_of fe),
    ))
    (λ from does bs h leave next'. fetches_first from pl (finds_to fe (does bs h))))

-- lists of statements

pub more_emits : (old mid new : List RBlock) (all : TypedStatements) (s : TypedStatement) (rest : TypedStatements) (c : Context) (after : Spot)
    (middle : Continuation) (r : Result Continuation LowerFault) → all ≡ more_statements s rest → Emits (statements_code rest c after) old mid (Ok middle)
    → Emits (statement_code s c (spot middle)) mid new r → Emits (statements_code all c after) old new r
more_emits old mid new all s rest c after middle r is others one =
    let same : joint (spot middle) ≡ statements_joint rest (joint after) = others.sound.0 in
    rw is (ended (statements_blocks rest (joint after)) one (omega (arith, ap (statement_blocks s) same, others.room)) others.grows others.count
    (λ from keeps. (
      keeps.0 ∙ ap (statement_joint s) same,
      λ p n gives inside f s' l g h.
          let m = others.sound.1 p n gives inside f.1 s' (within one.grows l) g (fewer h.0 (omega arith), h.1) in
          keeps.1 p n gives inside f.0 s' l m.0 (fewer h.0 (omega arith), (h.1.0, (h.1.1.0, m.1))),
      omega (arith, keeps.2, others.sound.2),
    ))
    (λ from does bs h. let sp = split2 bs old mid new others.grows one.grows h in (spot middle, does bs sp.1, others.does bs sp.0)))

-- where one statement of a list fails, and the last ones are made
pub list_stopped : {old new : List RBlock} {f : LowerFault} {r : Result Continuation LowerFault} (all : List Tree.TypedStatement) (k : ℕ) (c : Context)
    (after : Spot) → r ≡ Err f → Emits (statements_code (statements_of (drop k all)) c after) old new (Err f)
    → Emits (statements_code (statements_of all) c after) old new r
list_stopped all k c after ir e =
    part_refused 0 e ir
    (rest_within (λ l. statements_registers l c.free) (λ s l. omega arith) k all)
    (omega (arith, rest_within (λ l. statements_blocks l (joint after)) (λ s l. omega arith) k all))
    (rest_within numbers_named_in (λ s l. omega arith) k all) (grows_same _) (omega arith)

-- `if`

pub side_emits : (old mid new : List RBlock) (s : TypedStatement) (c : Context) (join : ℕ) (code : Continuation) (r : Result ℕ LowerFault)
    → Emits (statement_code s c (Block join)) old mid (Ok code) → Grows mid new → OnOk r (length new ≡ length mid + joint (spot code))
    → OnOk r (insts_in new ≡ insts_in mid + insts_at (spot code))
    → IfErr r (λ f. f ≡ Limit → MAX_BLOCKS < length mid + joint (spot code))
    → IfOk r (λ b. KeepsSound mid new (λ s. IsSoundSpot s (spot code)) (λ s. b < s.blocks))
    → IfOk r (λ b. (bs : List RBlock) → Has bs mid new → Lands bs b (spot code)) → Emits (side_code s c join) old new r
side_emits old mid new s c join code (Ok b) e g count insts limit sound lands =
    emitted b (grows_then old mid new e.grows g) (omega (arith, e.count, count, e.sound.0)) e.room
    (λ p n gives inside f s' l g0 h. let m = e.sound.1 p n gives inside f s' (within g l) g0 h in sound s' l m.0 m.1, omega (arith, e.sound.2, insts))
    (λ bs h. let sp = split2 bs old mid new e.grows g h in (spot code, lands bs sp.1, e.does bs sp.0))
side_emits old mid new s c join code (Err f) e g count insts limit sound lands =
    record { grows = grows_then old mid new e.grows g; count = tt; room = tt; limit = λ is. omega (arith, e.count, e.sound.0, limit is); sound = tt; does = tt }

pub if_emits : {b0 b1 b2 b3 b4 : List RBlock} {join y n : ℕ} {likely : Bool} {after : Spot} {r : Result OpenBlock LowerFault} (e : TypedExpression)
    (a b : TypedStatement) (c : Context) → likely ≡ (stays a && not (is_equality e)) → Sealing b0 b1 join after
    → Emits (side_code a c join) b1 b2 (Ok y) → Emits (side_code b c join) b2 b3 (Ok n)
    → Emits (condition_branch e (record { yes = y; no = n; likely = likely }) c.free) b3 b4 r
    → Emits (statement_code (if_else e a b) c after) b0 b4 (made_of r)
if_emits {b0} {b1} {b2} {b3} {b4} {join} {y} {n} {likely} {after} {r} e a b c il sealing one other test =
    let test' = rw il at test in
    let sides = statement_blocks a 0 + statement_joint a 0 + statement_blocks b 0 + statement_joint b 0 in
    made_emits (statement_code (if_else e a b) c after) b0 b4 r
    (ended (joint after + sides) test' (omega (arith, one.room, other.room))
    (grows_then b0 b1 b3 sealing.grows (grows_then b1 b2 b3 one.grows other.grows)) (omega (arith, sealing.count, one.count, other.count))
    (λ from keeps. (
      refl,
      λ p k gives inside f s l g h.
          let l3 = within test'.grows l in
          let l2 = within other.grows l3 in
          let j = sealing.sound s (within one.grows l2) g h.1.1.1 in
          let x = one.sound.0 p k gives inside f.1.0 s l2 j.0 (fewer h.0 (omega arith), (h.1.0, (h.1.1.0, j.1))) in
          let z = other.sound.0 p k gives inside f.1.1 s l3 x.0 (fewer h.0 (omega arith), (h.1.0, (h.1.1.0, j.1))) in
          keeps.0 s l z.0 ((omega (arith, h.0.registers_fit), named p s k e h.0 f.0), (x.1, z.1)),
      omega (arith, keeps.1, one.sound.1, other.sound.1, sealing.insts),
    ))
    (λ from does bs h.
    let sp = split4 bs b0 b1 b2 b3 b4 sealing.grows one.grows other.grows test'.grows h in
    let x = one.does bs sp.1 in
    let z = other.does bs sp.2 in
    record {
      code = open_code from;
      is = refl;
      join = join;
      joined = sealing.lands bs sp.0;
      a = y;
      a_spot = x.0;
      a_lands = x.1;
      a_for = x.2;
      b = n;
      b_spot = z.0;
      b_lands = z.1;
      b_for = z.2;
      test = does bs sp.3;
    }))

-- loops

pub block_ends : {old new : List RBlock} {many : Bool} {last : Spot} {b : ℕ} → many ≡ true → Sealing old new b last
    → Emits (end_of_turn many last) old new (Ok (record { next = Some b; after = Jump b }))
block_ends {old} {new} {many} {last} {b} im sealing = rw im (emitted _ sealing.grows sealing.count (omega arith)
    ((refl, refl), λ s l g h. let j = sealing.sound s l g h in (j.0, (j.1, j.1)), omega (arith, sealing.insts))
    (λ bs h. record {
      comes = comes_join bs b last (sealing.lands bs h);
      continues = λ b' e. (let is : b ≡ b' = cc in rw (← is) (sealing.lands bs h));
    }))

pub turn_emits : {b0 b1 b2 b3 : List RBlock} {bottom : OpenBlock} {code : Continuation} {r : Result Turn LowerFault} (e : TypedExpression)
    (last : TypedStatement) (c : Context) (many : Bool) (again : Targets) → Emits (condition_branch e again c.free) b0 b1 (Ok bottom)
    → Emits (statement_code last c (Line (open_code bottom))) b1 b2 (Ok code) → Emits (end_of_turn many (spot code)) b2 b3 r
    → Emits (last_code e last c many again) b0 b3 r
turn_emits {b0} {b1} {b2} {b3} {bottom} {code} e last c many again test part end =
    let same : joint (spot code) ≡ statement_joint last 1 = part.sound.0 in
    ended (condition_blocks e + statement_blocks last 1) end (omega (arith, ap (λ n. if many then n else 0) same, test.room, part.room))
    (grows_then b0 b1 b2 test.grows part.grows) (omega (arith, test.count, part.count))
    (λ t keeps. (
      subst (λ n. IsEnd many t n) same keeps.0,
      λ p n gives fe fl s l g h.
          let l2 = within end.grows l in
          let x = test.sound.0 s (within part.grows l2) g ((omega (arith, h.0.registers_fit), named p s n e h.0 fe), h.1.1.1) in
          let y = part.sound.1 p n gives false fl s l2 x.0 (fewer h.0 (omega arith), (h.1.0, (h.1.1.0, x.1))) in
          keeps.1 s l y.0 y.1,
      omega (arith, keeps.2, test.sound.1, part.sound.2),
    ))
    (λ t does bs h.
    let sp = split3 bs b0 b1 b2 b3 test.grows part.grows end.grows h in
    record { from = spot code; is_turn = does bs sp.2; bottom = open_code bottom; coded = part.does bs sp.1; test = test.does bs sp.0 })

grows_filled : (b0 b5 b6 : List RBlock) (head : ℕ) (c : Code) → Grows b0 b5 → length b0 ≤ head → Fills b5 b6 head c → Grows b0 b6
grows_filled b0 b5 b6 head c g low f =
    record { longer = omega (arith, g.longer, f.same_length); kept = λ i lt. let ne : i ≢ head = omega arith in f.others i ne ∙ g.kept i lt }

-- where the test of a loop leads, and what surrounds its body
abbrev again : (head left : ℕ) → Targets
again head left = record { yes = head; no = left; likely = true }

abbrev inside_of : Context → (left : ℕ) → Turn → Context
inside_of c left turn = record { alloc = c.alloc; free = c.free; leave = left; next = turn.next }

-- a loop whose first block is filled last
pub loop_emits : {b0 b1 b2 b3 b4 b5 b6 : List RBlock} {left head : ℕ} {after : Spot} {turn : Turn} {code : Continuation} {top : OpenBlock}
    {filled : Code} (e : TypedExpression) (last body : TypedStatement) (c : Context) → Sealing b0 b1 left after → Reserves b1 b2 head
    → Emits (last_code e last c (continues body) (again head left)) b2 b3 (Ok turn)
    → Emits (statement_code body (inside_of c left turn) (spot turn.after)) b3 b4 (Ok code) → insts_in b2 ≡ insts_in b1
    → ((s : Scope) → AreSound s b1 → AreSound s b2) → Emits (condition_branch e (again head left) c.free) b4 b5 (Ok top)
    → filled ≡ line_of (spot code) → Fills b5 b6 head filled → insts_in b6 ≤ insts_in b5 + insts_of filled
    → ((s : Scope) → AreSound s b5 → IsSound s filled → AreSound s b6) → Emits (statement_code (loop e last body) c after) b0 b6 (Ok (Made top))
loop_emits {b0} {b1} {b2} {b3} {b4} {b5} {b6} {left} {head} {turn = turn} {code} {top} {filled} e last body c sealing res turns part i2 kept test ie f i6 sound =
    let g25 = grows_then b2 b3 b5 turns.grows (grows_then b3 b4 b5 part.grows test.grows) in
    let g15 = grows_then b1 b2 b5 res.grows g25 in
    let low : length b0 ≤ head = omega (arith, sealing.grows.longer, res.number) in
    let in_b2 : head < length b2 = omega (arith, res.number, res.longer) in
    emitted (Made top) (grows_filled b0 b5 b6 head filled (grows_then b0 b1 b5 sealing.grows g15) low f)
    (omega (arith, sealing.count, res.longer, turns.count, part.count, test.count, ap (statement_blocks body) turns.sound.0.1, f.same_length))
    (omega (arith, turns.room, part.room)) (
      refl,
      λ p n gives inside f' s l g h.
          let l5 : length b5 ≤ s.blocks = omega (arith, f.same_length, l) in
          let l4 = within test.grows l5 in
          let l3 = within part.grows l4 in
          let l2 = within turns.grows l3 in
          let j = sealing.sound s (within res.grows l2) g h.1.1.1 in
          let at : head < s.blocks = omega (arith, res.number, res.longer, l2) in
          let x = turns.sound.1 p n gives f'.0 f'.1.0 s l3 (kept s j.0) (fewer h.0 (omega arith), (h.1.0, (h.1.1.0, (at, j.1)))) in
          let y = part.sound.1 p n gives true f'.1.1 s l4 x.0 (fewer h.0 (omega arith), (j.1, x.1)) in
          let z = test.sound.0 s l5 y.0 ((omega (arith, h.0.registers_fit), named p s n e h.0 f'.0), (at, j.1)) in
          (sound s z.0 (sound_along ie (sound_line _ y.1)), z.1),
      omega (arith, turns.sound.2, part.sound.2, test.sound.1, ap insts_of ie, line_insts (spot code), i2, i6, sealing.insts),
    )
    (λ bs h.
    let h2 = has_beside bs b2 b5 f h (grows_same b5) (omega (arith, sealing.grows.longer, res.longer)) (inl in_b2) in
    let sp = split3 bs b2 b3 b4 b5 turns.grows part.grows test.grows h2 in
    let t = turns.does bs sp.0 in
    let head_at : At bs head filled =
    record { block = f.at.block; there = h.by head low (omega (arith, f.same_length, g25.longer)) ∙ f.at.there; is = f.at.is } in
    record {
      blocks = record {
        leave = left;
        left = sealing.lands bs (has_beside bs b0 b1 f h g15 (omega arith) (inr (omega (arith, res.number))));
        next = turn.next;
        body = head;
        body_spot = spot code;
        body_at = rw ie at head_at;
        turn = spot turn.after;
        body_for = part.does bs sp.1;
        last_spot = t.from;
        is_turn = t.is_turn;
        bottom = t.bottom;
        last_for = t.coded;
        again = t.test;
      };
      top = open_code top;
      is = refl;
      test = test.does bs sp.2;
    })
