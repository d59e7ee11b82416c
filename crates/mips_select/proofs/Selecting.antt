-- The parts of a program's unit, put together.
use Rattle.std.proofs.Common.{◌≡◌, ℕ, ◌+◌, ◌<◌, ◌≤◌, List, length, length-append, Some, refl, sym, ap, subst, ◌∙◌, arith, Result, IfErr}
use Rattle.std.specs.Prelude.{All, slice_get}
use Rattle.std.proofs.lemmas.List.Sums.{get_or-le-sum_by}
use Rattle.std.proofs.lemmas.Option.{get_or_from_slice_get, slice_get_within}
use Rattle.std.proofs.lemmas.Result.{err_from_is_err_and}
use Rattle.std.specs.Result.{IsErrAnd}
use Rattle.mblock.specs.declared.limits.TheConstants.{UNIT_BLOCKS, UNIT_BYTES, BLOCK_INSTS}
use Rattle.mblock.specs.Parts.{BlockParts}
use Rattle.mblock.specs.Units.{AreOwners, unit_parts}
use Rattle.rtl.specs.declared.instruction.RExit.{RExit}
use Rattle.rtl.specs.declared.block.RFunc.{RFunc}
use Rattle.rtl.specs.declared.block.RGlobal.{RGlobal}
use Rattle.rtl.specs.declared.limits.TheConstants.{MAX_BLOCKS}
use Rattle.rtl.specs.Programs.{Program, IsExit, IsBlock, IsFunction, IsProgram, block_count}
use Rattle.mips_homes.specs.declared.homed.Homed.{Homed}
use Rattle.mips_homes.specs.Places.{ArePlaced}
use Rattle.mips_select.specs.declared.fault.SelectFault.{SelectFault}
use Rattle.mips_select.specs.declared.fault.SelectFault.TheVariants.{Limit}
use Rattle.mips_select.specs.Split.{first_piece_of, split_blocks, split_owners}
use Rattle.mips_select.proofs.Places.{total_above, length-split_from}
use Rattle.mips_select.specs.Data.{zeros, data_bytes}
use Rattle.mips_select.specs.Emittable.{HasFewArguments, AreFunctionsEmittable}
use Rattle.mips_select.specs.Limits.{FramesFit}
use Rattle.mips_select.specs.Whole.{functions_size, linking_for, program_blocks, unit_for, owners_for}
use Rattle.mips_select.specs.Laws.{IsBeyond}
use Rattle.mips_select.proofs.Lists.{all_at}
use Rattle.mips_select.proofs.DataPlaces.{have_values, data_fits, data_ends}
use Rattle.mips_select.proofs.Linked.{functions_joined}

-- ---- what a program's blocks are

few_arguments : (functions : List RFunc) (globals blocks : ℕ) (x : RExit) → All (IsFunction functions globals) functions → IsExit functions blocks x
    → HasFewArguments x
few_arguments functions globals blocks x all ok =
    let few = λ (g : ℕ) (f : RFunc) (there : slice_get functions g ≡ Some f). (all_at (IsFunction functions globals) functions g f all there).parameters in
    grind (arith, few)

pub function_blocks_few : (p : Program) (functions : List RFunc) → IsProgram p → functions ≡ p.functions → (g : ℕ) (func : RFunc)
    → slice_get functions g ≡ Some func → length func.blocks.items ≤ MAX_BLOCKS
function_blocks_few p functions ok is g func there =
    let at = rw is at there in
    grind (arith, get_or-le-sum_by block_count p.functions g func (slice_get_within p.functions g func at), get_or_from_slice_get p.functions g func func at)

pub functions_emittable : (p : Program) (functions : List RFunc) (n : ℕ) → IsProgram p → functions ≡ p.functions → n ≡ length p.globals
    → AreFunctionsEmittable n functions
functions_emittable p functions n ok is n_is = rw (is, n_is) (record {
  by = λ g func there.
      let function = all_at (IsFunction p.functions (length p.globals)) p.functions g func ok.functions there in
      record {
        parameters = function.parameters;
        few = function_blocks_few p p.functions ok refl g func there;
        blocks = record {
          by = λ b block at.
              let x = all_at (IsBlock p.functions (length p.globals) (length func.blocks.items)) func.blocks.items b block function.blocks at in
              record { insts = x.insts; exit = few_arguments p.functions (length p.globals) (length func.blocks.items) block.exit ok.functions x.exit };
        };
      };
})

-- ---- the unit

-- a unit of so many blocks has as many pieces at least
pub many_pieces : (h : Homed) → ArePlaced h → 2 + functions_size (h.rtl.now).functions ≤ length (unit_for h).blocks
many_pieces h ok =
    let pieces = length-split_from BLOCK_INSTS (first_piece_of BLOCK_INSTS (program_blocks h)) 0 (program_blocks h) in
    let joined = functions_joined (linking_for h.rtl.now) 2 (h.rtl.now).functions h.frames.items ok.long in
    omega (arith, joined.2, total_above BLOCK_INSTS (program_blocks h), pieces)

-- a pass behind the homes that tells of a limit
pub told_beyond : {T : Type 0} {h : Homed} {p : Program} {fault : SelectFault} (depth : ℕ) (r : Result T SelectFault) → IsErrAnd r (λ e. e ≡ fault)
    → h.rtl.now ≡ p → ArePlaced h → (fault ≡ Limit → UNIT_BLOCKS < length (unit_for h).blocks) → IfErr r (λ e. e ≡ Limit → FramesFit p depth → IsBeyond p)
told_beyond {T} {h} {p} {fault} depth r told lent ok many =
    let q = err_from_is_err_and r told in
    rw (q.1, q.2) (λ e fit. record { homed = h; lent = lent; choices = ok; many = many e })

pub bytes_fit : (p : Program) (bytes : List ℕ) (globals : List RGlobal) → IsProgram p → globals ≡ p.globals → bytes ≡ data_bytes globals
    → length bytes ≤ UNIT_BYTES
bytes_fit p bytes globals ok g_is is =
    let ends = data_ends p.globals in
    let sum = ap length ends.2 ∙ length-append (data_bytes p.globals) (zeros ends.0) in
    omega (arith, data_fits p.globals (have_values p.globals ok.globals) ok.words_fit, ap length (is ∙ ap data_bytes g_is), sum)

-- blocks with their owners, as they are named elsewhere
pub owned_as : {long blocks : List BlockParts} {owner owners : List ℕ} → long ≡ blocks → owner ≡ owners → AreOwners blocks owners → AreOwners long owner
owned_as {long} {blocks} {owner} {owners} e f owned = subst (λ l. AreOwners l owner) (sym e) (subst (λ o. AreOwners blocks o) (sym f) owned)

-- a unit is put together of what a program has
pub unit_is : (h : Homed) {long : List BlockParts} {owner bytes : List ℕ} {globals : List RGlobal} → long ≡ program_blocks h
    → owner ≡ owners_for (h.rtl.now).functions → globals ≡ (h.rtl.now).globals → bytes ≡ data_bytes globals
    → unit_parts (split_blocks long) (split_owners long owner) bytes ≡ unit_for h
unit_is h {owner = owner} {bytes = bytes} blocks_are owners_are globals_are bytes_are =
    ap (λ l. unit_parts (split_blocks l) (split_owners l owner) bytes) blocks_are
    ∙ ap (λ o. unit_parts (split_blocks (program_blocks h)) (split_owners (program_blocks h) o) bytes) owners_are
    ∙ ap (λ b. unit_parts (split_blocks (program_blocks h)) (split_owners (program_blocks h) (owners_for (h.rtl.now).functions)) b)
    (bytes_are ∙ ap data_bytes globals_are)
