-- Blocks, their code and their pieces that are being made.
use Rattle.std.proofs.Common.{◌≡◌, ℕ, ◌+◌, ◌<◌, List, [], ◌∷◌, ◌++◌, drop, get_or, length, length-append, sym, ap, ◌∙◌, arith, zero, suc, ◌-◌}
use Rattle.std.proofs.Common.{◌/◌, take}
use Rattle.std.proofs.lemmas.List.{append_assoc, length-map, get_or-map, append-nil}
use Rattle.std.specs.declared.alloc.Global.{Global}
use Rattle.std.specs.declared.vec.Vec.{Vec}
use Rattle.mblock.specs.Parts.{BlockParts}
use Rattle.rtl.specs.declared.block.RFunc.{RFunc}
use Rattle.mips_homes.specs.declared.homed.Frame.{Frame}
use Rattle.mips_select.specs.declared.heads.Naming.{Naming}
use Rattle.mips_select.specs.Heads.{namings_of, AreNamed, count}
use Rattle.mips_select.specs.Plans.{Linking}
use Rattle.mips_select.specs.Whole.{function_blocks, function_size, functions_size, functions_blocks}
use Rattle.mips_select.proofs.Places.{length-pieces}
use Rattle.mips_select.proofs.Lists.{drop_item, made_more}
use Rattle.mips_select.proofs.Linked.{function_length}
use Rattle.mips_emit.specs.Locations.{Locations}
use Rattle.mips_emit.specs.Code.{arrive}
use Rattle.mips_select.specs.Code.{parameters_code}
use Rattle.mips_isa.specs.declared.inst.Plain.{Plain}
use Rattle.mblock.specs.declared.exit.Exit.{Exit}
use Rattle.mblock.specs.declared.exit.Exit.TheVariants.{Goto}
use Rattle.mips_select.specs.Split.{renumbered_exit, more_pieces, piece, pieces, count_of, total, split_from}

-- there is a table for each function
pub named_long : (tables : List (Vec Naming Global)) (funcs : List RFunc) → AreNamed tables funcs → length tables ≡ length funcs
named_long tables funcs named = sym (length-map tables (λ (t : Vec Naming Global). t.items)) ∙ ap length named ∙ length-map funcs namings_of

-- the table of a function, by what a loop reads of the two lists
pub named_here : (tables : List (Vec Naming Global)) (funcs : List RFunc) (i : ℕ) (func : RFunc) (table : Vec Naming Global) → AreNamed tables funcs
    → i < length funcs → func ≡ get_or funcs i func → table ≡ get_or tables i table → table.items ≡ namings_of func
named_here tables funcs i func table named lt func_is table_is =
    let at = get_or-map (λ (t : Vec Naming Global). t.items) tables i table [] (omega (arith, named_long tables funcs named, lt)) in
    grind (arith, at, ap (λ l. get_or l i []) named, get_or-map namings_of funcs i func [] lt)

-- one more function
pub functions_step : (l : Linking) (i : ℕ) {total : ℕ} (funcs : List RFunc) (fs : List Frame) (func : RFunc) (f : Frame)
    (out : List BlockParts) {out' all : List BlockParts} {k : ℕ} → i < length funcs → length fs ≡ length funcs → func ≡ get_or funcs i func
    → f ≡ get_or fs i f → k ≡ length out
    → out' ≡ out ++ function_blocks l k func f
    → (length out + functions_size (drop i funcs) ≡ total) × (out ++ functions_blocks l (length out) (drop i funcs) (drop i fs) ≡ all)
    → (length out' + functions_size (drop (i + 1) funcs) ≡ total) × (out' ++ functions_blocks l (length out') (drop (i + 1) funcs)
    (drop (i + 1) fs) ≡ all)
functions_step l i funcs fs func f out {out'} within same func_is f_is k_is e before =
    let long : length out' ≡ length out + function_size func = cc
    (length-append out (function_blocks l (length out) func f), function_length l (length out) func f) in (
      omega (arith, long, drop_item functions_size funcs i within func_is, before.0),
      rw (long, e, k_is) (made_more (λ gs. functions_blocks l (length out) gs (drop i fs)) funcs i _ _ _ within func_is
          (drop_item (functions_blocks l (length out) (func ∷ drop (i + 1) funcs)) fs i (omega (arith, within, same)) f_is) before.1),
    )

-- one more parameter
pub parameters_more : (at : Locations) (t x n y u : ℕ) → y ≡ x + n → u ≡ t + n
    → parameters_code at t x (suc n) ≡ parameters_code at t x n ++ arrive (at y) u
parameters_more at t x zero y u y_is u_is = grind (arith, append-nil (arrive (at x) t))
parameters_more at t x (suc n) y u y_is u_is =
    rw (parameters_more at (suc t) (suc x) n y u (omega (arith, y_is)) (omega (arith, u_is))) (simp append_assoc)

-- ---- pieces

-- one more piece of a block
pub piece_step : (exit : Exit) (out out' all : List BlockParts) (insts front back : List Plain) (next : ℕ) → 512 < length insts
    → length back + 512 ≡ length insts → front ≡ take 512 insts → back ≡ drop 512 insts → next ≡ length out + 1
    → out' ≡ out ++ piece front (Goto next) ∷ [] → length out + (length insts - 1) / 512 < 1048576
    → out ++ pieces 512 exit ((length insts - 1) / 512) (length out) insts ≡ all
    → (length out' + (length back - 1) / 512 < 1048576) × (out' ++ pieces 512 exit ((length back - 1) / 512) (length out') back ≡ all)
piece_step exit out out' all insts front back next many long front_is back_is next_is made few before =
    let more = (length back - 1) / 512 in
    let own = piece front (Goto next) ∷ [] in
    let count : (length insts - 1) / 512 ≡ suc more = omega (arith, many, long) in
    grind (arith, length-append out own, append_assoc out own (pieces 512 exit more (length out') back))

-- one more block, of those that are left
pub block_step : (place : ℕ → ℕ) (b : BlockParts) (bs bs' out out' all : List BlockParts) (count : ℕ) (exit old : Exit) → bs ≡ b ∷ bs'
    → exit ≡ renumbered_exit place old → old ≡ b.exit → out' ≡ out ++ pieces 512 exit (more_pieces 512 b) (length out) b.insts
    → length out + total 512 bs ≡ count → out ++ split_from 512 place (length out) bs ≡ all
    → (length out' + total 512 bs' ≡ count) × (out' ++ split_from 512 place (length out') bs' ≡ all)
block_step place b bs bs' out out' all count exit old left exit_is old_is made counted before =
    let own = pieces 512 (renumbered_exit place b.exit) (more_pieces 512 b) (length out) b.insts in
    let long = length-pieces 512 (renumbered_exit place b.exit) (more_pieces 512 b) (length out) b.insts in
    grind (arith, length-append out own, long, append_assoc out own (split_from 512 place (length out + count_of 512 b) bs'))
