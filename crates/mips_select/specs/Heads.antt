-- What blocks begin with, from how the exits of their function name them.
use Rattle.std.specs.Prelude.{◌≡◌, ℕ, Bool, false, List, [], ◌∷◌, map, Option, Some, nat_eq, if◌then◌else◌, slice_get}
use Rattle.std.specs.Prelude.{slice_set, not, length, replicate}
use Rattle.std.specs.Option.{is_some}
use Rattle.std.specs.declared.alloc.Global.{Global}
use Rattle.std.specs.declared.vec.Vec.{Vec}
use Rattle.rtl.specs.declared.instruction.RExit.{RExit}
use Rattle.rtl.specs.declared.instruction.RExit.TheVariants.{Goto, Branch, Call, Return, Out}
use Rattle.rtl.specs.declared.block.RBlock.{RBlock}
use Rattle.rtl.specs.declared.block.RFunc.{RFunc}
pub use Rattle.mips_homes.specs.Copies.{calls_none, is_leaf}
use Rattle.mips_select.specs.declared.heads.Naming.{Naming}
use Rattle.mips_select.specs.declared.heads.Naming.TheVariants.{Unnamed, Called, Jumped}
use Rattle.mips_select.specs.declared.heads.Head.{Head}
use Rattle.mips_select.specs.declared.heads.Head.TheVariants.{Bare, Enters, Takes}

abbrev pub naming_with_call : Option ℕ → Option Naming → Naming
naming_with_call d (Some Unnamed) = Called d
naming_with_call d _ = Jumped

-- an exit names blocks
abbrev pub note : RExit → List Naming → List Naming
note (Goto b) l = slice_set l b Jumped
note (Branch c t e) l = slice_set (slice_set l t Jumped) e Jumped
note (Out x next) l = slice_set l next Jumped
note (Call g xs d next) l = slice_set l next (naming_with_call d (slice_get l next))
note (Return o) l = l

abbrev pub namings : List RBlock → List Naming → List Naming
namings [] l = l
namings (b ∷ bs) l = namings bs (note b.exit l)

abbrev pub unnamed : List RBlock → List Naming
unnamed bs = replicate (length bs) Unnamed

-- how the exits of a function name its blocks
abbrev pub namings_of : RFunc → List Naming
namings_of func = namings func.blocks.items (unnamed func.blocks.items)

-- tables of that, one for each function
abbrev pub AreNamed : List (Vec Naming Global) → List RFunc → Type 0
AreNamed tables funcs = map (λ (t : Vec Naming Global). t.items) tables ≡ map namings_of funcs

-- block 0 begins with the prologue if nothing names it, and a block that one call alone names with the store of its result
abbrev pub head_at : ℕ → Option Naming → Head
head_at b (Some Unnamed) = if nat_eq b 0 then Enters else Bare
head_at b (Some (Called (Some d))) = if nat_eq b 0 then Bare else Takes d
head_at b _ = Bare

abbrev pub heads_in : List Naming → ℕ → Head
heads_in l b = head_at b (slice_get l b)

abbrev pub heads_of : List RBlock → ℕ → Head
heads_of bs = heads_in (namings bs (unnamed bs))

-- a call goes on at the block itself
abbrev pub resumes : Option ℕ → Head → Bool
resumes d Bare = not (is_some d)
resumes d Enters = false
resumes d (Takes e) = is_some d

-- how many blocks stand for a block that is left so
abbrev pub count : (ℕ → Head) → RExit → ℕ
count heads (Call g xs d next) = if resumes d (heads next) then 1 else 2
count heads _ = 1

abbrev pub lead_of : Head → ℕ
lead_of Enters = 0
lead_of _ = 1

-- how many blocks stand before those of the blocks of a function
abbrev pub lead_in : (ℕ → Head) → ℕ
lead_in heads = lead_of (heads 0)
