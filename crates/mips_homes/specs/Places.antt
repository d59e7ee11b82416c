-- Where pseudo-registers are put: at their homes, or, if they are local to blocks, in registers that no function keeps.
use Rattle.std.specs.Prelude.{◌≡◌, ℕ, suc, Bool, List, [], ◌∷◌, ◌++◌, Option, None, Some, not, if◌then◌else◌}
use Rattle.std.specs.List.{list_any, filter, find}
use Rattle.std.specs.Option.{option_map_or}
use Rattle.rtl.specs.Names.{optional}
use Rattle.rtl.specs.declared.block.RBlock.{RBlock}
use Rattle.rtl.specs.declared.block.RFunc.{RFunc}
use Rattle.mips_homes.specs.Choice.{IsChoice, HaveFrames}
use Rattle.mips_homes.specs.HomedRun.{is_in}
use Rattle.mips_homes.specs.Locals.{is_local}
use Rattle.mips_homes.specs.Preferences.{preference}
use Rattle.mips_homes.specs.Convention.{temporaries}
pub use Rattle.mips_homes.specs.Copies.{is_register, is_slot, lives_in}
use Rattle.mips_homes.specs.Copies.{copied}
use Rattle.mips_homes.specs.declared.homed.Home.{Home}
use Rattle.mips_homes.specs.declared.homed.Home.TheVariants.{Reg}
use Rattle.mips_homes.specs.declared.homed.Frame.{Frame}
use Rattle.mips_homes.specs.declared.homed.Homed.{Homed}

-- the first of these registers that isn't taken
abbrev pub first_free : (taken : List ℕ) → List ℕ → Option ℕ
first_free taken rs = find (λ r. not (is_in taken r)) rs

-- the register of its preferred register if that isn't taken, else the first free temporary
abbrev pub free_register : (taken : List ℕ) → (preference : Option ℕ) → Option ℕ
free_register taken preference = first_free taken (optional preference ++ temporaries)

abbrev pub home_or : Option ℕ → Home → Home
home_or register h = option_map_or Reg register h

abbrev pub also : List ℕ → Option ℕ → List ℕ
also taken None = taken
also taken (Some r) = taken ++ r ∷ []

-- the homes of the pseudo-registers from x on, where these registers are taken
abbrev pub places_from : (local : ℕ → Bool) → (preference : ℕ → Option ℕ) → (x : ℕ) → (taken : List ℕ) → List Home → List Home
places_from local preference x taken [] = []
places_from local preference x taken (h ∷ hs) =
    home_or (if local x then free_register taken (preference x) else None) h
    ∷ places_from local preference (suc x) (also taken (if local x then free_register taken (preference x) else None)) hs

-- the registers that are still homes
abbrev pub still_saved : List Home → List ℕ → List ℕ
still_saved hs rs = filter (lives_in hs) rs

-- whether one lives in a slot
abbrev pub some_slot : List Home → Bool
some_slot hs = list_any is_slot hs

-- the frame of a choice in a function with n parameters, with local pseudo-registers in registers that no function keeps, and with copies
pub record IsPlaced (n : ℕ) (bs : List RBlock) (c f : Frame) : Type 0 where
  pub homes : f.homes.items ≡ copied bs (places_from (is_local bs) (preference n bs) 0 [] c.homes.items)
  pub saved : f.saved.items ≡ still_saved f.homes.items c.saved.items
  pub slots : f.slots ≡ (if some_slot f.homes.items then c.slots else 0)

pub record IsPlacedFor (func : RFunc) (f : Frame) : Type 0 where
  pub choice : Frame
  pub is : IsChoice func choice
  pub placed : IsPlaced func.parameters func.blocks.items choice f

-- each function has its frame, and there are no others
abbrev pub ArePlaced : Homed → Type 0
ArePlaced h = HaveFrames IsPlacedFor h
