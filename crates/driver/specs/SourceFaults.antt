-- Whether a C text spells a program without faults, or why not.
use Rattle.std.specs.Prelude.{ℕ, List}
use Rattle.c_tree.specs.Tree.{Declaration}
use Rattle.c_front.specs.Texts.{SpellsText, IsTextFault}
use Rattle.c_typed.specs.Trees.{TypedProgram}
use Rattle.c_statements.specs.Faults.{IsTypeFault}
use Rattle.c_types.specs.Programs.{FaultyProgram}
use Rattle.c_types.specs.Typed.{SpellsTyped}
use Rattle.messages.specs.declared.fault.SourceFault.{SourceFault}
use Rattle.messages.specs.declared.fault.SourceFault.TheVariants.{Front, Types}

-- the text spells a program without faults
abbrev pub IsFaultless : List ℕ → Type 0
IsFaultless text = (program : TypedProgram) × SpellsTyped text program

-- the text's own fault, or one of the program that it spells
abbrev pub IsSourceFault : List ℕ → SourceFault → Type 0
IsSourceFault text (Front f) = IsTextFault text f.kind f.at
IsSourceFault text (Types f) = (all : List Declaration) × SpellsText text all × IsTypeFault text (FaultyProgram text all) f
