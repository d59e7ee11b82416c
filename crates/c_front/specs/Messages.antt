-- What faults print: their numbers, names and places.
use Rattle.std.specs.Prelude.{ℕ, List, codes}
use Rattle.c_tree.specs.Texts.{placed_fault_text}
use Rattle.c_front.specs.declared.fault.FrontFault.{FrontFault}
use Rattle.c_front.specs.declared.fault.FrontFaultKind.{FrontFaultKind}
use Rattle.c_front.specs.declared.fault.FrontFaultKind.TheVariants.{Byte, Token, Syntax, Constant, Size, NoMemory}

-- the number and the name that messages show
abbrev pub number_and_name_of : FrontFaultKind → ℕ × List ℕ
number_and_name_of Byte = (1, codes "Byte")
number_and_name_of Token = (2, codes "Token")
number_and_name_of Syntax = (3, codes "Syntax")
number_and_name_of Constant = (4, codes "Constant")
number_and_name_of Size = (5, codes "Size")
number_and_name_of NoMemory = (30, codes "NoMemory")

abbrev pub number_of : FrontFaultKind → ℕ
number_of kind = (number_and_name_of kind).0

abbrev pub kind_name : FrontFaultKind → List ℕ
kind_name kind = (number_and_name_of kind).1

abbrev pub fault_text : FrontFault → List ℕ
fault_text fault = placed_fault_text (number_of fault.kind) (kind_name fault.kind) fault.at
