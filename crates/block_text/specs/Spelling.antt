-- Instructions and exits as lines.
use Rattle.std.specs.List.{flat_map}
use Rattle.std.specs.Prelude.{◌≡◌, ℕ, Option, Some, None, List, [], ◌++◌, ◌⊎◌, codes, decimal}
use Rattle.mips_isa.specs.declared.inst.Plain.{Plain}
use Rattle.mips_isa.specs.declared.inst.PairTest.TheVariants.{Equal, NotEqual}
use Rattle.mips_isa.specs.declared.inst.ZeroTest.TheVariants.{AtMostZero, AboveZero, BelowZero, AtLeastZero}
use Rattle.mips_isa.specs.declared.text.Mnemonic.{Mnemonic}
use Rattle.mips_isa.specs.Actions.{nop}
use Rattle.mips_isa.specs.Ranges.{IsPlain}
use Rattle.mips_isa.specs.Texts.{register_text, mnemonic_of, instruction_text, operands_text, plain_text}
use Rattle.mblock.specs.declared.exit.Exit.{Exit}
use Rattle.mblock.specs.declared.exit.Exit.TheVariants.{Goto, BranchPair, BranchZero, Call, Return, Out, Halt}
use Rattle.mblock.specs.Ranges.{IsExit}
use Rattle.mblock.specs.Parts.{OrderParts}
use Rattle.block_text.specs.declared.names.ExitName.{ExitName}
use Rattle.block_text.specs.declared.names.ExitName.TheVariants as names

-- the line is the instruction's text, or `nop` for the word 0
abbrev pub SpellsPlain : List ℕ → Plain → Type 0
SpellsPlain line i = IsPlain i × (((line ≡ codes "nop") × (i ≡ nop)) ⊎ (line ≡ plain_text i))

-- what follows the mnemonic spells the operands
abbrev pub HasOperands : Mnemonic → List ℕ → Plain → Type 0
HasOperands name text i = IsPlain i × (mnemonic_of i ≡ name) × (text ≡ operands_text i)

abbrev pub exit_name_text : ExitName → List ℕ
exit_name_text names.Goto = codes "goto"
exit_name_text (names.BranchPair Equal) = codes "beq"
exit_name_text (names.BranchPair NotEqual) = codes "bne"
exit_name_text (names.BranchZero AtMostZero) = codes "blez"
exit_name_text (names.BranchZero AboveZero) = codes "bgtz"
exit_name_text (names.BranchZero BelowZero) = codes "bltz"
exit_name_text (names.BranchZero AtLeastZero) = codes "bgez"
exit_name_text names.Call = codes "call"
exit_name_text names.Out = codes "out"

-- `return` and `halt` name no block, and stand alone
abbrev pub name_of_exit : Exit → Option ExitName
name_of_exit (Goto t) = Some names.Goto
name_of_exit (BranchPair test rs rt then other) = Some (names.BranchPair test)
name_of_exit (BranchZero test rs then other) = Some (names.BranchZero test)
name_of_exit (Call function next) = Some names.Call
name_of_exit Return = None
name_of_exit (Out next) = Some names.Out
name_of_exit Halt = None

-- what follows the name, or the whole line
abbrev pub targets_text : Exit → List ℕ
targets_text (Goto t) = decimal t
targets_text (BranchPair test rs rt then other) =
    register_text rs ++ (codes "," ++ (register_text rt ++ (codes "," ++ (decimal then ++ (codes "," ++ decimal other)))))
targets_text (BranchZero test rs then other) = register_text rs ++ (codes "," ++ (decimal then ++ (codes "," ++ decimal other)))
targets_text (Call function next) = decimal function ++ (codes "," ++ decimal next)
targets_text Return = codes "return"
targets_text (Out next) = decimal next
targets_text Halt = codes "halt"

abbrev pub named_text : Option ExitName → List ℕ → List ℕ
named_text None text = text
named_text (Some name) text = exit_name_text name ++ (codes " " ++ text)

abbrev pub exit_text : Exit → List ℕ
exit_text e = named_text (name_of_exit e) (targets_text e)

-- instructions as lines, each after a margin and before an end
abbrev pub insts_text : (margin end : List ℕ) → List Plain → List ℕ
insts_text margin end insts = flat_map (λ i. margin ++ (instruction_text i ++ end)) insts

-- an order as lines: its instructions, its exit, and its slot
abbrev pub slot_text : (margin end : List ℕ) → Option Plain → List ℕ
slot_text margin end None = []
slot_text margin end (Some i) = margin ++ (codes "slot " ++ (instruction_text i ++ end))

abbrev pub order_text : (margin end : List ℕ) → OrderParts → List ℕ
order_text margin end o = insts_text margin end o.insts ++ (margin ++ (exit_text o.exit ++ (end ++ slot_text margin end o.slot)))

abbrev pub SpellsExit : List ℕ → Exit → Type 0
SpellsExit line e = IsExit e × (line ≡ exit_text e)

-- what follows the name spells the targets
abbrev pub HasTargets : ExitName → List ℕ → Exit → Type 0
HasTargets name text e = IsExit e × (name_of_exit e ≡ Some name) × (text ≡ targets_text e)
