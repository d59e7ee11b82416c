-- Laws of the definitions.
use Rattle.std.specs.Prelude.{◌≡◌, ℕ, Bool, true, false, not, ◌||◌, Some}
use Rattle.words.specs.declared.width.Width.{Width}
use Rattle.mips_isa.specs.declared.action.Action.{Action}
use Rattle.mips_isa.specs.declared.rule.Rule.{Rule}
use Rattle.mips_isa.specs.declared.rule.Rule.TheVariants.{M4, M5, M6}
use Rattle.mips_isa.specs.declared.memory_map.TheConstants.{CODE_BASE, DATA_BASE, STACK_BASE, STACK_END}
use Rattle.mips_isa.specs.MemoryMap.{code_base, data_base, stack_base, stack_end}
use Rattle.mips_isa.specs.States.{AreApart, load_at, store_at}
use Rattle.mips_isa.specs.Actions.{is_safe, touches, reads, writes}
use Rattle.mips_isa.specs.Flows.{Flow}
use Rattle.mips_isa.specs.Rules.{action_breaks, action_rule_of, is_stuck, IsLeastRule}

-- a safe action is one that breaks no rule on divisions and addresses
abbrev pub SafeActionsKeepTheirRules : Type 0
SafeActionsKeepTheirRules = (a : Action) (f : Flow)
    → is_safe a f.state ≡ not (action_breaks M4 a f || (action_breaks M5 a f || action_breaks M6 a f))

-- an action is stuck exactly where it breaks some rule
pub record StuckActionsBreakARule : Type 0 where
  pub some : (a : Action) (f : Flow) → is_stuck a f ≡ true → (r : Rule) × (action_breaks r a f ≡ true)
  pub none : (a : Action) (f : Flow) → is_stuck a f ≡ false → (r : Rule) → action_breaks r a f ≡ false

-- a stuck action has broken a rule, and no lesser one
abbrev pub EachBrokenRuleIsLeast : Type 0
EachBrokenRuleIsLeast = (a : Action) (f : Flow) (r : Rule) → action_rule_of a f ≡ Some r → IsLeastRule (λ q. action_breaks q a f) r

abbrev pub ReadsAndWritesAreTouched : Type 0
ReadsAndWritesAreTouched = (a : Action) (r : ℕ) → touches a r ≡ (writes a r || reads a r)

-- a load passes a store of either width that shares no byte with it
abbrev pub LoadsPassStores : Type 0
LoadsPassStores = (w v : Width) (mapped : ℕ → Bool) (memory : ℕ → ℕ) (a word b : ℕ) → AreApart w a v b
    → load_at v mapped (store_at w mapped memory a word) b ≡ load_at v mapped memory b

-- two stores of either width that share no byte may be exchanged
abbrev pub StoresCommute : Type 0
StoresCommute = (w v : Width) (mapped : ℕ → Bool) (memory : ℕ → ℕ) (a first b second : ℕ) → AreApart w a v b
    → store_at v mapped (store_at w mapped memory a first) b second ≡ store_at w mapped (store_at v mapped memory b second) a first

-- the constants of src/memory_map.rt are the addresses of the memory map
abbrev pub AddressesAreTheMemoryMap : Type 0
AddressesAreTheMemoryMap =
    (CODE_BASE ≡ code_base) × (DATA_BASE ≡ data_base) × (STACK_BASE ≡ stack_base) × (STACK_END ≡ stack_end)
