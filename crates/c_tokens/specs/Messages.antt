-- What refusals print.
use Rattle.std.specs.Prelude.{ℕ, List, ◌++◌, codes, decimal}
use Rattle.c_tokens.specs.declared.fault.LexFault.{LexFault}
use Rattle.c_tokens.specs.declared.fault.LexFault.TheVariants.{Refused, NoMemory}
use Rattle.c_tokens.specs.declared.fault.Refusal.{Refusal}
use Rattle.c_tokens.specs.declared.fault.Refusal.TheVariants.{BadToken, BadConstant, BadSize}

abbrev pub refusal_text : Refusal → List ℕ
refusal_text BadToken = codes "no token"
refusal_text BadConstant = codes "no constant"
refusal_text BadSize = codes "beyond a size"

abbrev pub fault_text : LexFault → List ℕ
fault_text (Refused why at) = refusal_text why ++ codes " at " ++ decimal at
fault_text NoMemory = codes "no memory"
