-- Faults: their numbers, names and text, and which of them is the first.
use Rattle.std.specs.Prelude.{◌≡◌, ◌<◌, ◌≤◌, ◌⊎◌, ℕ, Bool, nat_lt, nat_eq, ◌&&◌, ◌||◌, if◌then◌else◌, Result, Ok, Err, IfOk, IfErr, List}
use Rattle.std.specs.Prelude.{length, codes}
use Rattle.c_tree.specs.Texts.{placed_fault_text}
use Rattle.c_statements.specs.declared.fault.TypeFaultKind.{TypeFaultKind}
use Rattle.c_statements.specs.declared.fault.TypeFaultKind.TheVariants.{Undeclared, Redeclared, Kind, Count, NoMain, Outside, Limit}
use Rattle.c_statements.specs.declared.fault.TypeFaultKind.TheVariants.{NoMemory as WantOfMemory}
use Rattle.c_statements.specs.declared.fault.TypeFault.{TypeFault}
use Rattle.c_statements.specs.declared.fault.TypeStop.{TypeStop}
use Rattle.c_statements.specs.declared.fault.TypeStop.TheVariants.{Fault, NoMemory}

-- the number and the name that messages show
abbrev pub number_and_name_of : TypeFaultKind → ℕ × List ℕ
number_and_name_of Undeclared = (10, codes "Undeclared")
number_and_name_of Redeclared = (11, codes "Redeclared")
number_and_name_of Kind = (12, codes "Kind")
number_and_name_of Count = (13, codes "Count")
number_and_name_of NoMain = (15, codes "NoMain")
number_and_name_of Outside = (17, codes "Outside")
number_and_name_of Limit = (20, codes "Limit")
number_and_name_of WantOfMemory = (30, codes "NoMemory")

abbrev pub number_of : TypeFaultKind → ℕ
number_of kind = (number_and_name_of kind).0

abbrev pub kind_name : TypeFaultKind → List ℕ
kind_name kind = (number_and_name_of kind).1

-- what a fault prints
abbrev pub fault_text : TypeFault → List ℕ
fault_text fault = placed_fault_text (number_of fault.kind) (kind_name fault.kind) fault.at

-- a set of faults: which kinds stand at which offsets
abbrev pub Faults : Type 1
Faults = TypeFaultKind → ℕ → Type 0

-- the first fault comes no later than the second: a lesser offset, or the same with no greater number
abbrev pub IsNoLater : TypeFaultKind → ℕ → TypeFaultKind → ℕ → Type 0
IsNoLater k at j n = (at < n) ⊎ ((at ≡ n) × (number_of k ≤ number_of j))

-- a fault of the set that comes no later than any of it
pub record IsFirstFault (faults : Faults) (k : TypeFaultKind) (at : ℕ) : Type 0 where
  pub has : faults k at
  pub first : (j : TypeFaultKind) (n : ℕ) → faults j n → IsNoLater k at j n

-- why a part with these faults gets no type
abbrev pub StopsAtFirst : Faults → TypeStop → Type 0
StopsAtFirst faults (Fault f) = IsFirstFault faults f.kind f.at
StopsAtFirst faults NoMemory = Unit {0}

abbrev pub HasNone : Faults → Type 0
HasNone faults = (k : TypeFaultKind) (at : ℕ) → faults k at → ⊥

-- what is told of a part with these faults: an answer, of which something is known, where it has none, else the first of them
pub record Answers {A : Type 0} (IsRight : A → Type 0) (faults : Faults) (r : Result A TypeStop) : Type 0 where
  pub ok : IfOk r IsRight
  pub none : IfOk r (λ x. HasNone faults)
  pub err : IfErr r (StopsAtFirst faults)

abbrev pub is_later : TypeFault → TypeFault → Bool
is_later a b = nat_lt b.at a.at || (nat_eq a.at b.at && nat_lt (number_of b.kind) (number_of a.kind))

-- the stop that comes first; lack of memory comes before all faults
abbrev pub first_of : TypeStop → TypeStop → TypeStop
first_of (Fault a) (Fault b) = if is_later a b then Fault b else Fault a
first_of _ _ = NoMemory

-- two parts together: both answers, or the stop that comes first
abbrev pub both_of : {A B : Type 0} → Result A TypeStop → Result B TypeStop → Result (A × B) TypeStop
both_of (Ok x) (Ok y) = Ok (x, y)
both_of (Ok x) (Err b) = Err b
both_of (Err a) (Ok y) = Err a
both_of (Err a) (Err b) = Err (first_of a b)

-- the fault that is told of a text: the first of the set, or lack of memory at the text's length
abbrev pub IsTypeFault : List ℕ → Faults → TypeFault → Type 0
IsTypeFault text faults f = ((f.kind ≡ WantOfMemory) × (f.at ≡ length text)) ⊎ IsFirstFault faults f.kind f.at
