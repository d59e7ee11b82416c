-- Uses of a name: the one fault that each has.
use Rattle.std.proofs.Common.{◌≡◌, ◌≤◌, ℕ, Option, Some, None, Result, Err, inr, refl, sym, subst, arith}
use Rattle.c_tokens.specs.declared.token.Identifier.{Identifier}
use Rattle.c_tokens.specs.declared.token.IntegerType.{IntegerType}
use Rattle.c_statements.specs.declared.names.Named.{Named}
use Rattle.c_statements.specs.declared.names.Named.TheVariants.{Local, Global, Array, Function, Out}
use Rattle.c_statements.specs.declared.fault.TypeFaultKind.{TypeFaultKind}
use Rattle.c_statements.specs.declared.fault.TypeFaultKind.TheVariants.{Undeclared, Kind as KindFault}
use Rattle.c_statements.specs.declared.fault.TypeStop.{TypeStop}
use Rattle.c_statements.specs.declared.fault.TypeStop.TheVariants.{Fault}
use Rattle.c_statements.specs.Faults.{number_of, Faults, IsFirstFault, StopsAtFirst, Answers}
use Rattle.c_statements.specs.Names.{Environment}
use Rattle.c_statements.specs.Uses.{Use, as_value, with_index, IsWrong, Misused, not_declared, array_alone, function_alone, out_alone}
use Rattle.c_statements.specs.Uses.{local_indexed, global_indexed, function_indexed, out_indexed}

-- the answer that tells of the first fault
pub told-first : {A : Type 0} (IsRight : A → Type 0) (faults : Faults) (s : TypeStop) (k : TypeFaultKind) (at : ℕ)
    → s ≡ Fault (record { kind = k; at = at }) → IsFirstFault faults k at → Answers IsRight faults (Err s)
told-first IsRight faults s k at e h = record { ok = tt; none = tt; err = subst (StopsAtFirst faults) (sym e) h }

-- a use whose faults have no lesser number
pub first-misuse : (scope : Environment) (x : Identifier) (u : Use) (k : TypeFaultKind) → IsWrong (scope x) u k
    → ((j : TypeFaultKind) → IsWrong (scope x) u j → number_of k ≤ number_of j) → IsFirstFault (Misused scope x u) k x.at
first-misuse scope x u k w l = record { has = (w, refl); first = λ j n m. inr (sym m.1, l j m.0) }

least : (m : Option Named) (u : Use) (j : TypeFaultKind) → IsWrong m u j → 10 ≤ number_of j
least m u Undeclared w = omega arith
least m u _ w = omega arith

-- what is told where nothing declares the name
pub undeclared-told : {A : Type 0} (IsRight : A → Type 0) (scope : Environment) (x : Identifier) (u : Use) (r : Result A TypeStop) (s : TypeStop)
    → r ≡ Err s → (scope x ≡ None) × (s ≡ Fault (record { kind = Undeclared; at = x.at })) → Answers IsRight (Misused scope x u) r
undeclared-told IsRight scope x u r s e (h, k) =
    rw e (told-first IsRight (Misused scope x u) s Undeclared x.at k (first-misuse scope x u Undeclared (rw h not_declared) (λ j w. least (scope x) u j w)))

index-least : (m : Named) (j : TypeFaultKind) → IsWrong (Some m) with_index j → 12 ≤ number_of j
index-least m j local_indexed = omega arith
index-least m j _ = omega arith

value-least : (m : Named) (j : TypeFaultKind) → IsWrong (Some m) as_value j → 12 ≤ number_of j
value-least m j array_alone = omega arith
value-least m j _ = omega arith

index-wrong : (m : Named) → ((n : ℕ) (k : IntegerType) → m ≡ Array n k → ⊥) → IsWrong (Some m) with_index KindFault
index-wrong (Local n k) h = local_indexed
index-wrong (Global n k) h = global_indexed
index-wrong (Array n k) h = absurd (h n k refl)
index-wrong (Function f n r) h = function_indexed
index-wrong Out h = out_indexed

value-wrong : (m : Named) → ((n : ℕ) (k : IntegerType) → m ≡ Local n k → ⊥) → ((n : ℕ) (k : IntegerType) → m ≡ Global n k → ⊥)
    → IsWrong (Some m) as_value KindFault
value-wrong (Local n k) h l = absurd (h n k refl)
value-wrong (Global n k) h l = absurd (l n k refl)
value-wrong (Array n k) h l = array_alone
value-wrong (Function f n r) h l = function_alone
value-wrong Out h l = out_alone

pub index-first : (scope : Environment) (x : Identifier) (m : Named) → scope x ≡ Some m → ((n : ℕ) (k : IntegerType) → m ≡ Array n k → ⊥)
    → IsFirstFault (Misused scope x with_index) KindFault x.at
index-first scope x m e h = first-misuse scope x with_index KindFault (rw e (index-wrong m h)) (λ j w. index-least m j (rw e at w))

pub value-first : (scope : Environment) (x : Identifier) (m : Named) → scope x ≡ Some m → ((n : ℕ) (k : IntegerType) → m ≡ Local n k → ⊥)
    → ((n : ℕ) (k : IntegerType) → m ≡ Global n k → ⊥) → IsFirstFault (Misused scope x as_value) KindFault x.at
value-first scope x m e h l = first-misuse scope x as_value KindFault (rw e (value-wrong m h l)) (λ j w. value-least m j (rw e at w))
