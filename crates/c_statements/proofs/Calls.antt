-- Calls: which of their faults is the least.
use Rattle.std.proofs.Common.{◌≡◌, ◌≢◌, ◌≤◌, ℕ, Option, Some, Bool, true, false, arith}
use Rattle.c_tokens.specs.declared.token.Identifier.{Identifier}
use Rattle.c_statements.specs.declared.names.Named.{Named}
use Rattle.c_statements.specs.declared.names.Named.TheVariants.{Local, Global, Array}
use Rattle.c_statements.specs.declared.call.Target.{Target}
use Rattle.c_statements.specs.declared.fault.TypeFaultKind.{TypeFaultKind}
use Rattle.c_statements.specs.declared.fault.TypeFaultKind.TheVariants.{Kind as KindFault, Count}
use Rattle.c_statements.specs.Calls.{IsTarget, function_target, out_target, Signs, function_signs, out_signs, IsNoFunction}
use Rattle.c_statements.specs.Faults.{number_of, IsFirstFault, HasNone}
use Rattle.c_statements.specs.Names.{Environment}
use Rattle.c_statements.specs.Uses.{as_call, IsWrong, Misused, local_called, global_called, array_called, void_used, out_used}
use Rattle.c_statements.specs.Uses.{other_count, other_count_out}
use Rattle.c_statements.proofs.Uses.{first-misuse}

-- the result is used only where there is one
abbrev pub Serves : Bool → Bool → Type 0
Serves true false = ⊥
Serves true true = Unit {0}
Serves false r = Unit {0}

no-function : (m : Named) (c : ℕ) (w : Bool) → IsNoFunction m → IsWrong (Some m) (as_call c w) KindFault
no-function (Local n k) c w h = local_called
no-function (Global n k) c w h = global_called
no-function (Array n k) c w h = array_called
no-function _ c w h = absurd h

void-wrong : (m : Named) (t : Target) (n : ℕ) (r : Bool) (c : ℕ) → Signs m t n r → r ≡ false → IsWrong (Some m) (as_call c true) KindFault
void-wrong m t n r c function_signs e = rw e void_used
void-wrong m t n r c out_signs e = out_used

count-wrong : (m : Named) (t : Target) (n : ℕ) (r : Bool) (c : ℕ) (w : Bool) → Signs m t n r → c ≢ n → IsWrong (Some m) (as_call c w) Count
count-wrong m t n r c w function_signs h = other_count h
count-wrong m t n r c w out_signs h = other_count_out h

call-least : (m : Named) (c : ℕ) (w : Bool) (j : TypeFaultKind) → IsWrong (Some m) (as_call c w) j → 12 ≤ number_of j
call-least m c w j local_called = omega arith
call-least m c w j _ = omega arith

count-least : (m : Named) (t : Target) (n : ℕ) (r : Bool) (c : ℕ) (w : Bool) (j : TypeFaultKind) → Signs m t n r → Serves w r
    → IsWrong (Some m) (as_call c w) j → 13 ≤ number_of j
count-least m t n r c w j function_signs s void_used = absurd s
count-least m t n r c w j function_signs s (other_count h) = omega arith
count-least m t n r c w j out_signs s out_used = absurd s
count-least m t n r c w j out_signs s (other_count_out h) = omega arith

right : (m : Named) (t : Target) (n : ℕ) (r : Bool) (c : ℕ) (w : Bool) (j : TypeFaultKind) → Signs m t n r → Serves w r → c ≡ n
    → IsWrong (Some m) (as_call c w) j → ⊥
right m t n r c w j function_signs s e void_used = s
right m t n r c w j function_signs s e (other_count h) = h e
right m t n r c w j out_signs s e out_used = s
right m t n r c w j out_signs s e (other_count_out h) = h e

pub no-function-first : (scope : Environment) (x : Identifier) (m : Named) (c : ℕ) (w : Bool) → scope x ≡ Some m → IsNoFunction m
    → IsFirstFault (Misused scope x (as_call c w)) KindFault x.at
no-function-first scope x m c w e h = first-misuse scope x (as_call c w) KindFault (rw e (no-function m c w h)) (λ j v. call-least m c w j (rw e at v))

pub void-first : (scope : Environment) (x : Identifier) (m : Named) (t : Target) (n : ℕ) (r : Bool) (c : ℕ) (w : Bool) → scope x ≡ Some m
    → Signs m t n r → w ≡ true → r ≡ false → IsFirstFault (Misused scope x (as_call c w)) KindFault x.at
void-first scope x m t n r c w e h i f =
    first-misuse scope x (as_call c w) KindFault (rw (e, i) (void-wrong m t n r c h f)) (λ j v. call-least m c w j (rw e at v))

pub count-first : (scope : Environment) (x : Identifier) (m : Named) (t : Target) (n : ℕ) (r : Bool) (c : ℕ) (w : Bool) → scope x ≡ Some m
    → Signs m t n r → Serves w r → c ≢ n → IsFirstFault (Misused scope x (as_call c w)) Count x.at
count-first scope x m t n r c w e h s i =
    first-misuse scope x (as_call c w) Count (rw e (count-wrong m t n r c w h i)) (λ j v. count-least m t n r c w j h s (rw e at v))

pub call-right : (scope : Environment) (x : Identifier) (m : Named) (t : Target) (n : ℕ) (r : Bool) (c : ℕ) (w : Bool) → scope x ≡ Some m
    → Signs m t n r → Serves w r → c ≡ n → HasNone (Misused scope x (as_call c w))
call-right scope x m t n r c w e h s i k at v = right m t n r c w k h s i (rw e at v.0)

pub target-is : (y : Option Named) (m : Named) (t : Target) (n : ℕ) (r : Bool) → y ≡ Some m → Signs m t n r → IsTarget y t
target-is y m t n r e function_signs = rw e function_target
target-is y m t n r e out_signs = rw e out_target

pub serves-result : (w r : Bool) → r ≡ true → Serves w r
serves-result true true e = tt
serves-result true false e = cc
serves-result false r e = tt

pub serves-unwanted : (w r : Bool) → w ≡ false → Serves w r
serves-unwanted true r e = cc
serves-unwanted false r e = tt
