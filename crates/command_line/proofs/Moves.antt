-- An error and a subcommand along equations.
use Rattle.std.proofs.Common.{◌≡◌, Result, Ok, Err, IfErr, List, true, subst, sym}
use Rattle.clap.specs.declared.error.Error.{Error}
use Rattle.clap.specs.Words.{App, FailsBy, Text, fault_of, is_simple_and_free, kind_of, takes}
use Rattle.clap.specs.declared.error.ErrorKind.{ErrorKind}
use Rattle.clap.specs.declared.error.ErrorKind.TheVariants.{OutOfMemory}

-- what an error says of a command, along the command's shape
pub refused_moves : (a b : App) (ws : List Text) (k : ErrorKind) → a ≡ b → (takes a ws ≡ true → k ≡ OutOfMemory) → takes b ws ≡ true → k ≡ OutOfMemory
refused_moves a b ws k e h t = h (subst (λ (x : App). takes x ws ≡ true) (sym e) t)

-- the same of a result
pub refused_of : {T : Type 0} (a b : App) (ws : List Text) (r : Result T Error) → a ≡ b
    → IfErr r (λ e. takes a ws ≡ true → kind_of e ≡ OutOfMemory) → IfErr r (λ e. takes b ws ≡ true → kind_of e ≡ OutOfMemory)
refused_of a b ws (Ok v) same h = h
refused_of a b ws (Err e) same h = refused_moves a b ws (kind_of e) same h

-- the kinds of error that a command has, along its shape
pub kinds_of : {T : Type 0} (a b : App) (ws : List Text) (r : Result T Error) → a ≡ b → is_simple_and_free b ≡ true
    → (is_simple_and_free a ≡ true → FailsBy (fault_of a ws) r) → FailsBy (fault_of b ws) r
kinds_of a b ws r e simple h =
    subst (λ (x : App). FailsBy (fault_of x ws) r) e (h (subst (λ (x : App). is_simple_and_free x ≡ true) (sym e) simple))
