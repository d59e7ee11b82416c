use Rattle.std.proofs.Common.{rules}
use Rattle.c_statements.specs.Shape.{scopes_of}
use Rattle.c_typed.specs.Shape.{function_of}
use Rattle.c_types.specs.Programs.{variable_typed, array_typed}
use Rattle.c_types.proofs.Declarations.{function-typed}
use Rattle.c_types.proofs.program.body.Goals as goal

pub returns-in-Variable-clause-typed : goal.returns-in-Variable-clause-typed
returns-in-Variable-clause-typed c =
    record { ok = λ f e. rw (c.in-Variable.is, c.initial_word.ensures) variable_typed; none = search rules; err = tt }

pub returns-in-Array-clause-typed : goal.returns-in-Array-clause-typed
returns-in-Array-clause-typed c =
    record { ok = λ f e. rw c.in-Array.is array_typed; none = search rules; err = tt }

pub returns-in-Ok-clause-typed : goal.returns-in-Ok-clause-typed
returns-in-Ok-clause-typed c =
    record {
      ok =
          rw c.in-Function.is
          (λ f e. function-typed c.args.program.now.text.items f
          (scopes_of c.args.scopes.now).inner c.in-Function.f (function_of c.in-Ok.typed) e c.in-Ok.ensures.typed.ok);
      none = search rules;
      err = tt;
    }

pub returns-in-Err-clause-typed : goal.returns-in-Err-clause-typed
returns-in-Err-clause-typed c =
    record {
      ok = search rules;
      none = search rules;
      err = rw c.in-Function.is c.in-Err.ensures.typed.err;
    }
