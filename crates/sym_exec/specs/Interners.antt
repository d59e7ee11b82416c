-- What calls leave of an interner.
use Rattle.std.specs.Prelude.{◌≡◌, Result, OnErr}
use Rattle.term_table.specs.Passes.{linked}
use Rattle.sym_exec.specs.declared.interner.Interner.{Interner}
use Rattle.sym_exec.specs.Standing.{Later}

-- it goes on: the pass is the one that it had, so the table is too, and it is later
pub record GoesOn (before after : Interner) : Type 0 where
  pub same_reference : after.pass.ghost_name ≡ before.pass.ghost_name
  pub later : Later before.pass.now after.pass.now

-- after some calls that make terms it goes on, and the pass has linked all it may where there is no answer
pub record Interns {A E : Type 0} (before : Interner) (result : Result A E) (after : Interner) : Type 0 where
  pub same_reference : after.pass.ghost_name ≡ before.pass.ghost_name
  pub later : Later before.pass.now after.pass.now
  pub full : OnErr result (linked after.pass.now ≡ after.pass.now.nodes)
