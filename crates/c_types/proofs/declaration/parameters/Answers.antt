use Rattle.std.proofs.Common.{◌∙◌, sym, ap, take, get_or}
use Rattle.std.proofs.lemmas.List.{take_all, take_more}
use Rattle.c_tree.specs.declared.tree.Parameter.{Parameter}
use Rattle.c_tokens.specs.declared.token.IntegerType.TheVariants.{SignedInt}
use Rattle.c_statements.specs.Shape.{scopes_of}
use Rattle.c_statements.specs.Names.{Scopes, with_local}
use Rattle.c_types.proofs.Parameters.{one-more, behind-more}
use Rattle.c_types.proofs.declaration.parameters.Goals as goal

pub loop-parameter-preserved : goal.loop-parameter-preserved
loop-parameter-preserved c =
    let d : Parameter = record { integer_type = SignedInt; name = record { at = 0; length = 0 } } in
    let p : Parameter = get_or c.args.all.now c.loop-parameter.parameter-index d in
    rw (take_more c.args.all.now c.loop-parameter.parameter-index d c.loop-parameter-test.true) (
      c.in_ok-declare_local.ensures.scopes ∙ ap (λ (s : Scopes). with_local c.args.program.now.text.items s p.integer_type p.name) c.loop-parameter.invariant.0
          ∙ sym (behind-more c.args.program.now.text.items (scopes_of c.args.scopes.now) (take c.loop-parameter.parameter-index c.args.all.now) p),
      one-more _ _ _ c.loop-parameter.invariant.0 c.loop-parameter.invariant.1 c.parameter_fault.ensures c.either-fault.ensures.ok c.either-fault.ensures.err,
    )

pub returns-clause-faults : goal.returns-clause-faults
returns-clause-faults c = rw (take_all c.loop-parameter.parameter-index c.args.all.now c.loop-parameter-test.false) at c.loop-parameter.invariant.1
