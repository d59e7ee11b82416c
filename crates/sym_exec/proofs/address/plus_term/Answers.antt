use Rattle.std.proofs.Common.{ne_eqb}
use Rattle.words.specs.declared.operator.Operator.TheVariants.{Addu}
use Rattle.sym_terms.specs.declared.label.Label.TheVariants.{Op}
use Rattle.sym_terms.specs.Trees.{none}
use Rattle.sym_terms.specs.NormalForms.{const_tree}
use Rattle.sym_exec.proofs.Tickets.{still_seen, still_tree, err_always}
use Rattle.sym_exec.proofs.Parts.{lacks_second}
use Rattle.sym_exec.proofs.address.plus_term.Goals as goal

pub binary-requires-clause-a : goal.binary-requires-clause-a
binary-requires-clause-a c = still_seen c.in_ok-constant.ensures.pass.later.extends c.args.base c.requires

pub returns-clause-tree : goal.returns-clause-tree
returns-clause-tree c = λ x h.
    rw (ne_eqb c.args.offset 0 c.if-offset-eq0.false)
    (c.binary.ensures.tree x _ (still_tree c.in_ok-constant.ensures.pass.later.extends h) c.in_ok-constant.ensures.tree)

pub returns-in_err-constant-clause-absent : goal.returns-in_err-constant-clause-absent
returns-in_err-constant-clause-absent c = λ x h.
    rw (ne_eqb c.args.offset 0 c.if-offset-eq0.false) (err_always _
    (lacks_second c.leaf.new.self.pass.now (Op Addu) x (const_tree c.args.offset) none c.in_err-constant.ensures.absent))

pub returns-clause-absent : goal.returns-clause-absent
returns-clause-absent c = λ x h.
    rw (ne_eqb c.args.offset 0 c.if-offset-eq0.false)
    (c.binary.ensures.absent x _ (still_tree c.in_ok-constant.ensures.pass.later.extends h) c.in_ok-constant.ensures.tree)
