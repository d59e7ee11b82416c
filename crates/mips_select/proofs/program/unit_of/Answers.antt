use Rattle.std.proofs.Common.{◌≡◌, ◌<◌, ◌∙◌, sym, subst, length}
use Rattle.mblock.specs.declared.limits.TheConstants.{UNIT_BLOCKS}
use Rattle.mblock.specs.Units.{AreLinked}
use Rattle.mips_select.specs.Split.{split_blocks}
use Rattle.mips_select.specs.Whole.{unit_for}
use Rattle.mips_select.specs.Laws.{KeepsRuns}
use Rattle.std.proofs.lemmas.Result.{IfOk-weaker, IfErr-weaker}
use Rattle.mips_select.proofs.Linked.{program_well}
use Rattle.mips_select.proofs.Selecting.{bytes_fit, unit_is, owned_as}
use Rattle.mips_select.proofs.Theorem.{each_unit}
use Rattle.mips_select.proofs.program.unit_of.Goals as goal

pub split_unit-requires-clause-linked : goal.split_unit-requires-clause-linked
split_unit-requires-clause-linked c =
    subst AreLinked (sym c.requires.blocks) (program_well c.args.homed.now c.globals.ensures.sound c.requires.places.long).0

pub split_unit-requires-clause-owners : goal.split_unit-requires-clause-owners
split_unit-requires-clause-owners c =
    owned_as c.requires.blocks (c.as_slice.ensures.value ∙ c.requires.owners)
    (program_well c.args.homed.now c.globals.ensures.sound c.requires.places.long).1

pub split_unit-requires-clause-few : goal.split_unit-requires-clause-few
split_unit-requires-clause-few c = bytes_fit _ _ _ c.globals.ensures.sound c.globals.ensures.value c.in_ok-bytes.ensures

pub returns-clause-unit : goal.returns-clause-unit
returns-clause-unit c =
    let same = unit_is c.args.homed.now c.requires.blocks (c.as_slice.ensures.value ∙ c.requires.owners) c.globals.ensures.value c.in_ok-bytes.ensures in
    IfOk-weaker c.split_unit.result _ (λ u. u ≡ unit_for c.args.homed.now) (λ u is. is ∙ same) c.split_unit.ensures.unit

pub returns-clause-runs : goal.returns-clause-runs
returns-clause-runs c = IfOk-weaker c.split_unit.result (λ u. u ≡ unit_for c.args.homed.now) _
    (λ u is depth fit. subst (KeepsRuns c.args.homed.now.rtl.now depth) (sym is)
    (each_unit c.args.homed.now depth c.globals.ensures.sound c.requires.places fit)) (returns-clause-unit c)

pub returns-clause-limit : goal.returns-clause-limit
returns-clause-limit c = IfErr-weaker c.split_unit.result _ _
    (λ e many is. subst (λ l. UNIT_BLOCKS < length (split_blocks l)) c.requires.blocks (many is)) c.split_unit.ensures.limit
