use Rattle.std.proofs.Common.{sym, ap, subst, ◌∙◌}
use Rattle.std.specs.Prelude.{slice_index}
use Rattle.image.specs.Images.{ImageParts, IsImage}
use Rattle.image.specs.Views.{version_of}
use Rattle.mips_asm.specs.Emitted.{AreUnits}
use Rattle.mips_asm.proofs.Units.{unit_orders, image_made, each_assembled_image_runs}
use Rattle.mips_asm.proofs.assembly.image_of.Goals as goal

pub code_of-requires-clause-unit : goal.code_of-requires-clause-unit
code_of-requires-clause-unit c =
    let orders = c.args.orders.now in
    subst (λ owner. AreUnits (slice_index owner) orders) (sym c.owner.ensures.value)
    (unit_orders c.args.unit.now orders c.owner.ensures.sound c.requires.orders)

pub of-requires : goal.of-requires
of-requires c =
    image_made c.args.unit.now c.args.orders.now
    (version_of c.args.counts) c.in_ok-code.code.items c.in_ok-bytes.bytes.items c.owner.ensures.sound c.requires.orders c.in_ok-code.ensures.within.1
    c.requires.version c.in_ok-code.ensures.word (c.in_ok-bytes.ensures.items ∙ c.globals.ensures.value) c.in_ok-code.ensures.fit

pub returns-clause-runs : goal.returns-clause-runs
returns-clause-runs c =
    let bytes = c.in_ok-bytes.ensures.items ∙ c.globals.ensures.value in
    let image = image_made c.args.unit.now c.args.orders.now
    (version_of c.args.counts) c.in_ok-code.code.items c.in_ok-bytes.bytes.items c.owner.ensures.sound c.requires.orders c.in_ok-code.ensures.within.1
    c.requires.version c.in_ok-code.ensures.word bytes c.in_ok-code.ensures.fit in
    each_assembled_image_runs c.args.unit.now c.args.orders.now c.of.result c.requires.orders
    (record {
      code = ap (λ (i : ImageParts). i.code) c.of.ensures ∙ c.in_ok-code.ensures.word;
      bytes = ap (λ (i : ImageParts). i.bytes) c.of.ensures ∙ bytes;
      entry = ap (λ (i : ImageParts). i.entry) c.of.ensures;
    })
    (subst IsImage (sym c.of.ensures) image) c.in_ok-code.ensures.fit
