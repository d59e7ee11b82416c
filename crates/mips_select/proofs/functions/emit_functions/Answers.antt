use Rattle.std.proofs.Common.{◌∙◌, arith, drop, length, refl}
use Rattle.std.proofs.lemmas.Option.{slice_get_read}
use Rattle.mips_select.specs.Plans.{linking_of}
use Rattle.mips_select.specs.Whole.{functions_blocks, functions_size}
use Rattle.mips_select.proofs.Blocks.{functions_step, named_here, named_long}
use Rattle.mips_select.proofs.Lists.{all_made, drop_item}
use Rattle.mips_select.proofs.functions.emit_functions.Goals as goal

pub bounds-namings-i : goal.bounds-namings-i
bounds-namings-i c = omega (arith, named_long _ _ c.requires.named, c.loop-i-test.true)

pub emit_function-requires : goal.emit_function-requires
emit_function-requires c =
    let i = c.loop-i.i in
    let lt = c.loop-i-test.true in
    let sizes = drop_item functions_size c.args.functions.now i lt c.index-functions-i.is in
    let within = slice_get_read _ _ i c.index-frames-i.result refl (omega (arith, lt, c.requires.lengths)) c.index-frames-i.is in
    record {
      named = c.as_slice-table.ensures.value ∙ named_here _ _ i _ _ c.requires.named lt c.index-functions-i.is c.index-namings-i.is;
      number = omega (arith, sizes, c.loop-i.invariant.0, c.requires.number, c.len-k.ensures);
      frame = (c.requires.frames).by i c.index-frames-i.result within;
      function = (c.requires.functions).by i c.index-functions-i.result (slice_get_read _ _ i _ refl lt c.index-functions-i.is);
    }

pub loop-i-preserved : goal.loop-i-preserved
loop-i-preserved c =
    functions_step _ c.loop-i.i c.args.functions.now c.args.frames.now c.index-functions-i.result c.index-frames-i.result _
    c.loop-i-test.true c.requires.lengths c.index-functions-i.is c.index-frames-i.is
    (omega (arith, c.len-k.ensures)) c.in_ok-emit_function.ensures c.loop-i.invariant

pub returns : goal.returns
returns c =
    all_made (λ fs. functions_blocks (linking_of c.args.linkage.now) (length c.loop-i.emitter.blocks.items) fs (drop c.loop-i.i c.args.frames.now))
    c.args.functions.now c.loop-i.i c.loop-i-test.false refl c.loop-i.invariant.1
