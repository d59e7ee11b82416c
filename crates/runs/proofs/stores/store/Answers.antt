use Rattle.std.proofs.Common.{get_or, refl, arith}
use Rattle.std.proofs.lemmas.List.{set-get_or}
use Rattle.runs.proofs.Kept.{stored-there, stored-outside, stored-nowhere}
use Rattle.runs.proofs.stores.store.Goals as goal

pub returns-then-index-len-clause-stored : goal.returns-then-index-len-clause-stored
returns-then-index-len-clause-stored c =
    let words = get_or c.args.globals.now c.args.global c.index-globals-global.result in
    stored-there c.args.globals.now c.args.global c.args.index c.args.v c.index-globals-global.result _ c.if-global-globals.true
    (omega (arith, c.if-index-len.true, c.len.ensures, words.ok.0)) refl

pub returns-else-index-len-clause-stored : goal.returns-else-index-len-clause-stored
returns-else-index-len-clause-stored c =
    let words = get_or c.args.globals.now c.args.global c.index-globals-global.result in
    stored-outside c.args.globals.now c.args.global c.args.index c.args.v c.index-globals-global.result c.if-global-globals.true
    (omega (arith, c.if-index-len.false, c.len.ensures, words.ok.0))

pub returns-else-index-len-clause-outside : goal.returns-else-index-len-clause-outside
returns-else-index-len-clause-outside c = λ _. set-get_or c.args.globals.now c.args.global _

pub returns-else-global-globals-clause-stored : goal.returns-else-global-globals-clause-stored
returns-else-global-globals-clause-stored c = stored-nowhere c.args.globals.now c.args.global c.args.index c.args.v c.if-global-globals.false
