use Rattle.std.proofs.Common.{◌≡◌, ℕ, ◌+◌, ◌∷◌, drop, arith}
use Rattle.std.specs.Prelude.{slice_index}
use Rattle.mips_select.specs.Split.{more_pieces, count_of, owners_from}
use Rattle.mips_select.proofs.Lists.{drop_item, made_more}
use Rattle.mips_select.proofs.pieces.owners_of.Goals as goal

pub loop-i-preserved : goal.loop-i-preserved
loop-i-preserved c =
    let long = c.args.long.now in
    let owner = c.args.owner.now in
    let i = c.loop-i.i in
    let lt = c.loop-i-test.true in
    let b = c.index-long-i.result in
    let place = λ (n : ℕ). slice_index c.args.numbers.now n in
    let count : 1 + more_pieces 512 b ≡ count_of 512 b = omega arith in
    rw (c.in_ok-push_copies.ensures, c.number_at-first.ensures, c.number.ensures.value, c.count_more.ensures.value, count)
    (made_more (λ bs. owners_from 512 place bs (drop i owner)) long i _ _ _ lt c.index-long-i.is
    (drop_item (owners_from 512 place (b ∷ drop (i + 1) long)) owner i (omega (arith, lt, c.requires)) c.index-owner-i.is) c.loop-i.invariant)
