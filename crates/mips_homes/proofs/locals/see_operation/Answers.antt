use Rattle.std.proofs.Common.{[], ◌∷◌, subst}
use Rattle.std.proofs.lemmas.List.{append-nil}
use Rattle.std.proofs.lemmas.Result.{IfOk-weaker}
use Rattle.mips_homes.specs.Walks.{Sees}
use Rattle.mips_homes.proofs.Seeing.{sees_then}
use Rattle.mips_homes.proofs.locals.see_operation.Goals as goal

pub returns : goal.returns
returns c = IfOk-weaker c.see_write.result _ _ (λ r h. subst
    (λ xs. Sees c.args.k c.args.sights.now.items c.see_write.new.sights.items xs (c.args.d ∷ [])) (append-nil c.args.xs.now)
    (sees_then c.args.k _ _ _ c.args.xs.now [] (c.args.d ∷ []) c.in_ok-see_all.ensures h)) c.see_write.ensures
