-- How the delay rules print.
use Rattle.std.specs.Prelude.{ℕ, List, codes}
use Rattle.mblock.specs.declared.unclean.Unclean.{Unclean}
use Rattle.mblock.specs.declared.unclean.Unclean.TheVariants.{LoadUse, ProductAfterMove, SlotLoadOrMove, ExitLoad}

abbrev pub unclean_text : Unclean → List ℕ
unclean_text LoadUse = codes "U1"
unclean_text ProductAfterMove = codes "U2"
unclean_text SlotLoadOrMove = codes "U3"
unclean_text ExitLoad = codes "U4"
