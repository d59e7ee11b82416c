use Rattle.std.proofs.Common.{◌≡◌, ◌++◌, drop, map}
use Rattle.words.specs.Words.{wrap}
use Rattle.words.specs.Widths.{kept}
use Rattle.mips_select.specs.Data.{elements_bytes}
use Rattle.mips_select.proofs.globals.push_elements.Given as goal

abbrev pub invariant-loop-v : goal.invariant-loop-v
invariant-loop-v l =
    l.bytes.items ++ elements_bytes l.width (map (λ v. kept l.width (wrap v)) (drop l.v-index l.values))
    ≡ l.fn.bytes.items ++ elements_bytes l.width (map (λ v. kept l.width (wrap v)) l.values)
